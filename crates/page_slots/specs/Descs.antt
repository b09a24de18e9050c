-- What a descriptor and the bytes of its block say.
use Rattle.std.specs.Prelude.{ℕ, ◌*◌, List, Option, Some, None}
use Rattle.hier_types.specs.Lines.{zero_line}
use Rattle.hier_types.specs.Tabulate.{tabulate}
use Rattle.buddy_frames.specs.Units.{Place}
use Rattle.page_slots.specs.declared.desc.Desc.{Desc}
use Rattle.page_slots.specs.declared.desc.Desc.TheVariants as desc
use Rattle.page_slots.specs.declared.desc.Shape.{Shape}
use Rattle.page_slots.specs.declared.desc.Shape.TheVariants.{Zero, Raw, Slotted}
use Rattle.page_slots.specs.declared.desc.Slots.TheVariants.{Packed, Mid}
use Rattle.page_slots.specs.Forms.{form_of}
use Rattle.page_slots.specs.Lines.{chunk, content_at}

-- the block of a page
abbrev pub block_of : Desc → Option Place
block_of desc.Zero = None
block_of (desc.Raw block) = Some block
block_of (desc.Packed block target) = Some block
block_of (desc.Mid block small large at) = Some block

-- how the bytes of the block are read
abbrev pub shape_of : Desc → Shape
shape_of desc.Zero = Zero
shape_of (desc.Raw block) = Raw
shape_of (desc.Packed block target) = Slotted (Packed block.order target)
shape_of (desc.Mid block small large at) = Slotted (Mid block.order small large at)

-- the bytes of a page in its block
abbrev pub size_of : Shape → ℕ
size_of Zero = 0
size_of Raw = 4096
size_of (Slotted slots) = 64 * (form_of slots).chunks

-- line i of a page
abbrev pub line_of : Shape → List ℕ → ℕ → List ℕ
line_of Zero bytes i = zero_line
line_of Raw bytes i = chunk bytes i
line_of (Slotted slots) bytes i = content_at (form_of slots) bytes i

-- the 64 lines of a page
abbrev pub content_of : Shape → List ℕ → List (List ℕ)
content_of shape bytes = tabulate (line_of shape bytes) 64
