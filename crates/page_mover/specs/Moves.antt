-- What a turn makes of a page.
use Rattle.std.specs.Prelude.{ℕ, ◌≡◌, ◌-◌, ◌+◌, ◌<◌, ◌≤◌, List}
use Rattle.hier_types.specs.declared.settings.Codec.{Codec}
use Rattle.byte_parts.specs.Parts.{part}
use Rattle.line_codec.specs.Layout.{cap}
use Rattle.page_plan.specs.declared.least.PagePlan.{PagePlan}
use Rattle.page_plan.specs.declared.least.PagePlan.TheVariants as plans
use Rattle.page_slots.specs.declared.desc.Shape.{Shape}
use Rattle.page_slots.specs.declared.desc.Shape.TheVariants as shapes
use Rattle.page_slots.specs.declared.desc.Slots.{Slots}
use Rattle.page_slots.specs.declared.desc.Slots.TheVariants.{Packed, Mid}
use Rattle.page_slots.specs.Descs.{content_of, size_of}
use Rattle.page_slots.specs.Forms.{form_of, order_of}
use Rattle.page_slots.specs.Laid.{bytes_for}
use Rattle.page_slots.specs.Lines.{meta, chunk_of, content_at}
use Rattle.page_slots.specs.Moves.{moved_down, form_down, next_down, moved_up, form_up, next_up, Hoists}
use Rattle.page_slots.specs.Puts.{GoesToPlace}
use Rattle.page_slots.specs.Sound.{IsSound}
use Rattle.page_mover.specs.declared.turning.Turn.{Turn}
use Rattle.page_mover.specs.declared.turning.Turn.TheVariants.{Next, Zero, Rewrite, Down, Up, Hoist, Halve}
use Rattle.page_mover.specs.Turns.{turn_of}

-- a page that a turn leaves has the first bytes of the block that it had
abbrev pub body : Shape → List ℕ → List ℕ
body shape bytes = part 0 (size_of shape) bytes

-- the first half of the block has all that the page needs
abbrev pub CanHalve : Slots → List ℕ → Type 0
CanHalve (Packed order target) bytes = (1 ≤ order) × ((1 + target ≤ cap (order - 1)) × ((i : ℕ) → i < 64 → 128 ≤ meta bytes i → chunk_of (meta bytes i) < cap (order - 1)))
CanHalve (Mid order small large at) bytes = ⊥

-- the page that is left is sound in the front of the block, and has these lines
pub record Keeps (codec : Codec) (lines : List (List ℕ)) (next : Shape) (new : List ℕ) : Type 0 where
  pub sound : IsSound codec next (body next new)
  pub content : content_of next (body next new) ≡ lines

-- the page is in the first half of its block
abbrev pub Halves : Shape → Shape → Type 0
Halves (shapes.Slotted (Packed order target)) next = next ≡ shapes.Slotted (Packed (order - 1) target)
Halves shape next = ⊥

-- one line moved to a slot of another length: to its place there, and nothing else changed
abbrev pub Shifts : Codec → Shape → List ℕ → Turn → Shape → List ℕ → Type 0
Shifts codec (shapes.Slotted slots) old (Down small) next new = (next ≡ shapes.Slotted (moved_down slots small))
    × GoesToPlace codec (form_down slots small) (next_down slots) (content_at (form_of slots) old (next_down slots)) old new
Shifts codec (shapes.Slotted slots) old (Up large) next new = (next ≡ shapes.Slotted (moved_up slots large))
    × GoesToPlace codec (form_up slots large) (next_up slots) (content_at (form_of slots) old (next_up slots)) old new
Shifts codec shape old turn next new = ⊥

-- one exception moved to another chunk, and nothing else changed
abbrev pub HoistsIn : Shape → ℕ → ℕ → ℕ → List ℕ → Shape → List ℕ → Type 0
HoistsIn (shapes.Slotted slots) low high above old next new = (next ≡ shapes.Slotted slots) × Hoists (form_of slots) low high above old new
HoistsIn shape low high above old next new = ⊥

-- what each turn makes
abbrev pub Makes : Codec → Shape → List ℕ → Turn → Shape → List ℕ → Type 0
Makes codec shape old Next next new = (next ≡ shape) × (new ≡ old)
Makes codec shape old Zero next new = (next ≡ shapes.Zero) × (new ≡ old)
Makes codec shape old (Rewrite order target) next new = (next ≡ shapes.Slotted (Packed order target)) × (body next new ≡ bytes_for codec next (content_of shape old))
Makes codec shape old (Down small) next new = Shifts codec shape old (Down small) next new
Makes codec shape old (Up large) next new = Shifts codec shape old (Up large) next new
Makes codec shape old (Hoist low high above) next new = HoistsIn shape low high above old next new
Makes codec shape old Halve next new = Halves shape next × (new ≡ old)

-- the turn is that of the first row that holds, the page that is left is what this row makes, and it is sound with the same lines
pub record MakesTurn (codec : Codec) (shape : Shape) (old : List ℕ) (turn : Turn) (next : Shape) (new : List ℕ) : Type 0 where
  pub row : turn ≡ turn_of codec shape old
  pub makes : Makes codec shape old turn next new
  pub keeps : Keeps codec (content_of shape old) next new

-- the plan wants no larger block than a page in slots has
abbrev pub FitsBlock : Shape → PagePlan → Type 0
FitsBlock (shapes.Slotted slots) (plans.Packed order target exceptions) = order ≤ order_of slots
FitsBlock (shapes.Slotted slots) plans.Raw = ⊥
FitsBlock shape plan = Unit {0}
