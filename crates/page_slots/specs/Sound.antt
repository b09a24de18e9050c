-- Pages whose bytes are as their shapes say.
use Rattle.std.specs.Prelude.{ℕ, ◌≡◌, ◌+◌, ◌*◌, ◌<◌, ◌≤◌, List, length}
use Rattle.hier_types.specs.declared.settings.Codec.{Codec}
use Rattle.line_codec.specs.Layout.{IsTarget, cap}
use Rattle.page_slots.specs.declared.desc.Shape.{Shape}
use Rattle.page_slots.specs.declared.desc.Shape.TheVariants.{Zero, Raw, Slotted}
use Rattle.page_slots.specs.declared.desc.Slots.{Slots}
use Rattle.page_slots.specs.declared.desc.Slots.TheVariants.{Packed, Mid}
use Rattle.page_slots.specs.Forms.{form_of, order_of}
use Rattle.page_slots.specs.Lines.{content_at, HasLines}

-- the lengths of the slots are targets: a half-moved page has two, and a line at which they meet
abbrev pub HaveTargets : Slots → Type 0
HaveTargets (Packed order target) = IsTarget target
HaveTargets (Mid order small large at) = IsTarget small × (IsTarget large × ((small < large) × ((1 ≤ at) × (at ≤ 63))))

-- a block whose bytes are so many has room for the slots, and for 64 of the larger length
pub record HoldsSlots (slots : Slots) (size : ℕ) : Type 0 where
  pub order_in : order_of slots ≤ 2
  pub targets : HaveTargets slots
  pub slots_in : 1 + (form_of slots).large ≤ cap (order_of slots)
  pub is_size : size ≡ 64 * cap (order_of slots)

-- each line of a page in slots stands in its slot exactly where it fits it, else in a chunk of its own above the slots
pub record IsSlotted (codec : Codec) (slots : Slots) (bytes : List ℕ) : Type 0 where
  pub holds : HoldsSlots slots (length bytes)
  pub lines : HasLines codec (form_of slots) bytes (content_at (form_of slots) bytes)

-- the bytes of a page are as its shape says
abbrev pub IsSound : Codec → Shape → List ℕ → Type 0
IsSound codec Zero bytes = length bytes ≡ 0
IsSound codec Raw bytes = length bytes ≡ 4096
IsSound codec (Slotted slots) bytes = IsSlotted codec slots bytes
