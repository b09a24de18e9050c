-- Where the slots of a page are, and how many chunks its block has.
use Rattle.std.specs.Prelude.{ℕ, ◌≡◌, ◌⊎◌, ◌+◌, ◌*◌, ◌≤◌, nat_lt, if◌then◌else◌}
use Rattle.line_codec.specs.Layout.{cap, slot_at}
use Rattle.page_slots.specs.declared.desc.Slots.{Slots}
use Rattle.page_slots.specs.declared.desc.Slots.TheVariants.{Packed, Mid}
use Rattle.page_slots.specs.declared.form.Form.{Form}

-- in a packed page all slots have the same length
abbrev pub packed_form : ℕ → ℕ → Form
packed_form order target = record { small = target; large = target; at = 0; chunks = cap order }

-- where the slots of a page are
abbrev pub form_of : Slots → Form
form_of (Packed order target) = packed_form order target
form_of (Mid order small large at) = record { small = small; large = large; at = at; chunks = cap order }

-- the order of the block in which they are
abbrev pub order_of : Slots → ℕ
order_of (Packed order target) = order
order_of (Mid order small large at) = order

-- the slots lie in a block of so many bytes
pub record IsForm (form : Form) (size : ℕ) : Type 0 where
  pub ordered : form.small ≤ form.large
  pub slots_in : 1 + form.large ≤ form.chunks
  pub few : form.chunks ≤ 32
  pub is_size : size ≡ 64 * form.chunks

-- the bytes of the slot of line i
unfoldable pub room : Form → ℕ → ℕ
room form i = if nat_lt i form.at then form.small else form.large

-- its first byte, counted from the block's first byte
unfoldable pub slot_start : Form → ℕ → ℕ
slot_start form i = slot_at (room form i) i

-- m bytes from i on and n bytes from `at` on share no byte
abbrev pub Apart : ℕ → ℕ → ℕ → ℕ → Type 0
Apart i m at n = (i + m ≤ at) ⊎ (at + n ≤ i)
