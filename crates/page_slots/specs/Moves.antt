-- A line that moves to a slot of another length, and an exception that moves to another chunk.
use Rattle.std.specs.Prelude.{ℕ, ◌≡◌, ◌≢◌, ◌+◌, ◌-◌, ◌<◌, ◌≤◌, ◌==◌, if◌then◌else◌, List, length}
use Rattle.line_codec.specs.Layout.{IsTarget, cap}
use Rattle.page_slots.specs.declared.desc.Slots.{Slots}
use Rattle.page_slots.specs.declared.desc.Slots.TheVariants.{Packed, Mid}
use Rattle.page_slots.specs.declared.form.Form.{Form}
use Rattle.page_slots.specs.declared.moving.Step.{Step}
use Rattle.page_slots.specs.Forms.{form_of, IsForm, room}
use Rattle.page_slots.specs.Lines.{meta, chunk_of, content_at}
use Rattle.page_slots.specs.Puts.{IsFree, AllTaken, IsLowestFree, in_chunk}
use Rattle.page_slots.specs.Sound.{HoldsSlots}

-- the line that moves next to a smaller slot: the first that has not moved yet
abbrev pub next_down : Slots → ℕ
next_down (Packed order target) = 0
next_down (Mid order small large at) = at

-- the form in which this line and those below it have slots of the smaller length
abbrev pub form_down : Slots → ℕ → Form
form_down slots small = record { small = small; large = (form_of slots).large; at = next_down slots + 1; chunks = (form_of slots).chunks }

-- the slots after that: behind the last line the page is packed again
abbrev pub moved_down : Slots → ℕ → Slots
moved_down (Packed order target) small = Mid order small target 1
moved_down (Mid order _ large at) small = if at == 63 then Packed order small else Mid order small large (at + 1)

-- slots of this length are smaller, and are those of the lines that have moved already
abbrev pub CanMoveDown : Slots → ℕ → Type 0
CanMoveDown (Packed order target) small = IsTarget small × (small < target)
CanMoveDown (Mid order small large at) next = next ≡ small

-- the line that moves next to a larger slot: the last that has not moved yet
abbrev pub next_up : Slots → ℕ
next_up (Packed order target) = 63
next_up (Mid order small large at) = at - 1

-- the form in which this line and those above it have slots of the larger length
abbrev pub form_up : Slots → ℕ → Form
form_up slots large = record { small = (form_of slots).small; large = large; at = next_up slots; chunks = (form_of slots).chunks }

-- the slots after that: behind the first line the page is packed again
abbrev pub moved_up : Slots → ℕ → Slots
moved_up (Packed order target) large = Mid order target large 63
moved_up (Mid order small _ at) large = if at == 1 then Packed order large else Mid order small large (at - 1)

-- slots of this length are larger, lie in the block, and no exception stands in their way; or they are those of the
-- lines that have moved already
abbrev pub CanMoveUp : Slots → ℕ → List ℕ → Type 0
CanMoveUp (Packed order target) large bytes = IsTarget large × ((target < large) × ((1 + large ≤ cap order)
    × ((i : ℕ) → i < 64 → 128 ≤ meta bytes i → large < chunk_of (meta bytes i))))
CanMoveUp (Mid order small large at) next bytes = next ≡ large

abbrev pub step_down : Slots → ℕ → Step
step_down slots small = record { after = form_down slots small; line = next_down slots; next = moved_down slots small }

abbrev pub step_up : Slots → ℕ → Step
step_up slots large = record { after = form_up slots large; line = next_up slots; next = moved_up slots large }

-- in the form after it all lines but the one that moves have the slots that they had, and the exceptions stand above
-- the slots; the slots after it have this form
pub record IsStep (slots : Slots) (bytes : List ℕ) (step : Step) : Type 0 where
  pub line_in : step.line < 64
  pub is_form : IsForm step.after (length bytes)
  pub holds : HoldsSlots step.next (length bytes)
  pub rooms_stay : (i : ℕ) → i < 64 → i ≢ step.line → room step.after i ≡ room (form_of slots) i
  pub rooms_are : (i : ℕ) → i < 64 → room (form_of step.next) i ≡ room step.after i
  pub chunks_stay : step.after.chunks ≡ (form_of slots).chunks
  pub chunks_are : (form_of step.next).chunks ≡ step.after.chunks
  pub above : (i : ℕ) → i < 64 → 128 ≤ meta bytes i → (form_of slots).large < chunk_of (meta bytes i) → step.after.large < chunk_of (meta bytes i)
  pub not_higher : (form_of step.next).large ≤ step.after.large

-- the form with slots up to another chunk
abbrev pub above_form : Form → ℕ → Form
above_form form above = record { small = form.small; large = above; at = form.at; chunks = form.chunks }

-- no exception stands in the chunks from `low` on and below `high`
abbrev pub NoneIn : List ℕ → ℕ → ℕ → Type 0
NoneIn bytes low high = (number : ℕ) → low ≤ number → number < high → IsFree bytes number

-- of the exceptions in these chunks the line has the lowest one
pub record IsLowestIn (bytes : List ℕ) (low high line : ℕ) : Type 0 where
  pub line_in : line < 64
  pub is_exception : 128 ≤ meta bytes line
  pub from : low ≤ chunk_of (meta bytes line)
  pub below : chunk_of (meta bytes line) < high
  pub lowest : (j : ℕ) → j < 64 → 128 ≤ meta bytes j → low ≤ chunk_of (meta bytes j) → chunk_of (meta bytes line) ≤ chunk_of (meta bytes j)

-- of the exceptions in these chunks the one in the lowest goes to the lowest free chunk above `above`, and nothing else changes
pub record Hoists (form : Form) (low high above : ℕ) (old new : List ℕ) : Type 0 where
  pub line : ℕ
  pub taken : IsLowestIn old low high line
  pub number : ℕ
  pub to : IsLowestFree (above_form form above) old number
  pub value : new ≡ in_chunk line (content_at form old line) number old

-- an exception stands in these chunks, and one above `above` is free, above all slots
pub record CanHoist (form : Form) (low high above : ℕ) (bytes : List ℕ) : Type 0 where
  pub some : ¬ NoneIn bytes low high
  pub large_in : form.large ≤ above
  pub above_in : 1 + above ≤ form.chunks
  pub place : ¬ AllTaken (above_form form above) bytes form.chunks
