-- A line that is put into a page: where it goes, and when it has no place.
use Rattle.std.specs.Prelude.{ℕ, ◌≡◌, ◌≢◌, ◌+◌, ◌*◌, ◌<◌, ◌≤◌, true, false, List, Option, Some, None, length, slice_set, ◌==◌, if◌then◌else◌}
use Rattle.hier_types.specs.declared.settings.Codec.{Codec}
use Rattle.byte_parts.specs.Parts.{written}
use Rattle.line_codec.specs.Slots.{encoding, fits, padded}
use Rattle.page_slots.specs.declared.desc.Shape.{Shape}
use Rattle.page_slots.specs.declared.desc.Shape.TheVariants.{Zero, Raw, Slotted}
use Rattle.page_slots.specs.declared.form.Form.{Form}
use Rattle.page_slots.specs.Forms.{form_of, room, slot_start}
use Rattle.page_slots.specs.Lines.{meta, chunk_of, mark, HasLine}

-- no line has the chunk
abbrev pub IsFree : List ℕ → ℕ → Type 0
IsFree bytes number = (j : ℕ) → j < 64 → 128 ≤ meta bytes j → chunk_of (meta bytes j) ≢ number

-- some line has the chunk
pub record IsTaken (bytes : List ℕ) (number : ℕ) : Type 0 where
  pub by : ℕ
  pub by_in : by < 64
  pub is_exception : 128 ≤ meta bytes by
  pub is_chunk : chunk_of (meta bytes by) ≡ number

-- each chunk above the slots and below the limit is taken
abbrev pub AllTaken : Form → List ℕ → ℕ → Type 0
AllTaken form bytes limit = (number : ℕ) → form.large < number → number < limit → IsTaken bytes number

-- the lowest free chunk above the slots
pub record IsLowestFree (form : Form) (bytes : List ℕ) (number : ℕ) : Type 0 where
  pub above : form.large < number
  pub below : number < form.chunks
  pub free : IsFree bytes number
  pub lowest : AllTaken form bytes number

-- the line outgrows its slot, is no exception already, and no chunk is free
pub record HasNoPlace (codec : Codec) (form : Form) (bytes : List ℕ) (line : ℕ) (from : List ℕ) : Type 0 where
  pub outgrows : fits codec (room form line) from ≡ false
  pub has_none : meta bytes line < 128
  pub full : AllTaken form bytes form.chunks

-- the page with a line in its slot, which has the line's encoding and zeros behind it
abbrev pub in_slot : Codec → Form → ℕ → List ℕ → List ℕ → List ℕ
in_slot codec form line from old = slice_set (written (slot_start form line) (padded (room form line) (encoding codec from)) old) line (mark from)

-- the page with a line in a chunk
abbrev pub in_chunk : ℕ → List ℕ → ℕ → List ℕ → List ℕ
in_chunk line from number old = slice_set (written (64 * number) from old) line (128 + mark from + number)

-- the line went to its slot, or to the chunk that it had, or to the lowest free one, and nothing else changed
pub record GoesToPlace (codec : Codec) (form : Form) (line : ℕ) (from old new : List ℕ) : Type 0 where
  pub where_it_fits : fits codec (room form line) from ≡ true → new ≡ in_slot codec form line from old
  pub in_its_chunk : fits codec (room form line) from ≡ false → 128 ≤ meta old line → new ≡ in_chunk line from (chunk_of (meta old line)) old
  pub in_lowest : fits codec (room form line) from ≡ false → meta old line < 128 → (number : ℕ) × (IsLowestFree form old number × (new ≡ in_chunk line from number old))

-- there is no place for the line: in a page whose lines stand one after another there always is one
abbrev pub Overflows : Codec → Shape → List ℕ → ℕ → List ℕ → Type 0
Overflows codec (Slotted slots) bytes line from = HasNoPlace codec (form_of slots) bytes line from
Overflows codec shape bytes line from = ⊥

-- the line went where it belongs, and nothing else changed: in a page whose lines stand one after another each has its
-- one place, and a page of zeros has none
abbrev pub GoesRight : Codec → Shape → ℕ → List ℕ → List ℕ → List ℕ → Type 0
GoesRight codec (Slotted slots) line from old new = GoesToPlace codec (form_of slots) line from old new
GoesRight codec Raw line from old new = new ≡ written (64 * line) from old
GoesRight codec Zero line from old new = ⊥

-- the lines with another one in place of line `line`
abbrev pub with_line : (ℕ → List ℕ) → ℕ → List ℕ → ℕ → List ℕ
with_line lines line from i = if i == line then from else lines i

-- the chunk that is taken by a line with this metadata is not this one, if any
abbrev pub Misses : Option ℕ → ℕ → Type 0
Misses None byte = Unit {0}
Misses (Some number) byte = 128 ≤ byte → chunk_of byte ≢ number

-- the metadata of a line in its slot, or in a chunk
abbrev pub byte_for : Option ℕ → List ℕ → ℕ
byte_for None line = mark line
byte_for (Some number) line = 128 + mark line + number

-- the line is put into its slot or into a chunk, and the lines stay that do not have this chunk
pub record PutsLine (codec : Codec) (form : Form) (line : ℕ) (from : List ℕ) (taken : Option ℕ) (old new : List ℕ) : Type 0 where
  pub same_length : length new ≡ length old
  pub here : HasLine codec form new line from
  pub byte : meta new line ≡ byte_for taken from
  pub clash : (b : ℕ) → 128 ≤ b → Misses taken b → 128 ≤ meta new line → chunk_of b ≢ chunk_of (meta new line)
  pub bytes_stay : (i : ℕ) → i < 64 → i ≢ line → meta new i ≡ meta old i
  pub lines_stay : (i : ℕ) (other : List ℕ) → i < 64 → i ≢ line → Misses taken (meta old i) → HasLine codec form old i other → HasLine codec form new i other
