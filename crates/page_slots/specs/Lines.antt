-- The lines of a page in the bytes of its block. Byte i of the block is the metadata of line i.
use Rattle.std.specs.Prelude.{ℕ, ◌≡◌, ◌≢◌, ◌+◌, ◌*◌, ◌%◌, ◌<◌, ◌≤◌, Bool, List, All, length, nat_le, if◌then◌else◌, slice_index}
use Rattle.std.specs.Bool.{MatchBool}
use Rattle.std.specs.Str.{bytes_eq}
use Rattle.hier_types.specs.declared.settings.Codec.{Codec}
use Rattle.hier_types.specs.Lines.{zero_line}
use Rattle.line_codec.specs.Slots.{encoding, fits, line_in, Begins}
use Rattle.byte_parts.specs.Parts.{part}
use Rattle.page_slots.specs.declared.form.Form.{Form}
use Rattle.page_slots.specs.Forms.{room, slot_start}

-- the metadata of line i. From 128 on the line is an exception
abbrev pub meta : List ℕ → ℕ → ℕ
meta bytes i = slice_index bytes i

-- the chunk that the metadata of an exception names
abbrev pub chunk_of : ℕ → ℕ
chunk_of byte = byte % 64

-- the bytes of a chunk
abbrev pub chunk : List ℕ → ℕ → List ℕ
chunk bytes number = part (64 * number) 64 bytes

-- the bytes of the slot of line i
abbrev pub slot : Form → List ℕ → ℕ → List ℕ
slot form bytes i = part (slot_start form i) (room form i) bytes

-- what the metadata of a line of zeros has more
unfoldable pub mark : List ℕ → ℕ
mark line = if bytes_eq line zero_line then 64 else 0

-- what a line's metadata, slot and chunk say
unfoldable pub says : ℕ → List ℕ → List ℕ → List ℕ
says byte slot chunk = if nat_le 128 byte then chunk else line_in slot

-- line i of a page in such a form
abbrev pub content_at : Form → List ℕ → ℕ → List ℕ
content_at form bytes i = says (meta bytes i) (slot form bytes i) (chunk bytes (chunk_of (meta bytes i)))

-- a line stands in its slot
pub record InSlot (codec : Codec) (byte : ℕ) (slot line : List ℕ) : Type 0 where
  pub marked : byte ≡ mark line
  pub begins : Begins (encoding codec line) slot

-- a line stands in a chunk above the slots
pub record IsException (large chunks byte : ℕ) (chunk line : List ℕ) : Type 0 where
  pub marked : byte ≡ 128 + mark line + chunk_of byte
  pub above : large < chunk_of byte
  pub below : chunk_of byte < chunks
  pub there : chunk ≡ line

-- a line stands in its slot exactly where it fits it
abbrev pub Stands : Codec → Form → List ℕ → ℕ → List ℕ → Bool → Type 0
Stands codec form bytes i line fit = MatchBool fit
    (InSlot codec (meta bytes i) (slot form bytes i) line)
    (IsException form.large form.chunks (meta bytes i) (chunk bytes (chunk_of (meta bytes i))) line)

-- the page has this line as line i
pub record HasLine (codec : Codec) (form : Form) (bytes : List ℕ) (i : ℕ) (line : List ℕ) : Type 0 where
  pub whole : length line ≡ 64
  pub below : All (λ byte. byte < 256) line
  pub stands : Stands codec form bytes i line (fits codec (room form i) line)

-- no line but i has the chunk
abbrev pub IsFreeFor : List ℕ → ℕ → ℕ → Type 0
IsFreeFor bytes i number = (j : ℕ) → j < 64 → j ≢ i → 128 ≤ meta bytes j → chunk_of (meta bytes j) ≢ number

-- no two exceptions have one chunk
abbrev pub AreApart : List ℕ → Type 0
AreApart bytes = (i : ℕ) → i < 64 → 128 ≤ meta bytes i → IsFreeFor bytes i (chunk_of (meta bytes i))

-- the page has these lines
pub record HasLines (codec : Codec) (form : Form) (bytes : List ℕ) (lines : ℕ → List ℕ) : Type 0 where
  pub has : (i : ℕ) → i < 64 → HasLine codec form bytes i (lines i)
  pub apart : AreApart bytes

-- the page has these lines, whatever stands in line i
pub record HasOthers (codec : Codec) (form : Form) (bytes : List ℕ) (i : ℕ) (lines : ℕ → List ℕ) : Type 0 where
  pub has : (j : ℕ) → j < 64 → j ≢ i → HasLine codec form bytes j (lines j)
  pub apart : AreApart bytes
