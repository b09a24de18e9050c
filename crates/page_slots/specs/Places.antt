-- The places of a page, by index: which bytes of the block each line has.
use Rattle.std.specs.Prelude.{ℕ, ◌≡◌, ◌≢◌, ◌↔◌, ◌+◌, ◌-◌, ◌*◌, ◌<◌, ◌≤◌, ◌==◌, nat_lt, nat_le, if◌then◌else◌, List, length, Option, Some, None}
use Rattle.hier_types.specs.declared.settings.Codec.{Codec}
use Rattle.line_codec.specs.Slots.{fits, stored, used_in}
use Rattle.page_slots.specs.declared.desc.Shape.{Shape}
use Rattle.page_slots.specs.declared.desc.Shape.TheVariants.{Zero, Raw, Slotted}
use Rattle.page_slots.specs.declared.form.Form.{Form}
use Rattle.page_slots.specs.declared.placing.PlaceKind.{PlaceKind}
use Rattle.page_slots.specs.declared.placing.PlaceKind.TheVariants as kinds
use Rattle.page_slots.specs.declared.placing.PlaceRow.{PlaceRow}
use Rattle.page_slots.specs.Descs.{line_of}
use Rattle.page_slots.specs.Forms.{form_of, room, slot_start, Apart}
use Rattle.page_slots.specs.Lines.{meta, chunk_of, slot}
use Rattle.page_slots.specs.Sound.{IsSound}

-- a block of so many bytes
abbrev pub block_row : ℕ → PlaceRow
block_row size = record { kind = kinds.Block; line = 64; at = 0; room = size; used = size }

-- a chunk, all of which says something
abbrev pub chunk_row : PlaceKind → ℕ → ℕ → PlaceRow
chunk_row kind line number = record { kind = kind; line = line; at = 64 * number; room = 64; used = 64 }

-- the slot of line i
abbrev pub slot_row : Form → List ℕ → ℕ → PlaceRow
slot_row form bytes i = record { kind = kinds.Slot; line = i; at = slot_start form i; room = room form i; used = used_in (slot form bytes i) }

-- where line i of a page in such a form stands: in the chunk that its metadata names, or in its slot
unfoldable pub line_row : Form → List ℕ → ℕ → PlaceRow
line_row form bytes i = if nat_le 128 (meta bytes i) then chunk_row kinds.Exception i (chunk_of (meta bytes i)) else slot_row form bytes i

-- the places of a page in such a form: the block, the metadata and the lines
unfoldable pub slotted_place : Form → List ℕ → ℕ → Option PlaceRow
slotted_place form bytes index =
    if index == 0 then Some (block_row (length bytes))
    else if index == 1 then Some (chunk_row kinds.Meta 64 0)
    else if nat_lt index 66 then Some (line_row form bytes (index - 2))
    else None

-- the places of a page whose lines stand one after another: the block and the lines
unfoldable pub raw_place : List ℕ → ℕ → Option PlaceRow
raw_place bytes index =
    if index == 0 then Some (block_row (length bytes))
    else if nat_lt index 65 then Some (chunk_row kinds.Raw (index - 1) (index - 1))
    else None

-- the places of a page
abbrev pub place_of : Shape → List ℕ → ℕ → Option PlaceRow
place_of Zero bytes index = None
place_of Raw bytes index = raw_place bytes index
place_of (Slotted slots) bytes index = slotted_place (form_of slots) bytes index

-- a place lies among so many bytes, and uses no more than it has
pub record IsWithin (size : ℕ) (row : PlaceRow) : Type 0 where
  pub used : row.used ≤ row.room
  pub inside : row.at + row.room ≤ size

-- no byte is in both places
abbrev pub ShareNoByte : PlaceRow → PlaceRow → Type 0
ShareNoByte row other = Apart row.at row.room other.at other.room

-- each place of a sound page lies in its block
abbrev pub PlacesFit : Type 0
PlacesFit = (codec : Codec) (shape : Shape) (bytes : List ℕ) (index : ℕ) (row : PlaceRow) → IsSound codec shape bytes
    → place_of shape bytes index ≡ Some row → IsWithin (length bytes) row

-- no two places of a sound page share a byte, but for the whole block
abbrev pub PlacesAreApart : Type 0
PlacesAreApart = (codec : Codec) (shape : Shape) (bytes : List ℕ) (i j : ℕ) (row other : PlaceRow) → IsSound codec shape bytes
    → 1 ≤ i → 1 ≤ j → i ≢ j → place_of shape bytes i ≡ Some row → place_of shape bytes j ≡ Some other
    → ShareNoByte row other

-- the place of this index is there, and is that of the line
pub record IsPlaceOf (shape : Shape) (bytes : List ℕ) (line index : ℕ) : Type 0 where
  pub row : PlaceRow
  pub there : place_of shape bytes index ≡ Some row
  pub is_line : row.line ≡ line

-- how many places stand before those of the lines
abbrev pub places_before : Shape → ℕ
places_before Zero = 0
places_before Raw = 1
places_before (Slotted slots) = 2

-- each line of a page that is not zero has one place, behind those that are no line's
abbrev pub LinesHaveOnePlace : Type 0
LinesHaveOnePlace = (shape : Shape) (bytes : List ℕ) (line index : ℕ) → shape ≢ Zero → line < 64
    → IsPlaceOf shape bytes line index ↔ (index ≡ line + places_before shape)

-- a line that stands in a slot uses its stored size of it
abbrev pub UsesStored : Codec → List ℕ → PlaceRow → Type 0
UsesStored codec line row = row.kind ≡ kinds.Slot → stored codec line ≡ Some row.used

-- the kind of the place of line i of a page in such a form: its slot, where the line fits it, and else a chunk
abbrev pub kind_for : Codec → Form → ℕ → List ℕ → PlaceKind
kind_for codec form i line = if fits codec (room form i) line then kinds.Slot else kinds.Exception

-- a place is of the kind that it has to be for this line
abbrev pub HasKindFor : Codec → Shape → List ℕ → PlaceRow → Type 0
HasKindFor codec Zero line row = ⊥
HasKindFor codec Raw line row = row.kind ≡ kinds.Raw
HasKindFor codec (Slotted slots) line row = row.kind ≡ kind_for codec (form_of slots) row.line line

-- a place is that of this line
pub record SuitsLine (codec : Codec) (shape : Shape) (line : List ℕ) (row : PlaceRow) : Type 0 where
  pub kind : HasKindFor codec shape line row
  pub used : UsesStored codec line row

-- each place of a line of a sound page is as that line asks
abbrev pub PlacesSuitLines : Type 0
PlacesSuitLines = (codec : Codec) (shape : Shape) (bytes : List ℕ) (index : ℕ) (row : PlaceRow) → IsSound codec shape bytes
    → place_of shape bytes index ≡ Some row → row.line < 64 → SuitsLine codec shape (line_of shape bytes row.line) row
