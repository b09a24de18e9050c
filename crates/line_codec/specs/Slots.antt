-- Sizes of lines under a codec, and lines in slots. A slot begins with a header that names the codec: a row of
-- base-delta-immediate is its own header, 0 to 7, and 8 is the header of frequent patterns.
use Rattle.std.specs.Prelude.{◌≡◌, ℕ, ◌⊎◌, ◌+◌, ◌-◌, ◌<◌, ◌≤◌, Bool, false, List, [], ◌∷◌, ◌++◌, ◌==◌, nat_lt, nat_le, if◌then◌else◌, take, drop, length, replicate, All, Option, Some, None, unwrap_or}
use Rattle.std.specs.Option.{option_map_or}
use Rattle.hier_types.specs.declared.settings.Codec.{Codec}
use Rattle.hier_types.specs.declared.settings.Codec.TheVariants.{Bdi, Fpc}
use Rattle.bdi_codec.specs.Bytes.{number_of, bytes_of}
use Rattle.bdi_codec.specs.Rows.{size_of, mask_size_of, least_row, mask_in, payload_in, meaning}
use Rattle.fpc_codec.specs.Line as patterns
use Rattle.fpc_codec.specs.Reading.{line_said}

-- the bytes of the line's encoding, or 64 where the codec does not shorten it
abbrev pub size_under : Codec → List ℕ → ℕ
size_under Bdi line = size_of (least_row line)
size_under Fpc line = patterns.size_of line

-- the bytes of the mask that stands behind the payload: frequent patterns have none
abbrev pub mask_size_under : Codec → List ℕ → ℕ
mask_size_under Bdi line = mask_size_of (least_row line)
mask_size_under Fpc line = 0

-- the bytes that the line takes in a slot, the header among them; None where the codec does not shorten it
abbrev pub stored : Codec → List ℕ → Option ℕ
stored codec line = if size_under codec line == 64 then None else Some (1 + size_under codec line + mask_size_under codec line)

-- the line has a stored size of at most `room` bytes
abbrev pub fits : Codec → ℕ → List ℕ → Bool
fits codec room line = option_map_or (λ bytes. nat_le bytes room) (stored codec line) false

-- the header, the payload and the mask of a line that has a stored size
unfoldable pub encoding : Codec → List ℕ → List ℕ
encoding Bdi line =
    let row = least_row line in
    row ∷ payload_in row line ++ bytes_of (mask_size_of row) (mask_in row line)
encoding Fpc line = 8 ∷ patterns.encoding_of line

-- the bytes, then zeros up to `room` bytes
abbrev pub padded : ℕ → List ℕ → List ℕ
padded room bytes = bytes ++ replicate (room - length bytes) 0

-- the line that a row and the bytes after it say
unfoldable pub bdi_meaning : ℕ → List ℕ → Option (List ℕ)
bdi_meaning row bytes =
    let size = size_of row in
    let mask_size = mask_size_of row in
    if nat_lt (length bytes) (size + mask_size) then None
    else meaning row (number_of (take mask_size (drop size bytes))) (take size bytes)

-- the slot says the line; what stands behind the encoding says nothing
unfoldable pub Says : List ℕ → List ℕ → Type 0
Says [] line = ⊥
Says (header ∷ bytes) line =
    ((header ≤ 7) × (bdi_meaning header bytes ≡ Some line)) ⊎ ((header ≡ 8) × patterns.Means bytes line)

-- the slot begins with these bytes
abbrev pub Begins : List ℕ → List ℕ → Type 0
Begins front slot = take (length front) slot ≡ front

-- the line that a slot says, where it says one; what stands behind the encoding is not read
unfoldable pub line_in : List ℕ → List ℕ
line_in [] = []
line_in (header ∷ bytes) = if nat_le header 7 then unwrap_or (bdi_meaning header bytes) [] else line_said bytes

-- the bytes of the slot that say it, where the codes of frequent patterns are the line's least: the header, the
-- payload and the mask
unfoldable pub used_in : List ℕ → ℕ
used_in [] = 0
used_in (header ∷ bytes) = if nat_le header 7 then 1 + size_of header + mask_size_of header else 1 + patterns.size_of (line_said bytes)

-- a slot that begins with the encoding of a line says that line, in as many bytes as the line's stored size
abbrev pub SlotsSayLines : Type 0
SlotsSayLines = (codec : Codec) (line slot : List ℕ) (n : ℕ) → length line ≡ 64 → All (λ byte. byte < 256) line
    → stored codec line ≡ Some n → Begins (encoding codec line) slot → (line_in slot ≡ line) × (used_in slot ≡ n)
