-- The rows in which a line of 64 bytes can be kept, by number (Pekhimenko et al., PACT 2012, whose table of encodings this follows).
use Rattle.std.specs.Prelude.{◌≡◌, ◌⊎◌, ℕ, ◌+◌, ◌*◌, ◌/◌, ◌≤◌, List, [], ◌∷◌, Bool, true, false, ◌&&◌, ◌==◌, IsTrue, if◌then◌else◌, unwrap_or, find, take, length, slice_index, replicate, Option, Some, None}
use Rattle.std.specs.List.{list_all, concat}
use Rattle.bdi_codec.specs.Bytes.{elements}
use Rattle.bdi_codec.specs.Deltas.{deltas_apply, deltas_mask, deltas_payload, deltas_meaning}

-- the table of rows: a line of zeros, a repeated element of eight bytes, a base with deltas, given the bytes of an element
-- and of a delta, and the line as it is; every other number is no row
abbrev pub by_row : {A : Type 0} → ℕ → A → A → (ℕ → ℕ → A) → A → A → A
by_row row zeros repeated deltas plain other =
    if row == 0 then zeros
    else if row == 1 then repeated
    else if row == 2 then deltas 8 1
    else if row == 3 then deltas 8 2
    else if row == 4 then deltas 8 4
    else if row == 5 then deltas 4 1
    else if row == 6 then deltas 4 2
    else if row == 7 then deltas 2 1
    else if row == 15 then plain
    else other

-- the number is a row
abbrev pub IsRow : ℕ → Type 0
IsRow row = (row ≤ 7) ⊎ (row ≡ 15)

-- the bytes of an element and of a delta, in the rows that have deltas
abbrev pub widths_of : ℕ → Option (ℕ × ℕ)
widths_of row = by_row row None None (λ width delta. Some (width, delta)) None None

-- the bytes of a row's payload
unfoldable pub size_of : ℕ → ℕ
size_of row = by_row row 1 8 (λ width delta. width + delta * (64 / width)) 64 0

-- the bytes of a row's mask, which has a bit for each element
unfoldable pub mask_size_of : ℕ → ℕ
mask_size_of row = by_row row 0 0 (λ width delta. 64 / width / 8) 0 0

-- all elements are equal
abbrev pub are_equal : List ℕ → Bool
are_equal es = list_all (λ n. n == slice_index es 0) es

-- the line can be kept in the row
unfoldable pub applies : ℕ → List ℕ → Bool
applies row line = by_row row (list_all (λ b. b == 0) line) (are_equal (elements 8 8 line)) (λ width delta. deltas_apply width delta line) true false

-- of the rows that apply, the one of least size
pub record IsLeastRow (line : List ℕ) (row : ℕ) : Type 0 where
  pub applied : IsTrue (applies row line)
  pub least : (other : ℕ) → IsTrue (applies other line) → size_of row ≤ size_of other

-- the rows, from the least size to the greatest
abbrev pub rows_by_size : List ℕ
rows_by_size = 0 ∷ 1 ∷ 2 ∷ 5 ∷ 3 ∷ 7 ∷ 6 ∷ 4 ∷ 15 ∷ []

-- the first of these that applies
unfoldable pub least_row : List ℕ → ℕ
least_row line = unwrap_or (find (λ row. applies row line) rows_by_size) 15

-- the mask of the line in the row
unfoldable pub mask_in : ℕ → List ℕ → ℕ
mask_in row line = by_row row 0 0 (λ width delta. deltas_mask width delta line) 0 0

-- the payload of the line in the row
unfoldable pub payload_in : ℕ → List ℕ → List ℕ
payload_in row line = by_row row (0 ∷ []) (take 8 line) (λ width delta. deltas_payload width delta line) line []

-- the line that a row, a mask and a payload say, if they say one
unfoldable pub meaning : ℕ → ℕ → List ℕ → Option (List ℕ)
meaning row mask payload =
    by_row row
    (if mask == 0 && length payload == 1 && list_all (λ b. b == 0) payload then Some (replicate 64 0) else None)
    (if mask == 0 && length payload == 8 then Some (concat (replicate 8 payload)) else None)
    (λ width delta. deltas_meaning width delta mask payload)
    (if mask == 0 && length payload == 64 then Some payload else None)
    None
