-- Lemmas on the encoding of a line in a row.
use Rattle.std.proofs.Common.{◌≡◌, ℕ, Bool, true, find, unwrap_or, inl, inr, List, [], ◌∷◌, take, length, replicate, slice_index, Some, ◌^◌, ◌-◌, ◌<◌, refl, sym, ap, ◌∙◌, arith, ◌==◌, IsTrue}
use Rattle.std.specs.List.{concat, flat_map, list_all}
use Rattle.std.proofs.lemmas.Bool.{and_parts, cases_Bool, eqb-true}
use Rattle.std.proofs.lemmas.Bool.Decides.{nat_tests}
use Rattle.std.proofs.lemmas.List.{length-take-le}
use Rattle.bdi_codec.specs.Bytes.{number_of, bytes_of, elements}
use Rattle.bdi_codec.specs.Deltas.{deltas_apply, deltas_mask, deltas_payload, deltas_meaning}
use Rattle.bdi_codec.specs.Rows.{IsRow, least_row, rows_by_size, applies, are_equal, meaning, mask_in, payload_in, size_of, mask_size_of}
use Rattle.bdi_codec.proofs.BytesLemmas.{AreBytes, length-elements, elements-joined, bytes_of-number_of-take}
use Rattle.bdi_codec.proofs.RoundTrip.{length-deltas_payload, deltas_mask-lt, deltas_meaning-encoded}

-- a list of equal numbers
all_equal : (x : ℕ) (ns : List ℕ) → list_all (λ n. n == x) ns ≡ true → ns ≡ replicate (length ns) x
all_equal x [] h = refl
all_equal x (n ∷ ns) h =
    let parts = and_parts (n == x) (list_all (λ n. n == x) ns) h in
    let same : n ≡ x = eqb-true n x parts.0 in
    rw same (ap (λ (xs : List ℕ). x ∷ xs) (all_equal x ns parts.1))

first_element : (line : List ℕ) → slice_index (elements 8 8 line) 0 ≡ number_of (take 8 line)
unfolding elements
first_element line = refl

-- equal elements of eight bytes are the first of them again and again
copies-first : (line : List ℕ) → AreBytes line → length line ≡ 64 → are_equal (elements 8 8 line) ≡ true → concat (replicate 8 (take 8 line)) ≡ line
copies-first line bytes len same =
    let first = number_of (take 8 line) in
    let all8 : elements 8 8 line ≡ replicate 8 first =
    all_equal first (elements 8 8 line) (rw first_element at same) ∙ ap (λ (n : ℕ). replicate n first) (length-elements 8 8 line) in
    let here : bytes_of 8 first ≡ take 8 line = bytes_of-number_of-take 8 line (omega arith) bytes in
    let joined : flat_map (bytes_of 8) (replicate 8 first) ≡ line = rw all8 at (elements-joined 8 8 line len bytes) in
    rw here at joined

all_zeros : (line : List ℕ) → length line ≡ 64 → list_all (λ b. b == 0) line ≡ true → replicate 64 0 ≡ line
all_zeros line len same = sym (all_equal 0 line same ∙ ap (λ (n : ℕ). replicate n 0) len)

-- a row that applies says the line, if each kind of row does
meaning_from : (line : List ℕ) (row : ℕ) → length line ≡ 64 → length (take 8 line) ≡ 8 → IsTrue (applies row line)
    → (list_all (λ b. b == 0) line ≡ true → replicate 64 0 ≡ line)
    → (are_equal (elements 8 8 line) ≡ true → concat (replicate 8 (take 8 line)) ≡ line)
    → (deltas_apply 8 1 line ≡ true → deltas_meaning 8 1 (deltas_mask 8 1 line) (deltas_payload 8 1 line) ≡ Some line)
    → (deltas_apply 8 2 line ≡ true → deltas_meaning 8 2 (deltas_mask 8 2 line) (deltas_payload 8 2 line) ≡ Some line)
    → (deltas_apply 8 4 line ≡ true → deltas_meaning 8 4 (deltas_mask 8 4 line) (deltas_payload 8 4 line) ≡ Some line)
    → (deltas_apply 4 1 line ≡ true → deltas_meaning 4 1 (deltas_mask 4 1 line) (deltas_payload 4 1 line) ≡ Some line)
    → (deltas_apply 4 2 line ≡ true → deltas_meaning 4 2 (deltas_mask 4 2 line) (deltas_payload 4 2 line) ≡ Some line)
    → (deltas_apply 2 1 line ≡ true → deltas_meaning 2 1 (deltas_mask 2 1 line) (deltas_payload 2 1 line) ≡ Some line)
    → meaning row (mask_in row line) (payload_in row line) ≡ Some line
unfolding meaning mask_in payload_in applies
meaning_from line row len first applied zeros repeated b8d1 b8d2 b8d4 b4d1 b4d2 b2d1 = grind (arith, nat_tests)

-- a line in a row that applies is what its mask and its payload say
pub meaning-encoded : (line : List ℕ) (row : ℕ) → AreBytes line → length line ≡ 64 → IsTrue (applies row line)
    → meaning row (mask_in row line) (payload_in row line) ≡ Some line
meaning-encoded line row bytes len applied =
    meaning_from line row len (length-take-le 8 line (omega arith)) applied
    (all_zeros line len)
    (copies-first line bytes len)
    (deltas_meaning-encoded 8 1 (2 ^ 56 - 1) line refl refl refl bytes len)
    (deltas_meaning-encoded 8 2 (2 ^ 48 - 1) line refl refl refl bytes len)
    (deltas_meaning-encoded 8 4 (2 ^ 32 - 1) line refl refl refl bytes len)
    (deltas_meaning-encoded 4 1 (2 ^ 24 - 1) line refl refl refl bytes len)
    (deltas_meaning-encoded 4 2 (2 ^ 16 - 1) line refl refl refl bytes len)
    (deltas_meaning-encoded 2 1 (2 ^ 8 - 1) line refl refl refl bytes len)

-- a payload has the size of its row, if each kind of payload does
length_from : (line : List ℕ) (row : ℕ) → length line ≡ 64 → length (take 8 line) ≡ 8 → IsRow row
    → length (deltas_payload 8 1 line) ≡ 16
    → length (deltas_payload 8 2 line) ≡ 24
    → length (deltas_payload 8 4 line) ≡ 40
    → length (deltas_payload 4 1 line) ≡ 20
    → length (deltas_payload 4 2 line) ≡ 36
    → length (deltas_payload 2 1 line) ≡ 34
    → length (payload_in row line) ≡ size_of row
unfolding payload_in size_of
length_from line row len first known b8d1 b8d2 b8d4 b4d1 b4d2 b2d1 = grind (arith, nat_tests)

-- a payload has the size of its row
pub length-payload_in : (line : List ℕ) (row : ℕ) → length line ≡ 64 → IsRow row → length (payload_in row line) ≡ size_of row
length-payload_in line row len known =
    length_from line row len (length-take-le 8 line (omega arith)) known
    (length-deltas_payload 8 1 line)
    (length-deltas_payload 8 2 line)
    (length-deltas_payload 8 4 line)
    (length-deltas_payload 4 1 line)
    (length-deltas_payload 4 2 line)
    (length-deltas_payload 2 1 line)

-- the mask has a bit for each element at most
pub mask_in-lt : (line : List ℕ) (row : ℕ) → mask_in row line < 256 ^ mask_size_of row
unfolding mask_in mask_size_of
mask_in-lt line row = grind (arith, nat_tests, deltas_mask-lt)

-- what is found, or else stands in for it, passes the test
passes_found : (test : ℕ → Bool) (ns : List ℕ) (other : ℕ) → test other ≡ true → test (unwrap_or (find test ns) other) ≡ true
passes_found test [] other passed = passed
passes_found test (n ∷ ns) other passed = elim (cases_Bool (test n)) [
  | inl here ↦ rw here here
  | inr not_here ↦ rw not_here (passes_found test ns other passed)
]

plain_applies : (line : List ℕ) → applies 15 line ≡ true
unfolding applies
plain_applies line = refl

-- the row of least size applies
pub least_row-applies : (line : List ℕ) → IsTrue (applies (least_row line) line)
unfolding least_row
least_row-applies line = passes_found (λ row. applies row line) rows_by_size 15 (plain_applies line)

-- only a row applies
pub applies-known : (line : List ℕ) (row : ℕ) → IsTrue (applies row line) → IsRow row
unfolding applies
applies-known line row applied = grind (arith, nat_tests)
