-- Lemmas on the sizes of rows, and on what a slot says.
use Rattle.std.proofs.Common.{sym, ◌≡◌, ℕ, ◌+◌, ◌^◌, ◌<◌, ◌≤◌, ◌==◌, nat_le, true, false, All, List, [], ◌∷◌, ◌++◌, take, drop, length, Option, Some, None, MatchOption, IfSome, nat_lt, inl, inr, refl, ap, subst, ◌∙◌, arith}
use Rattle.std.proofs.Math.Nat.{mod-eq_of_lt}
use Rattle.std.proofs.lemmas.Bool.{cases_Bool, cases_lt}
use Rattle.std.proofs.lemmas.Bool.Decides.{nat_tests}
use Rattle.std.proofs.lemmas.List.{append_assoc, take_at, drop_at, length-append, take-append-drop, get_or_past}
use Rattle.std.proofs.lemmas.Option.{same_Some}
use Rattle.hier_types.specs.declared.settings.Codec.{Codec}
use Rattle.hier_types.specs.declared.settings.Codec.TheVariants.{Bdi, Fpc}
use Rattle.bdi_codec.specs.Bytes.{number_of, bytes_of}
use Rattle.bdi_codec.specs.Rows.{IsRow, size_of, mask_size_of, least_row, mask_in, payload_in, meaning}
use Rattle.bdi_codec.proofs.BytesLemmas.{AreBytes, length-bytes_of, number_of-bytes_of}
use Rattle.bdi_codec.proofs.RowLemmas.{meaning-encoded, length-payload_in, mask_in-lt, least_row-applies, applies-known}
use Rattle.fpc_codec.specs.Line.{Means, encoding_of, size_of as pattern_size}
use Rattle.fpc_codec.specs.Reading.{line_said}
use Rattle.fpc_codec.proofs.PackLemmas.{Means-encoding_of}
use Rattle.fpc_codec.proofs.ReadingLemmas.{line_said-means}
use Rattle.line_codec.specs.Slots.{size_under, mask_size_under, stored, encoding, bdi_meaning, Says, line_in, used_in, SlotsSayLines}

-- the bytes of a list that is said to be of bytes
AreBytes-All : (bytes : List ℕ) → All (λ byte. byte < 256) bytes → AreBytes bytes
AreBytes-All bytes below i = elim (cases_lt i (length bytes)) [
  | inl inside ↦ below i 0 inside
  | inr past ↦ omega (arith, get_or_past bytes i 0 past)
]

-- a row that is no header does not shorten a line
pub size_of-past : (row : ℕ) → IsRow row → 7 < row → size_of row ≡ 64
unfolding size_of
size_of-past row known past = grind (arith, nat_tests)

-- a row that is a header does
pub size_of-header : (row : ℕ) → row ≤ 7 → (size_of row ≤ 40) × (mask_size_of row ≤ 4)
unfolding size_of mask_size_of
size_of-header row header = grind (arith, nat_tests)

-- what a line in such a row takes in a slot
pub stored-header : (line : List ℕ) (bytes : ℕ) → least_row line ≤ 7 → bytes ≡ 1 + size_of (least_row line) + mask_size_of (least_row line) → stored Bdi line ≡ Some bytes
stored-header line bytes header e =
    let short = (size_of-header (least_row line) header).0 in
    rw e (grind (arith, nat_tests))

-- the bytes after a header that say a line in a row
bdi_meaning-encoded : (line : List ℕ) (row : ℕ) (rest : List ℕ) → length (payload_in row line) ≡ size_of row → mask_in row line < 256 ^ mask_size_of row
    → bdi_meaning row (payload_in row line ++ (bytes_of (mask_size_of row) (mask_in row line) ++ rest)) ≡ meaning row (mask_in row line) (payload_in row line)
unfolding bdi_meaning
bdi_meaning-encoded line row rest size below =
    let payload = payload_in row line in
    let mask_size = mask_size_of row in
    let mask_bytes = bytes_of mask_size (mask_in row line) in
    let mask_len : length mask_bytes ≡ mask_size = length-bytes_of mask_size (mask_in row line) in
    let front : take (size_of row) (payload ++ (mask_bytes ++ rest)) ≡ payload = take_at payload (mask_bytes ++ rest) (size_of row) size in
    let back : drop (size_of row) (payload ++ (mask_bytes ++ rest)) ≡ mask_bytes ++ rest = drop_at payload (mask_bytes ++ rest) (size_of row) size in
    let masked : take mask_size (mask_bytes ++ rest) ≡ mask_bytes = take_at mask_bytes rest mask_size mask_len in
    let same : number_of mask_bytes ≡ mask_in row line = number_of-bytes_of mask_size (mask_in row line) ∙ mod-eq_of_lt below in
    let len : length (payload ++ (mask_bytes ++ rest)) ≡ size_of row + (mask_size + length rest) =
    length-append payload (mask_bytes ++ rest) ∙ omega (arith, size, mask_len, length-append mask_bytes rest) in
    let whole : nat_lt (length (payload ++ (mask_bytes ++ rest))) (size_of row + mask_size) ≡ false = grind (arith, nat_tests) in
    rw (whole, back, masked, same, front) refl

-- what a line that has a stored size takes in a slot
pub stored-bytes : (codec : Codec) (line : List ℕ) (n : ℕ) → stored codec line ≡ Some n → 1 + size_under codec line + mask_size_under codec line ≡ n
stored-bytes codec line n short = elim (cases_Bool (size_under codec line == 64)) [
  | inl plain ↦ let none : None ≡ Some n = rw plain at short in absurd (cc)
  | inr shortened ↦ same_Some (1 + size_under codec line + mask_size_under codec line) n (rw shortened at short)
]

-- a line that base-delta-immediate shortens is in a row that is a header
stored-row : (line : List ℕ) (n : ℕ) → stored Bdi line ≡ Some n → least_row line ≤ 7
stored-row line n short =
    let row = least_row line in
    elim (cases_lt 7 row) [
      | inl past ↦
          let none : stored Bdi line ≡ None = rw (size_of-past row (applies-known line row (least_row-applies line)) past) refl in
          absurd (let same : Some n ≡ None = sym short ∙ none in cc)
      | inr header ↦ header
    ]

-- a slot that begins with the encoding of a line says the line
pub encoding_says : (codec : Codec) (line rest : List ℕ) (n : ℕ) → AreBytes line → length line ≡ 64 → stored codec line ≡ Some n
    → Says (encoding codec line ++ rest) line
unfolding encoding Says
encoding_says Bdi line rest n bytes len short =
    let row = least_row line in
    let applied = least_row-applies line in
    let says = bdi_meaning-encoded line row rest (length-payload_in line row len (applies-known line row applied)) (mask_in-lt line row) in
    let again = meaning-encoded line row bytes len applied in
    let tail = append_assoc (payload_in row line) (bytes_of (mask_size_of row) (mask_in row line)) rest in
    inl (stored-row line n short, rw tail (says ∙ again))
encoding_says Fpc line rest n bytes len short = inr (refl, Means-encoding_of line rest len bytes)

-- what the bytes behind the header of frequent patterns say
pub patterns_say : (bytes line : List ℕ) → Says (8 ∷ bytes) line → Means bytes line
unfolding Says
patterns_say bytes line says = elim says [
  | inl bdi ↦ absurd (omega (arith, bdi.0))
  | inr patterns ↦ patterns.1
]

-- a line, or no line, that the bytes say is what they say behind that header
pub patterns_meaning : (bytes : List ℕ) (result : Option (List ℕ)) → MatchOption result ((line : List ℕ) → ¬ Means bytes line) (λ line. Means bytes line)
    → MatchOption result ((line : List ℕ) → ¬ Says (8 ∷ bytes) line) (λ line. Says (8 ∷ bytes) line)
unfolding Says
patterns_meaning bytes None meaning = λ line says. meaning line (patterns_say bytes line says)
patterns_meaning bytes (Some line) meaning = inr (refl, meaning)

-- the line that a slot says
pub line_in-says : (slot line : List ℕ) → Says slot line → line ≡ line_in slot
unfolding line_in Says
line_in-says [] line says = absurd says
line_in-says (header ∷ bytes) line says = elim says [
  | inl bdi ↦ let test : nat_le header 7 ≡ true = grind (arith, nat_tests) in rw (test, bdi.1) refl
  | inr patterns ↦ let test : nat_le header 7 ≡ false = grind (arith, nat_tests) in rw test (sym (line_said-means bytes line patterns.1))
]

-- a line, if any, of which the slot says that it is the one
pub line_in-meaning : (slot : List ℕ) (result : Option (List ℕ)) → MatchOption result ((line : List ℕ) → ¬ Says slot line) (λ line. Says slot line)
    → IfSome result (λ line. line ≡ line_in slot)
line_in-meaning slot None meaning = tt
line_in-meaning slot (Some line) meaning = line_in-says slot line meaning

-- the bytes of a line's encoding, whatever stands behind it
used_in-encoding : (codec : Codec) (line rest : List ℕ) (n : ℕ) → AreBytes line → length line ≡ 64 → stored codec line ≡ Some n
    → used_in (encoding codec line ++ rest) ≡ n
unfolding encoding used_in
used_in-encoding Bdi line rest n bytes len short =
    let row = least_row line in
    let header : row ≤ 7 = stored-row line n short in
    let test : nat_le row 7 ≡ true = grind (arith, nat_tests) in
    rw test (stored-bytes Bdi line n short)
used_in-encoding Fpc line rest n bytes len short =
    let same : line_said (encoding_of line ++ rest) ≡ line = line_said-means (encoding_of line ++ rest) line (Means-encoding_of line rest len bytes) in
    rw same (let size : 1 + pattern_size line + 0 ≡ n = stored-bytes Fpc line n short in omega (arith, size))

-- what a slot that begins with an encoding says, and in how many bytes
pub slots_say : SlotsSayLines
slots_say codec line slot n len below short begins =
    let front = encoding codec line in
    let bytes : AreBytes line = AreBytes-All line below in
    let rest = drop (length front) slot in
    let whole : front ++ rest ≡ slot = ap (λ (xs : List ℕ). xs ++ rest) (sym begins) ∙ take-append-drop (length front) slot in
    let says : Says slot line = subst (λ (xs : List ℕ). Says xs line) whole (encoding_says codec line rest n bytes len short) in
    (sym (line_in-says slot line says), subst (λ (xs : List ℕ). used_in xs ≡ n) whole (used_in-encoding codec line rest n bytes len short))
