-- Bytes that are cut at marks.
use Rattle.std.proofs.Common.{◌≡◌, ◌∙◌, ℕ, ◌+◌, ◌-◌, ◌<◌, ◌≤◌, Bool, true, false, cond, List, [], ◌∷◌, length, take, drop, Some, None, nat_lt, refl, sym, ap, arith}
use Rattle.std.proofs.lemmas.List.{take_all, length-drop}
use Rattle.std.proofs.lemmas.List.Sums.{position_or_len_is, fails_before_first}
use Rattle.std.proofs.lemmas.List.Splits.{slice_split_first, slice_split_none, length-slice_split}
use Rattle.std.proofs.lemmas.List.Quantifiers.{position-Some}
use Rattle.std.proofs.lemmas.Bool.Decides.{nat_tests}
use Rattle.std.specs.List.{position, position_or_len, slice_split, All}
use Rattle.trace_reader.specs.Fields.{two_of, three_of}

place-is : (p : ℕ → Bool) (xs : List ℕ) (i : ℕ) → position p xs ≡ Some i → position_or_len p xs ≡ i
place-is p xs i e =
    let f = position-Some p xs i 0 e in
    position_or_len_is p xs i 0 (omega (arith, f.0)) f.2 (λ _. f.1)

-- where a mark was found, what stands behind it is the list without the bytes up to it
pub split-found : (p : ℕ → Bool) (xs : List ℕ) (i : ℕ) → position p xs ≡ Some i
    → slice_split p xs ≡ take i xs ∷ slice_split p (take (length xs - (i + 1)) (drop (i + 1) xs))
split-found p xs i e =
    let inside : i < length xs = (position-Some p xs i 0 e).0 in
    let place = place-is p xs i e in
    let before : position_or_len p xs < length xs = omega (arith, place) in
    slice_split_first p xs 0 before
    ∙ ap (λ (n : ℕ). take n xs ∷ slice_split p (drop (n + 1) xs)) place
    ∙ ap (λ (behind : List ℕ). take i xs ∷ slice_split p behind)
    (sym (take_all (length xs - (i + 1)) (drop (i + 1) xs) (omega (arith, length-drop (i + 1) xs))))

past-end : (a b : ℕ) (t : Bool) → nat_lt a b ≡ t → cond t (Some a) None ≡ None → b ≤ a
past-end a b true e h = cc
past-end a b false e h = grind (arith, nat_tests)

-- where no mark was found there is one part
pub split-whole : (p : ℕ → Bool) (xs : List ℕ) → position p xs ≡ None → slice_split p xs ≡ xs ∷ []
split-whole p xs e =
    let over : length xs ≤ position_or_len p xs = past-end (position_or_len p xs) (length xs) _ refl e in
    let none : All (λ x. p x ≡ false) xs = λ k d l. fails_before_first p xs k d (omega arith) in
    slice_split_none p xs none

two-more : (one two : List ℕ) (parts : List (List ℕ)) → 0 < length parts → two_of (one ∷ two ∷ parts) ≡ None
two-more one two [] l = absurd (omega arith)
two-more one two (part ∷ parts) l = refl

-- a third field
pub two-none : (p : ℕ → Bool) (one two xs : List ℕ) → two_of (one ∷ two ∷ slice_split p xs) ≡ None
two-none p one two xs = two-more one two (slice_split p xs) (omega (arith, length-slice_split p xs))

three-more : (one two three : List ℕ) (parts : List (List ℕ)) → 0 < length parts → three_of (one ∷ two ∷ three ∷ parts) ≡ None
three-more one two three [] l = absurd (omega arith)
three-more one two three (part ∷ parts) l = refl

-- a fourth field
pub three-none : (p : ℕ → Bool) (one two three xs : List ℕ) → three_of (one ∷ two ∷ three ∷ slice_split p xs) ≡ None
three-none p one two three xs = three-more one two three (slice_split p xs) (omega (arith, length-slice_split p xs))
