-- Exceptions, counted by the chunks in which they stand.
use Rattle.std.proofs.Common.{◌≡◌, ℕ, zero, suc, ◌+◌, ◌<◌, ◌≤◌, ◌≢◌, true, cond, refl, ap, sym, add-one, subst, arith, List, [], ◌∷◌, ◌++◌, inl, inr}
use Rattle.std.proofs.lemmas.Bool.{cases_lt, cases_eq, cases_Bool}
use Rattle.std.proofs.lemmas.Bool.Decides.{nat_tests}
use Rattle.std.proofs.lemmas.List.Sums.{sum_by-append}
use Rattle.hier_types.specs.Tabulate.{tabulate}
use Rattle.hier_types.proofs.TableLemmas.{tabulate-none}
use Rattle.page_slots.specs.Chunks.{stands_in, count_in}
use Rattle.page_slots.specs.Lines.{meta, chunk_of, AreApart}
use Rattle.page_slots.specs.Puts.{IsTaken}

-- what a line counts
abbrev pub tally : ℕ → ℕ → ℕ → ℕ
tally low high byte = cond (stands_in low high byte) 1 0

pub count_in-suc : (low high : ℕ) (bytes : List ℕ) (n : ℕ) → count_in low high bytes (suc n) ≡ tally low high (meta bytes n) + count_in low high bytes n
unfolding count_in
count_in-suc low high bytes n =
    let more : tabulate (meta bytes) (suc n) ≡ tabulate (meta bytes) n ++ meta bytes n ∷ [] = unfold tabulate in refl in
    rw more (omega (arith, sum_by-append (λ (byte : ℕ). tally low high byte) (tabulate (meta bytes) n) (meta bytes n ∷ [])))

pub count_in-zero : (low high : ℕ) (bytes : List ℕ) → count_in low high bytes 0 ≡ 0
unfolding count_in
count_in-zero low high bytes = rw (tabulate-none (meta bytes)) refl

pub tally_yes : (low high byte : ℕ) → 128 ≤ byte → low ≤ chunk_of byte → chunk_of byte < high → tally low high byte ≡ 1
tally_yes low high byte is from below = grind (arith, nat_tests)

pub tally_no : (low high byte : ℕ) → (128 ≤ byte → low ≤ chunk_of byte → chunk_of byte < high → ⊥) → tally low high byte ≡ 0
tally_no low high byte out = elim (cases_lt byte 128) [
  | inl a ↦ grind (arith, nat_tests)
  | inr high_ ↦ elim (cases_lt (chunk_of byte) low) [
    | inl b ↦ grind (arith, nat_tests)
    | inr from ↦ elim (cases_lt (chunk_of byte) high) [ inl below ↦ absurd (out high_ from below) | inr c ↦ grind (arith, nat_tests) ]
  ]
]

-- the count with one line more
pub counts_yes : (low high count n : ℕ) (bytes : List ℕ) → count ≡ count_in low high bytes n → 128 ≤ meta bytes n → low ≤ chunk_of (meta bytes n) → chunk_of (meta bytes n) < high
    → count + 1 ≡ count_in low high bytes (n + 1)
counts_yes low high count n bytes e is from below =
    subst (λ (k : ℕ). count + 1 ≡ count_in low high bytes k) (sym (add-one n)) (omega (arith, count_in-suc low high bytes n, tally_yes low high (meta bytes n) is from below))

pub counts_no : (low high count n : ℕ) (bytes : List ℕ) → count ≡ count_in low high bytes n → (128 ≤ meta bytes n → low ≤ chunk_of (meta bytes n) → chunk_of (meta bytes n) < high → ⊥)
    → count ≡ count_in low high bytes (n + 1)
counts_no low high count n bytes e out =
    subst (λ (k : ℕ). count ≡ count_in low high bytes k) (sym (add-one n)) (omega (arith, count_in-suc low high bytes n, tally_no low high (meta bytes n) out))

pub ruleset counts = (count_in-zero, counts_yes, counts_no)

tally_add : (low mid high byte : ℕ) → low ≤ mid → mid ≤ high → tally low high byte ≡ tally low mid byte + tally mid high byte
tally_add low mid high byte le le' = grind (arith, nat_tests)

tally_le : (low high byte : ℕ) → tally low high byte ≤ 1
tally_le low high byte = grind (arith, nat_tests)

-- the chunks in two parts
pub count_add : (low mid high : ℕ) (bytes : List ℕ) (n : ℕ) → low ≤ mid → mid ≤ high → count_in low high bytes n ≡ count_in low mid bytes n + count_in mid high bytes n
count_add low mid high bytes zero le le' = omega (arith, count_in-zero low high bytes, count_in-zero low mid bytes, count_in-zero mid high bytes)
count_add low mid high bytes (suc n) le le' =
    omega (arith, count_in-suc low high bytes n, count_in-suc low mid bytes n, count_in-suc mid high bytes n, tally_add low mid high (meta bytes n) le le', count_add low mid high bytes n le le')

-- no exception stands there
pub count_none : (low high : ℕ) (bytes : List ℕ) (n : ℕ) → ((i : ℕ) → i < n → 128 ≤ meta bytes i → low ≤ chunk_of (meta bytes i) → chunk_of (meta bytes i) < high → ⊥) → count_in low high bytes n ≡ 0
count_none low high bytes zero out = count_in-zero low high bytes
count_none low high bytes (suc n) out =
    omega (arith, count_in-suc low high bytes n, tally_no low high (meta bytes n) (out n (omega arith)), count_none low high bytes n (λ i l. out i (omega arith)))

-- an exception stands there
pub count_some : (low high : ℕ) (bytes : List ℕ) (n i : ℕ) → i < n → 128 ≤ meta bytes i → low ≤ chunk_of (meta bytes i) → chunk_of (meta bytes i) < high → 1 ≤ count_in low high bytes n
count_some low high bytes zero i l is from below = absurd (omega arith)
count_some low high bytes (suc n) i l is from below = elim (cases_eq i n) [
  | inl e ↦
      let here : tally low high (meta bytes n) ≡ 1 = subst (λ (j : ℕ). tally low high (meta bytes j) ≡ 1) e (tally_yes low high (meta bytes i) is from below) in
      omega (arith, count_in-suc low high bytes n)
  | inr ne ↦ omega (arith, count_in-suc low high bytes n, count_some low high bytes n i (omega arith) is from below)
]

stands_parts : (low high byte : ℕ) → stands_in low high byte ≡ true → (128 ≤ byte) × (low ≤ chunk_of byte) × (chunk_of byte < high)
stands_parts low high byte e = (grind (arith, nat_tests), grind (arith, nat_tests), grind (arith, nat_tests))

-- a chunk has one exception at most
count_one : (c : ℕ) (bytes : List ℕ) (n : ℕ) → n ≤ 64 → AreApart bytes → count_in c (1 + c) bytes n ≤ 1
count_one c bytes zero in_ apart = omega (arith, count_in-zero c (1 + c) bytes)
count_one c bytes (suc n) in_ apart = elim (cases_Bool (stands_in c (1 + c) (meta bytes n))) [
  | inl e ↦
      let own = stands_parts c (1 + c) (meta bytes n) e in
      let none = count_none c (1 + c) bytes n (λ i l is from below. apart n (omega arith) own.0 i (omega arith) (omega arith) is (omega arith)) in
      omega (arith, count_in-suc c (1 + c) bytes n, tally_le c (1 + c) (meta bytes n))
  | inr e ↦
      let none : tally c (1 + c) (meta bytes n) ≡ 0 = rw e refl in
      omega (arith, count_in-suc c (1 + c) bytes n, count_one c bytes n (omega arith) apart)
]

-- not more exceptions than chunks
pub count_few : (d low high : ℕ) (bytes : List ℕ) → high ≡ low + d → AreApart bytes → count_in low high bytes 64 ≤ d
count_few zero low high bytes e apart = omega (arith, count_none low high bytes 64 (λ i l is from below. omega arith))
count_few (suc d) low high bytes e apart =
    let before = count_few d low (low + d) bytes refl apart in
    let last = count_one (low + d) bytes 64 (omega arith) apart in
    let high_is : 1 + (low + d) ≡ high = omega arith in
    let last' : count_in (low + d) high bytes 64 ≤ 1 = subst (λ (h : ℕ). count_in (low + d) h bytes 64 ≤ 1) high_is last in
    omega (arith, count_add low (low + d) high bytes 64 (omega arith) (omega arith))

-- where all chunks are taken, as many exceptions as chunks
pub count_full : (d low high : ℕ) (bytes : List ℕ) → high ≡ low + d → ((c : ℕ) → low ≤ c → c < high → IsTaken bytes c) → d ≤ count_in low high bytes 64
count_full zero low high bytes e taken = omega arith
count_full (suc d) low high bytes e taken =
    let before = count_full d low (low + d) bytes refl (λ c from below. taken c from (omega arith)) in
    let own = taken (low + d) (omega arith) (omega arith) in
    let last = count_some (low + d) high bytes 64 own.by own.by_in own.is_exception (omega (arith, own.is_chunk)) (omega (arith, own.is_chunk)) in
    omega (arith, count_add low (low + d) high bytes 64 (omega arith) (omega arith))

-- an exception left the chunks
count_left : (low high : ℕ) (old new : List ℕ) (line n : ℕ) → n ≤ 64 → tally low high (meta old line) ≡ 1 → tally low high (meta new line) ≡ 0
    → ((i : ℕ) → i < 64 → i ≢ line → meta new i ≡ meta old i)
    → (n ≤ line → count_in low high new n ≡ count_in low high old n) × (line < n → 1 + count_in low high new n ≡ count_in low high old n)
count_left low high old new line zero in_ was is others = (λ l. omega (arith, count_in-zero low high new, count_in-zero low high old), λ l. absurd (omega arith))
count_left low high old new line (suc n) in_ was is others =
    let before = count_left low high old new line n (omega arith) was is others in
    let o = count_in-suc low high old n in
    let w = count_in-suc low high new n in
    elim (cases_eq n line) [
      | inl e ↦
          let was' : tally low high (meta old n) ≡ 1 = subst (λ (j : ℕ). tally low high (meta old j) ≡ 1) (sym e) was in
          let is' : tally low high (meta new n) ≡ 0 = subst (λ (j : ℕ). tally low high (meta new j) ≡ 0) (sym e) is in
          (λ l. absurd (omega arith), λ l. omega (arith, before.0 (omega arith)))
      | inr ne ↦
          let same : tally low high (meta new n) ≡ tally low high (meta old n) = ap (tally low high) (others n (omega arith) ne) in
          (λ l. omega (arith, before.0 (omega arith)), λ l. omega (arith, before.1 (omega arith)))
    ]

pub count_leaves : (low high : ℕ) (old new : List ℕ) (line : ℕ) → line < 64 → 128 ≤ meta old line → low ≤ chunk_of (meta old line) → chunk_of (meta old line) < high
    → (low ≤ chunk_of (meta new line) → chunk_of (meta new line) < high → ⊥) → ((i : ℕ) → i < 64 → i ≢ line → meta new i ≡ meta old i)
    → 1 + count_in low high new 64 ≡ count_in low high old 64
count_leaves low high old new line line_in was from below out others =
    (count_left low high old new line 64 (omega arith) (tally_yes low high (meta old line) was from below) (tally_no low high (meta new line) (λ is. out)) others).1 line_in

pub count_same : (low high : ℕ) (old new : List ℕ) (n : ℕ) → ((i : ℕ) → i < n → meta new i ≡ meta old i) → count_in low high new n ≡ count_in low high old n
count_same low high old new zero same = omega (arith, count_in-zero low high new, count_in-zero low high old)
count_same low high old new (suc n) same =
    let here : tally low high (meta new n) ≡ tally low high (meta old n) = ap (tally low high) (same n (omega arith)) in
    omega (arith, count_in-suc low high new n, count_in-suc low high old n, count_same low high old new n (λ i l. same i (omega arith)))
