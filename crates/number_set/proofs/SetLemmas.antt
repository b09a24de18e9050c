-- Sets of numbers, by the bits of their words.
use Rattle.std.proofs.Common.{◌≡◌, ◌<◌, ◌+◌, ◌*◌, ◌/◌, ◌%◌, ◌∙◌, ℕ, List, cond, eqb, length, set, get_or, ap, refl, inl, inr, arith}
use Rattle.std.proofs.lemmas.Bool.{cases_eq, eq-eqb, eqb-true, eqb-false, ne_eqb, cond_both}
use Rattle.std.proofs.lemmas.List.{get_or-set_same, get_or-set_other}
use Rattle.std.proofs.lemmas.Nat.Bits.{bit_at-zero}
use Rattle.std.specs.Int.{bit_at}
use Rattle.number_set.specs.Numbers.{has, IsSummed, IsLowestBit, IsLeast}

-- a choice by whether two numbers are equal
pub pick : (i k x y z : ℕ) → (i ≡ k → z ≡ x) → ((i ≡ k → ⊥) → z ≡ y) → z ≡ cond (eqb i k) x y
pick i k x y z p q = cond_both (eqb i k) x y (λ v. z ≡ v) (λ e. p (eqb-true i k e)) (λ e. q (eqb-false i k e))

-- what a set has after one word got one bit
pub has_put : (words : List ℕ) (n next b : ℕ) → n / 64 < length words
    → ((i : ℕ) → i < 64 → bit_at next i ≡ cond (eqb i (n % 64)) b (bit_at (get_or words (n / 64) 0) i))
    → (m : ℕ) → has (set words (n / 64) next) m ≡ cond (eqb m n) b (has words m)
has_put words n next b within bits m =
    pick m n b (has words m) (has (set words (n / 64) next) m)
    (λ e.
    let q : m / 64 ≡ n / 64 = ap (λ k. k / 64) e in
    let r : m % 64 ≡ n % 64 = ap (λ k. k % 64) e in
    let lt : n % 64 < 64 = omega arith in
    let w : get_or (set words (n / 64) next) (n / 64) 0 ≡ next = get_or-set_same words (n / 64) next 0 within in
    let bit : bit_at next (n % 64) ≡ b = bits (n % 64) lt ∙ ap (λ t. cond t b (bit_at (get_or words (n / 64) 0) (n % 64))) (eq-eqb (n % 64) (n % 64) refl) in
    rw (q, r, w) bit)
    (λ ne.
    elim (cases_eq (m / 64) (n / 64)) [
      | inl q ↦
          let r : m % 64 ≡ n % 64 → ⊥ = omega arith in
          let lt : m % 64 < 64 = omega arith in
          let w : get_or (set words (n / 64) next) (n / 64) 0 ≡ next = get_or-set_same words (n / 64) next 0 within in
          let bit : bit_at next (m % 64) ≡ bit_at (get_or words (n / 64) 0) (m % 64) = bits (m % 64) lt ∙ ap (λ t. cond t b (bit_at (get_or words (n / 64) 0) (m % 64))) (ne_eqb (m % 64) (n % 64) r) in
          rw (q, w) bit
      | inr q ↦ ap (λ x. bit_at x (m % 64)) (get_or-set_other words (n / 64) (m / 64) next 0 q)
    ])

-- the least number, from the lowest bit of the first summary word and that of its word
pub first_at : (words summary : List ℕ) (i a b up word : ℕ) → IsSummed words summary → i < 16
    → ((k : ℕ) → k < i → get_or summary k 0 ≡ 0)
    → up ≡ get_or summary i 0 → IsLowestBit up a
    → word ≡ get_or words (i * 64 + a) 0 → IsLowestBit word b
    → IsLeast words ((i * 64 + a) * 64 + b)
first_at words summary i a b up word s i_lt zero up_is la word_is lb =
    let a_lt : a < 64 = la.within in
    let b_lt : b < 64 = lb.within in
    let q : ((i * 64 + a) * 64 + b) / 64 ≡ i * 64 + a = omega arith in
    let r : ((i * 64 + a) * 64 + b) % 64 ≡ b = omega arith in
    record {
      within = omega arith;
      there = rw (q, r, ← word_is) lb.there;
      below = λ m lt.
          elim (cases_eq (m / 64) (i * 64 + a)) [
            | inl e ↦
                let t : m % 64 < b = omega arith in
                rw (e, ← word_is) (lb.below (m % 64) t)
            | inr ne ↦
                let v_lt : m / 64 < i * 64 + a = omega arith in
                let v_in : m / 64 < 1024 = omega arith in
                let bit : bit_at (get_or summary (m / 64 / 64) 0) (m / 64 % 64) ≡ 0 =
                elim (cases_eq (m / 64 / 64) i) [
                  | inl e ↦
                      let t : m / 64 % 64 < a = omega arith in
                      rw (e, ← up_is) (la.below (m / 64 % 64) t)
                  | inr ne2 ↦
                      let t : m / 64 / 64 < i = omega arith in
                      rw (zero (m / 64 / 64) t) (bit_at-zero (m / 64 % 64))
                ] in
                rw (s.none (m / 64) v_in bit) (bit_at-zero (m % 64))
          ];
    }

pub summed_zeros : (words summary : List ℕ) → length words ≡ 1024 → length summary ≡ 16
    → ((i : ℕ) → get_or words i 0 ≡ 0) → ((i : ℕ) → get_or summary i 0 ≡ 0) → IsSummed words summary
summed_zeros words summary lw lu zw zu = record {
  words_are = lw;
  summary_is = lu;
  full = λ w h e. rw (zu (w / 64)) (bit_at-zero (w % 64));
  none = λ w h e. zw w;
}

pub has_zeros : (words : List ℕ) → ((i : ℕ) → get_or words i 0 ≡ 0) → (n : ℕ) → has words n ≡ 0
has_zeros words z n = rw (z (n / 64)) (bit_at-zero (n % 64))
