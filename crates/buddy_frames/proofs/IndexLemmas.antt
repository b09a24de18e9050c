-- The index of one order's free blocks, against the frames' bytes.
use Rattle.std.proofs.Common.{◌≡◌, ◌<◌, ◌≤◌, ◌+◌, ◌*◌, ◌/◌, ◌%◌, ◌∙◌, eqb, not, cond, ℕ, zero, suc, Bool, true, List, [], ◌∷◌, Option, Some, None, length, get_or, set, replicate, refl, sym, subst, ap, inl, inr, arith}
use Rattle.std.specs.List.{sum_by}
use Rattle.std.specs.Prelude.{MatchOption}
use Rattle.std.proofs.lemmas.Bool.{cases_eq, cases_lt, cases_Bool, eq-eqb, ne_eqb, cond-true, cond-false}
use Rattle.std.proofs.lemmas.List.{get_or-set_same, get_or-set_other, length-set, get_or_past, get_or-replicate, length-replicate}
use Rattle.std.proofs.lemmas.List.Sums.{sum_by-set, get_or-le-sum_by, sum_by-cons}
use Rattle.std.proofs.lemmas.List.Folds.{sum_by-replicate}
use Rattle.std.proofs.lemmas.Nat.Bits.{bit_at-zero}
use Rattle.buddy_frames.specs.Units.{in_use}
use Rattle.buddy_frames.specs.FrameByte.{block_free, blocks_of, count_below}
use Rattle.number_set.specs.Numbers.{has, bit_of, Puts, HasBelow, IsLeast}
use Rattle.buddy_frames.specs.Indexes.{HasNoFrame, IsIndexed, IsFirstFrame}
use Rattle.buddy_frames.specs.Kept.{AreFrames}
use Rattle.buddy_frames.proofs.PlaceLemmas.{four}

-- a number below a limit that passes a test
record Passes (n : ℕ) (p : ℕ → Bool) : Type 0 where
  pub k : ℕ
  pub below : k < n
  pub passes : p k ≡ true

flag_zero : (n : ℕ) → bit_of (not (eqb n 0)) ≡ 0 → n ≡ 0
flag_zero n h =
    elim (cases_eq n 0) [
      | inl e ↦ e
      | inr ne ↦
          let one : bit_of (not (eqb n 0)) ≡ 1 = ap (λ b. bit_of (not b)) (ne_eqb n 0 ne) in
          absurd (omega arith)
    ]

flag_one : (n : ℕ) → bit_of (not (eqb n 0)) ≡ 1 → n ≡ 0 → ⊥
flag_one n h e =
    let none : bit_of (not (eqb n 0)) ≡ 0 = ap (λ b. bit_of (not b)) (eq-eqb n 0 e) in
    absurd (omega arith)

count_none : (n : ℕ) (p : ℕ → Bool) → count_below n p ≡ 0 → (k : ℕ) → k < n → p k ≡ true → ⊥
count_none zero p h k lt e = absurd (omega arith)
count_none (suc n) p h k lt e =
    elim (cases_eq k n) [
      | inl q ↦
          let here : p n ≡ true = subst (λ (j : ℕ). p j ≡ true) q e in
          let one : cond {A = ℕ} (p n) 1 0 ≡ 1 = cond-true (p n) 1 0 here in
          absurd (omega arith)
      | inr ne ↦ count_none n p (omega arith) k (omega arith) e
    ]

count_some : (n : ℕ) (p : ℕ → Bool) → (count_below n p ≡ 0 → ⊥) → Passes n p
count_some zero p h = absurd (h refl)
count_some (suc n) p h =
    elim (cases_Bool (p n)) [
      | inl e ↦ record { k = n; below = omega arith; passes = e }
      | inr e ↦
          let none : cond {A = ℕ} (p n) 1 0 ≡ 0 = cond-false (p n) 1 0 e in
          let r : Passes n p = count_some n p (λ z. h (omega arith)) in
          let lt : r.k < suc n = omega (arith, r.below) in
          record { k = r.k; below = lt; passes = r.passes }
    ]

count_le : (n : ℕ) (p : ℕ → Bool) → count_below n p ≤ n
count_le zero p = omega arith
count_le (suc n) p =
    let rest : count_below n p ≤ n = count_le n p in
    elim (cases_Bool (p n)) [
      | inl e ↦
          let one : cond {A = ℕ} (p n) 1 0 ≡ 1 = cond-true (p n) 1 0 e in
          omega arith
      | inr e ↦
          let none : cond {A = ℕ} (p n) 1 0 ≡ 0 = cond-false (p n) 1 0 e in
          omega arith
    ]

blocks_none : (order byte : ℕ) → blocks_of order byte ≡ 0 → (a : ℕ) → a < 8 → block_free byte order a ≡ true → ⊥
unfolding blocks_of
blocks_none order byte h a lt e = count_none 8 (block_free byte order) h a lt e

blocks_some : (order byte : ℕ) → (blocks_of order byte ≡ 0 → ⊥) → Passes 8 (block_free byte order)
unfolding blocks_of
blocks_some order byte h = count_some 8 (block_free byte order) h

blocks_le : (order byte : ℕ) → blocks_of order byte ≤ 8
unfolding blocks_of
blocks_le order byte = count_le 8 (block_free byte order)

sum_le : (order : ℕ) (bytes : List ℕ) → sum_by (blocks_of order) bytes ≤ 8 * length bytes
sum_le order [] = omega arith
sum_le order (b ∷ bs) =
    let rest : sum_by (blocks_of order) bs ≤ 8 * length bs = sum_le order bs in
    let one : blocks_of order b ≤ 8 = blocks_le order b in
    rw (sum_by-cons (blocks_of order) b bs) (omega arith)

first_none : (bytes : List ℕ) (order : ℕ) (marks : List ℕ) (count : ℕ) → IsIndexed bytes order marks count → length bytes ≤ 65536
    → ((m : ℕ) → m < 65536 → has marks m ≡ 0) → HasNoFrame bytes order
first_none bytes order marks count s most none f a f_lt a_lt e =
    let zero_there : has marks f ≡ 0 = none f (omega arith) in
    blocks_none order (get_or bytes f 0) (flag_zero (blocks_of order (get_or bytes f 0)) (sym (s.marks f f_lt) ∙ zero_there)) a a_lt e

first_some : (bytes : List ℕ) (order : ℕ) (marks : List ℕ) (count : ℕ) (n : ℕ) → IsIndexed bytes order marks count
    → IsLeast marks n → IsFirstFrame bytes order n
first_some bytes order marks count n s first =
    let n_lt : n < 65536 = first.within in
    let one : has marks n ≡ 1 = first.there in
    let within : n < length bytes =
    elim (cases_lt n (length bytes)) [
      | inl l ↦ l
      | inr ge ↦
          let none : has marks n ≡ 0 = s.beyond n ge n_lt in
          absurd (omega arith)
    ] in
    let p : Passes 8 (block_free (get_or bytes n 0) order) = blocks_some order (get_or bytes n 0) (flag_one (blocks_of order (get_or bytes n 0)) (sym (s.marks n within) ∙ one)) in
    record {
      within = within;
      at = p.k;
      at_lt = p.below;
      block = p.passes;
      before = λ f a f_lt a_lt e.
          let f_in : f < length bytes = omega arith in
          blocks_none order (get_or bytes f 0) (flag_zero (blocks_of order (get_or bytes f 0)) (sym (s.marks f f_in) ∙ first.below f f_lt)) a a_lt e;
    }

-- what is kept after one byte became another
pub index_change : (bytes : List ℕ) (order : ℕ) (marks : List ℕ) (count : ℕ) (frame byte before : ℕ) (marks2 : List ℕ) (count2 : ℕ)
    → before ≡ get_or bytes frame 0 → IsIndexed bytes order marks count → frame < length bytes → length bytes ≤ 65536
    → Puts marks frame (not (eqb (blocks_of order byte) 0)) marks2
    → count2 + blocks_of order before ≡ count + blocks_of order byte
    → IsIndexed (set bytes frame byte) order marks2 count2
index_change bytes order marks count frame byte before marks2 count2 is s within most now counted =
    let len : length (set bytes frame byte) ≡ length bytes = length-set bytes frame byte in
    record {
      marks = λ f lt.
          let f_in : f < length bytes = omega arith in
          let f_lt : f < 65536 = omega arith in
          elim (cases_eq f frame) [
            | inl e ↦
                let written : get_or (set bytes frame byte) frame 0 ≡ byte = get_or-set_same bytes frame byte 0 within in
                let here : has marks2 f ≡ bit_of (not (eqb (blocks_of order byte) 0)) =
                now f f_lt ∙ cond-true (eqb f frame) (bit_of (not (eqb (blocks_of order byte) 0))) (has marks f) (eq-eqb f frame e) in
                here ∙ ap (λ b. bit_of (not (eqb (blocks_of order b) 0))) (sym written ∙ ap (λ k. get_or (set bytes frame byte) k 0) (sym e))
            | inr ne ↦
                let there : has marks2 f ≡ has marks f =
                now f f_lt ∙ cond-false (eqb f frame) (bit_of (not (eqb (blocks_of order byte) 0))) (has marks f) (ne_eqb f frame ne) in
                there ∙ s.marks f f_in ∙ ap (λ b. bit_of (not (eqb (blocks_of order b) 0))) (sym (get_or-set_other bytes frame f byte 0 ne))
          ];
      beyond = λ f ge f_lt.
          let f_out : length bytes ≤ f = omega arith in
          let ne : f ≡ frame → ⊥ = omega arith in
          now f f_lt ∙ cond-false (eqb f frame) (bit_of (not (eqb (blocks_of order byte) 0))) (has marks f) (ne_eqb f frame ne) ∙ s.beyond f f_out f_lt;
      counts =
          let sums : sum_by (blocks_of order) (set bytes frame byte) + blocks_of order (get_or bytes frame 0) ≡ sum_by (blocks_of order) bytes + blocks_of order byte = sum_by-set (blocks_of order) bytes frame byte 0 within in
          let was : count ≡ sum_by (blocks_of order) bytes = s.counts in
          let change : count2 + blocks_of order (get_or bytes frame 0) ≡ count + blocks_of order byte = rw is at counted in
          omega arith;
    }

pub index_most : (bytes : List ℕ) (order : ℕ) (marks : List ℕ) (count : ℕ) → IsIndexed bytes order marks count → length bytes ≤ 65536 → count ≤ 524288
index_most bytes order marks count s most =
    let sum : sum_by (blocks_of order) bytes ≤ 8 * length bytes = sum_le order bytes in
    let was : count ≡ sum_by (blocks_of order) bytes = s.counts in
    omega arith

pub index_counted : (bytes : List ℕ) (order : ℕ) (marks : List ℕ) (count frame : ℕ) → IsIndexed bytes order marks count → frame < length bytes → blocks_of order (get_or bytes frame 0) ≤ count
index_counted bytes order marks count frame s within =
    let one : blocks_of order (get_or bytes frame 0) ≤ sum_by (blocks_of order) bytes = get_or-le-sum_by (blocks_of order) bytes frame 0 within in
    let was : count ≡ sum_by (blocks_of order) bytes = s.counts in
    omega arith

pub first_of_index : (bytes : List ℕ) (order : ℕ) (marks : List ℕ) (count : ℕ) → IsIndexed bytes order marks count → length bytes ≤ 65536
    → (r : Option ℕ) → MatchOption r ((m : ℕ) → m < 65536 → has marks m ≡ 0) (IsLeast marks)
    → MatchOption r (HasNoFrame bytes order) (IsFirstFrame bytes order)
first_of_index bytes order marks count s most None h = first_none bytes order marks count s most h
first_of_index bytes order marks count s most (Some n) h = first_some bytes order marks count n s h

pub frames_change : (bytes : List ℕ) (frame byte : ℕ) → AreFrames bytes → byte < 256 → frame < length bytes → AreFrames (set bytes frame byte)
frames_change bytes frame byte k lt within =
    let len : length (set bytes frame byte) ≡ length bytes = length-set bytes frame byte in
    let some : 1 ≤ length bytes = k.some in
    let most : length bytes ≤ 65536 = k.most in
    record {
      some = omega arith;
      most = omega arith;
      small = λ f.
          elim (cases_eq f frame) [
            | inl e ↦
                let written : get_or (set bytes frame byte) frame 0 ≡ byte = get_or-set_same bytes frame byte 0 within in
                rw (e, written) lt
            | inr ne ↦ rw (get_or-set_other bytes frame f byte 0 ne) (k.small f)
          ];
    }

-- each byte of new frames is 0
byte_new : (n f : ℕ) → get_or (replicate {A = ℕ} n 0) f 0 ≡ 0
byte_new n f =
    elim (cases_lt f n) [
      | inl l ↦ get_or-replicate n f 0 0 l
      | inr ge ↦
          let len : length (replicate {A = ℕ} n 0) ≡ n = length-replicate {A = ℕ} n 0 in
          get_or_past (replicate {A = ℕ} n 0) f 0 (omega arith)
    ]

-- new frames
pub frames_new : (n : ℕ) → 1 ≤ n → n ≤ 65536 → AreFrames (replicate {A = ℕ} n 0)
frames_new n some most =
    let len : length (replicate {A = ℕ} n 0) ≡ n = length-replicate {A = ℕ} n 0 in
    record { some = omega arith; most = omega arith; small = λ f. let z : get_or (replicate {A = ℕ} n 0) f 0 ≡ 0 = byte_new n f in omega arith }

pub units_new : (n unit : ℕ) → in_use (replicate {A = ℕ} n 0) unit ≡ 0
units_new n unit = rw (byte_new n (unit / 8)) (bit_at-zero (unit % 8))

none0 : blocks_of 0 0 ≡ 0
unfolding blocks_of
none0 = refl

none1 : blocks_of 1 0 ≡ 0
unfolding blocks_of
none1 = refl

none2 : blocks_of 2 0 ≡ 0
unfolding blocks_of
none2 = refl

one3 : blocks_of 3 0 ≡ 1
unfolding blocks_of
one3 = refl

-- of an order below 3 new frames have no free block
pub index_empty : (n order : ℕ) (marks : List ℕ) (count : ℕ) → order < 3 → count ≡ 0 → ((f : ℕ) → has marks f ≡ 0) → IsIndexed (replicate {A = ℕ} n 0) order marks count
index_empty n order marks count lt e none =
    let z : blocks_of order 0 ≡ 0 = four (λ o. o < 3 → blocks_of o 0 ≡ 0) order (omega arith) (λ l. none0) (λ l. none1) (λ l. none2) (λ l. absurd (omega arith)) lt in
    record {
      marks = λ f lt. rw (byte_new n f, z) (none f);
      beyond = λ f ge lt. none f;
      counts =
          let total : sum_by (blocks_of order) (replicate {A = ℕ} n 0) ≡ n * blocks_of order 0 = sum_by-replicate (blocks_of order) n 0 in
          let product : n * blocks_of order 0 ≡ 0 = rw z (omega arith) in
          omega arith;
    }

-- of order 3 each new frame has one
pub index_full : (n : ℕ) (marks : List ℕ) (count : ℕ) → count ≡ n → HasBelow marks n → IsIndexed (replicate {A = ℕ} n 0) 3 marks count
index_full n marks count e filled =
    let len : length (replicate {A = ℕ} n 0) ≡ n = length-replicate {A = ℕ} n 0 in
    record {
      marks = λ f lt. rw (byte_new n f, one3) (filled.below f (omega arith));
      beyond = λ f ge lt. filled.above f (omega arith) lt;
      counts =
          let total : sum_by (blocks_of 3) (replicate {A = ℕ} n 0) ≡ n * blocks_of 3 0 = sum_by-replicate (blocks_of 3) n 0 in
          let product : n * blocks_of 3 0 ≡ n = rw one3 (omega arith) in
          omega arith;
    }
