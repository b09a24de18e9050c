-- The sum of the frames' free blocks is the count of free blocks over all units.
use Rattle.std.proofs.Common.{◌≡◌, ◌<◌, ◌≤◌, ◌+◌, ◌*◌, ◌/◌, ◌%◌, ◌∙◌, cond, ℕ, zero, suc, Bool, true, List, length, get_or, take, refl, sym, subst, ap, inl, inr, arith}
use Rattle.std.specs.List.{sum_by}
use Rattle.std.proofs.Math.Seq.{take-length}
use Rattle.std.proofs.lemmas.Bool.{cases_Bool, both_ways, cond-true, cond-false}
use Rattle.std.proofs.lemmas.List.Sums.{sum_by_more}
use Rattle.buddy_frames.specs.Units.{place_at, IsFreeBlock, IsCount}
use Rattle.buddy_frames.specs.FrameByte.{count_below, block_free, blocks_of}
use Rattle.buddy_frames.proofs.PlaceLemmas.{byte_at, to_block, from_block}

-- a test that passes exactly where a fact holds counts it
count_tests : (n : ℕ) (p : ℕ → Bool) (Meets : ℕ → Type 0) → ((k : ℕ) → k < n → p k ≡ true → Meets k) → ((k : ℕ) → k < n → Meets k → p k ≡ true) → IsCount n Meets (count_below n p)
count_tests zero p Meets there back = refl
count_tests (suc n) p Meets there back =
    let rest : IsCount n Meets (count_below n p) = count_tests n p Meets (λ k lt. there k (omega arith)) (λ k lt. back k (omega arith)) in
    elim (cases_Bool (p n)) [
      | inl e ↦
          let one : cond {A = ℕ} (p n) 1 0 ≡ 1 = cond-true (p n) 1 0 e in
          inl (there n (omega arith) e, (count_below n p, (omega arith, rest)))
      | inr e ↦
          let none : cond {A = ℕ} (p n) 1 0 ≡ 0 = cond-false (p n) 1 0 e in
          let same : count_below (suc n) p ≡ count_below n p = omega arith in
          inr (λ h. both_ways (p n) e (back n (omega arith) h), subst (λ (c : ℕ). IsCount n Meets c) (sym same) rest)
    ]

pub count_nothing : (n : ℕ) (Meets : ℕ → Type 0) → ((k : ℕ) → Meets k → ⊥) → IsCount n Meets 0
count_nothing zero Meets none = refl
count_nothing (suc n) Meets none = inr (none n, count_nothing n Meets none)

count_same : (n : ℕ) (p q : ℕ → Bool) → ((k : ℕ) → k < n → p k ≡ q k) → count_below n p ≡ count_below n q
count_same zero p q same = refl
count_same (suc n) p q same =
    let rest : count_below n p ≡ count_below n q = count_same n p q (λ k lt. same k (omega arith)) in
    let here : cond {A = ℕ} (p n) 1 0 ≡ cond (q n) 1 0 = ap (λ b. cond {A = ℕ} b 1 0) (same n (omega arith)) in
    omega arith

-- a count goes over the low numbers, and then over the others
count_split : (m n : ℕ) (p : ℕ → Bool) → count_below (m + n) p ≡ count_below m (λ i. p (n + i)) + count_below n p
count_split zero n p =
    let z : 0 + n ≡ n = omega arith in
    rw z (omega arith)
count_split (suc m) n p =
    let s : suc m + n ≡ suc (m + n) = omega arith in
    let c : m + n ≡ n + m = omega arith in
    let rest : count_below (m + n) p ≡ count_below m (λ i. p (n + i)) + count_below n p = count_split m n p in
    let here : cond {A = ℕ} (p (m + n)) 1 0 ≡ cond (p (n + m)) 1 0 = ap (λ k. cond {A = ℕ} (p k) 1 0) c in
    let whole : count_below (suc (m + n)) p ≡ cond (p (n + m)) 1 0 + count_below m (λ i. p (n + i)) + count_below n p = omega arith in
    subst (λ (k : ℕ). count_below k p ≡ cond (p (n + m)) 1 0 + count_below m (λ i. p (n + i)) + count_below n p) (sym s) whole

-- whether a free block of an order begins at a unit
abbrev begins : List ℕ → ℕ → ℕ → Bool
begins used order u = block_free (byte_at used u) order (u % 8)

frame_count : (used : List ℕ) (order m : ℕ) → count_below 8 (λ i. begins used order (8 * m + i)) ≡ blocks_of order (get_or used m 0)
unfolding blocks_of
frame_count used order m =
    count_same 8 (λ i. begins used order (8 * m + i)) (block_free (get_or used m 0) order) (λ i lt.
    let q : (8 * m + i) / 8 ≡ m = omega arith in
    let r : (8 * m + i) % 8 ≡ i = omega arith in
    rw (q, r) refl)

count_frames : (used : List ℕ) (order m : ℕ) → m ≤ length used → count_below (8 * m) (begins used order) ≡ sum_by (blocks_of order) (take m used)
count_frames used order zero le = refl
count_frames used order (suc m) le =
    let lt : m < length used = omega arith in
    let rest : count_below (8 * m) (begins used order) ≡ sum_by (blocks_of order) (take m used) = count_frames used order m (omega arith) in
    let here : count_below 8 (λ i. begins used order (8 * m + i)) ≡ blocks_of order (get_or used m 0) = frame_count used order m in
    let split : count_below (8 + 8 * m) (begins used order) ≡ count_below 8 (λ i. begins used order (8 * m + i)) + count_below (8 * m) (begins used order) = count_split 8 (8 * m) (begins used order) in
    let more : sum_by (blocks_of order) (take (m + 1) used) ≡ sum_by (blocks_of order) (take m used) + blocks_of order (get_or used m 0) = sum_by_more (blocks_of order) used m 0 lt in
    let units : 8 + 8 * m ≡ 8 * suc m = omega arith in
    let next : m + 1 ≡ suc m = omega arith in
    let total : count_below (8 * suc m) (begins used order) ≡ count_below 8 (λ i. begins used order (8 * m + i)) + count_below (8 * m) (begins used order) = rw units at split in
    let sum : sum_by (blocks_of order) (take (suc m) used) ≡ sum_by (blocks_of order) (take m used) + blocks_of order (get_or used m 0) = rw next at more in
    total ∙ ap (λ k. k + count_below (8 * m) (begins used order)) here ∙ ap (λ k. blocks_of order (get_or used m 0) + k) rest ∙ omega arith

pub count_blocks : (used : List ℕ) (order count : ℕ) → order ≤ 3 → count ≡ sum_by (blocks_of order) used → IsCount (8 * length used) (λ u. IsFreeBlock used (place_at order u)) count
count_blocks used order count known is =
    let sum : count_below (8 * length used) (begins used order) ≡ sum_by (blocks_of order) (take (length used) used) = count_frames used order (length used) (omega arith) in
    let all : count_below (8 * length used) (begins used order) ≡ sum_by (blocks_of order) used = sum ∙ ap (sum_by (blocks_of order)) (take-length used) in
    subst (λ (c : ℕ). IsCount (8 * length used) (λ u. IsFreeBlock used (place_at order u)) c) (all ∙ sym is)
    (count_tests (8 * length used) (begins used order) (λ u. IsFreeBlock used (place_at order u))
    (λ u lt h. from_block used order u known (omega arith) h)
    (λ u lt b. to_block used order u b))

pub count_beyond : (used : List ℕ) (order : ℕ) → 3 < order → IsCount (8 * length used) (λ u. IsFreeBlock used (place_at order u)) 0
count_beyond used order beyond =
    count_nothing (8 * length used) (λ u. IsFreeBlock used (place_at order u)) (λ u b.
    let known : order ≤ 3 = b.place_free.lies.known in
    absurd (omega arith))
