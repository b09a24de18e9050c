-- Facts on the byte of a frame, each by computing over all 256.
use Rattle.std.proofs.Common.{◌≡◌, ◌<◌, ◌≤◌, ◌+◌, ◌-◌, ◌*◌, ◌/◌, ◌%◌, ◌^◌, leb, ltb, ◌&&◌, ◌||◌, not, cond, ℕ, zero, suc, Bool, true, false, refl, sym, subst, inl, inr, arith}
use Rattle.std.specs.Prelude.{bit_and, bit_or, count_ones, nat_lt, nat_le, ◌==◌}
use Rattle.std.specs.Int.{bit_at}
use Rattle.std.proofs.lemmas.Bool.{cases_eq, and_parts, and_from, eqb-true, leb-true, eq-eqb, both_ways, not-true, ltb-true}
use Rattle.buddy_frames.specs.Units.{run_bits}
use Rattle.buddy_frames.specs.FrameByte.{all_below, run_is, block_free, blocks_of, AreStarts}

-- a test that passes below a limit passes at each number there
pub all_at : (n : ℕ) (p : ℕ → Bool) → all_below n p ≡ true → (k : ℕ) → k < n → p k ≡ true
all_at zero p h k lt = absurd (omega arith)
all_at (suc n) p h k lt =
    let q = and_parts (p n) (all_below n p) h in
    elim (cases_eq k n) [
      | inl e ↦ subst (λ (j : ℕ). p j ≡ true) (sym e) q.0
      | inr ne ↦ all_at n p q.1 k (omega arith)
    ]

pub all_from : (n : ℕ) (p : ℕ → Bool) → ((k : ℕ) → k < n → p k ≡ true) → all_below n p ≡ true
all_from zero p h = refl
all_from (suc n) p h = and_from (p n) (all_below n p) (h n (omega arith)) (all_from n p (λ k lt. h k (omega arith)))

abbrev implies : Bool → Bool → Bool
implies p q = not p || q

implied : (p q : Bool) → implies p q ≡ true → p ≡ true → q ≡ true
implied true q h e = h
implied false q h e = absurd (both_ways false refl e)

abbrev same : Bool → Bool → Bool
same p q = cond p q (not q)

same_there : (p q : Bool) → same p q ≡ true → p ≡ true → q ≡ true
same_there true q h e = h
same_there false q h e = absurd (both_ways false refl e)

same_back : (p q : Bool) → same p q ≡ true → q ≡ true → p ≡ true
same_back true q h e = refl
same_back false q h e = absurd (both_ways q (not-true q h) e)

-- the bits at which a free block of an order begins, as the code computes them
abbrev pub pairs_of : ℕ → ℕ
pairs_of byte = bit_and (bit_and (255 - byte) ((255 - byte) / 2)) 85

abbrev pub fours_of : ℕ → ℕ
fours_of byte = bit_and (bit_and (pairs_of byte) (pairs_of byte / 4)) 17

abbrev pub whole_of : ℕ → ℕ
whole_of byte = bit_and (bit_and (fours_of byte) (fours_of byte / 16)) 1

unfoldable pub starts0 : ℕ → ℕ
starts0 byte = bit_and (255 - byte) (255 - bit_or (pairs_of byte) (pairs_of byte * 2 % 256))

unfoldable pub starts1 : ℕ → ℕ
starts1 byte = bit_and (pairs_of byte) (255 - bit_or (fours_of byte) (fours_of byte * 4 % 256))

unfoldable pub starts2 : ℕ → ℕ
starts2 byte = bit_and (fours_of byte) (255 - bit_or (whole_of byte) (whole_of byte * 16 % 256))

unfoldable pub starts3 : ℕ → ℕ
starts3 byte = whole_of byte

abbrev are_starts : ℕ → (ℕ → ℕ) → ℕ → Bool
are_starts order f b = (nat_lt (f b) 256 && all_below 8 (λ at. same (bit_at (f b) at == 1) (block_free b order at))) && count_ones (f b) == blocks_of order b

starts_from : (order : ℕ) (f : ℕ → ℕ) → all_below 256 (are_starts order f) ≡ true → (b : ℕ) → b < 256 → AreStarts b order (f b)
starts_from order f table b lt =
    let row = all_at 256 (are_starts order f) table b lt in
    let p = and_parts (nat_lt (f b) 256 && all_below 8 (λ at. same (bit_at (f b) at == 1) (block_free b order at))) (count_ones (f b) == blocks_of order b) row in
    let q = and_parts (nat_lt (f b) 256) (all_below 8 (λ at. same (bit_at (f b) at == 1) (block_free b order at))) p.0 in
    record {
      small = ltb-true (f b) 256 q.0;
      begins = λ at h e. same_there (bit_at (f b) at == 1) (block_free b order at) (all_at 8 (λ at. same (bit_at (f b) at == 1) (block_free b order at)) q.1 at h) (eq-eqb (bit_at (f b) at) 1 e);
      only = λ at h e. eqb-true (bit_at (f b) at) 1 (same_back (bit_at (f b) at == 1) (block_free b order at) (all_at 8 (λ at. same (bit_at (f b) at == 1) (block_free b order at)) q.1 at h) e);
      counts = eqb-true (count_ones (f b)) (blocks_of order b) p.1;
    }

table0 : all_below 256 (are_starts 0 starts0) ≡ true
unfolding lib.Count.ones blocks_of starts0
table0 = refl

table1 : all_below 256 (are_starts 1 starts1) ≡ true
unfolding lib.Count.ones blocks_of starts1
table1 = refl

table2 : all_below 256 (are_starts 2 starts2) ≡ true
unfolding lib.Count.ones blocks_of starts2
table2 = refl

table3 : all_below 256 (are_starts 3 starts3) ≡ true
unfolding lib.Count.ones blocks_of starts3
table3 = refl

pub starts0_are : (b : ℕ) → b < 256 → AreStarts b 0 (starts0 b)
starts0_are = starts_from 0 starts0 table0

pub starts1_are : (b : ℕ) → b < 256 → AreStarts b 1 (starts1 b)
starts1_are = starts_from 1 starts1 table1

pub starts2_are : (b : ℕ) → b < 256 → AreStarts b 2 (starts2 b)
starts2_are = starts_from 2 starts2 table2

pub starts3_are : (b : ℕ) → b < 256 → AreStarts b 3 (starts3 b)
starts3_are = starts_from 3 starts3 table3

-- a byte plus or minus a run
abbrev pub inside : ℕ → ℕ → ℕ → Bool
inside o at i = leb at i && ltb i (at + 2 ^ o)

abbrev marks : ℕ → ℕ → ℕ → Bool
marks b o at = implies (run_is b o at 0) (nat_lt (b + run_bits o at) 256 && all_below 8 (λ i. bit_at (b + run_bits o at) i == cond (inside o at i) 1 (bit_at b i)))

abbrev clears : ℕ → ℕ → ℕ → Bool
clears b o at = implies (run_is b o at 1) (nat_le (run_bits o at) b && all_below 8 (λ i. bit_at (b - run_bits o at) i == cond (inside o at i) 0 (bit_at b i)))

table_marks : all_below 256 (λ b. all_below 4 (λ o. all_below 8 (λ at. marks b o at))) ≡ true
table_marks = refl

table_clears : all_below 256 (λ b. all_below 4 (λ o. all_below 8 (λ at. clears b o at))) ≡ true
table_clears = refl

-- a byte in which a free run comes into use
pub record Marks (b o at : ℕ) : Type 0 where
  pub fits : b + run_bits o at < 256
  pub bits : (i : ℕ) → i < 8 → bit_at (b + run_bits o at) i ≡ cond (inside o at i) 1 (bit_at b i)

pub marks_byte : (b o at : ℕ) → b < 256 → o ≤ 3 → at < 8 → run_is b o at 0 ≡ true → Marks b o at
marks_byte b o at bl known al h =
    let row : marks b o at ≡ true = all_at 8 (λ at. marks b o at) (all_at 4 (λ o. all_below 8 (λ at. marks b o at)) (all_at 256 (λ b. all_below 4 (λ o. all_below 8 (λ at. marks b o at))) table_marks b bl) o (omega arith)) at al in
    let both = and_parts (nat_lt (b + run_bits o at) 256) (all_below 8 (λ i. bit_at (b + run_bits o at) i == cond (inside o at i) 1 (bit_at b i))) (implied (run_is b o at 0) _ row h) in
    record {
      fits = ltb-true (b + run_bits o at) 256 both.0;
      bits = λ i lt. eqb-true _ _ (all_at 8 (λ i. bit_at (b + run_bits o at) i == cond (inside o at i) 1 (bit_at b i)) both.1 i lt);
    }

-- a byte in which a used run becomes free
pub record Clears (b o at : ℕ) : Type 0 where
  pub fits : run_bits o at ≤ b
  pub bits : (i : ℕ) → i < 8 → bit_at (b - run_bits o at) i ≡ cond (inside o at i) 0 (bit_at b i)

pub clears_byte : (b o at : ℕ) → b < 256 → o ≤ 3 → at < 8 → run_is b o at 1 ≡ true → Clears b o at
clears_byte b o at bl known al h =
    let row : clears b o at ≡ true = all_at 8 (λ at. clears b o at) (all_at 4 (λ o. all_below 8 (λ at. clears b o at)) (all_at 256 (λ b. all_below 4 (λ o. all_below 8 (λ at. clears b o at))) table_clears b bl) o (omega arith)) at al in
    let both = and_parts (nat_le (run_bits o at) b) (all_below 8 (λ i. bit_at (b - run_bits o at) i == cond (inside o at i) 0 (bit_at b i))) (implied (run_is b o at 1) _ row h) in
    record {
      fits = leb-true (run_bits o at) b both.0;
      bits = λ i lt. eqb-true _ _ (all_at 8 (λ i. bit_at (b - run_bits o at) i == cond (inside o at i) 0 (bit_at b i)) both.1 i lt);
    }
