-- How many places of an order some blocks meet, at most.
use Rattle.std.proofs.Common.{◌≡◌, ◌<◌, ◌≤◌, ◌+◌, ◌-◌, ◌*◌, ◌/◌, ◌%◌, ◌^◌, ◌&&◌, ◌||◌, cond, leb, ltb, ℕ, zero, suc, Bool, true, false, Option, Some, None, List, [], ◌∷◌, IfSome, refl, subst, inl, inr, arith}
use Rattle.std.specs.List.{sum_by}
use Rattle.std.proofs.lemmas.Bool.{cases_Bool, and_parts, and_from, or_cases, or_left, or_right, or_from, leb-true, ltb-true, le-leb, lt-ltb, both_ways, cond-true, cond-false}
use Rattle.std.proofs.lemmas.List.Sums.{sum_by-cons}
use Rattle.buddy_frames.specs.Units.{Place, past}
use Rattle.buddy_frames.specs.FrameByte.{count_below}
use Rattle.buddy_frames.proofs.PlaceLemmas.{four}
use Rattle.page_store.specs.Crowds.{share_of_order}

-- a unit is one of a block's
abbrev pub holds : Option Place → ℕ → Bool
holds None v = false
holds (Some p) v = leb p.unit v && ltb v (past p)

abbrev pub any_holds : List (Option Place) → ℕ → Bool
any_holds [] v = false
any_holds (b ∷ bs) v = holds b v || any_holds bs v

-- at most so many places of order k does a block meet
abbrev pub weight : ℕ → Option Place → ℕ
weight k None = 0
weight k (Some p) = share_of_order k p.order

-- place number j of order k is one of those that the block could meet
abbrev pub meets : ℕ → Option Place → ℕ → Bool
meets k None j = false
meets k (Some p) j = leb (p.unit / 2 ^ k) j && ltb j (p.unit / 2 ^ k + weight k (Some p))

abbrev pub any_meets : ℕ → List (Option Place) → ℕ → Bool
any_meets k [] j = false
any_meets k (b ∷ bs) j = meets k b j || any_meets k bs j

-- each block is an aligned run of 1, 2, 4 or 8 units
abbrev pub AreRuns : List (Option Place) → Type 0
AreRuns [] = Unit {0}
AreRuns (b ∷ bs) = IfSome b (λ p. (p.order ≤ 3) × (p.unit % 2 ^ p.order ≡ 0)) × AreRuns bs

-- an interval has no more numbers than it is long
record Interval (n a w : ℕ) : Type 0 where
  pub le : count_below n (λ j. leb a j && ltb j (a + w)) ≤ w
  pub short : count_below n (λ j. leb a j && ltb j (a + w)) ≤ n - a

interval : (n a w : ℕ) → Interval n a w
interval zero a w = record { le = omega arith; short = omega arith }
interval (suc n) a w =
    let rest : Interval n a w = interval n a w in
    let le : count_below n (λ j. leb a j && ltb j (a + w)) ≤ w = rest.le in
    let short : count_below n (λ j. leb a j && ltb j (a + w)) ≤ n - a = rest.short in
    elim (cases_Bool (leb a n && ltb n (a + w))) [
      | inl e ↦
          let parts = and_parts (leb a n) (ltb n (a + w)) e in
          let low : a ≤ n = leb-true a n parts.0 in
          let high : n < a + w = ltb-true n (a + w) parts.1 in
          let one : cond {A = ℕ} (leb a n && ltb n (a + w)) 1 0 ≡ 1 = cond-true (leb a n && ltb n (a + w)) 1 0 e in
          record { le = omega arith; short = omega arith }
      | inr e ↦
          let none : cond {A = ℕ} (leb a n && ltb n (a + w)) 1 0 ≡ 0 = cond-false (leb a n && ltb n (a + w)) 1 0 e in
          record { le = omega arith; short = omega arith }
    ]

count_or : (n : ℕ) (p q : ℕ → Bool) → count_below n (λ j. p j || q j) ≤ count_below n p + count_below n q
count_or zero p q = omega arith
count_or (suc n) p q =
    let rest : count_below n (λ j. p j || q j) ≤ count_below n p + count_below n q = count_or n p q in
    elim (cases_Bool (p n)) [
      | inl e ↦
          let both : cond {A = ℕ} (p n || q n) 1 0 ≡ 1 = cond-true (p n || q n) 1 0 (or_left (p n) (q n) e) in
          let first : cond {A = ℕ} (p n) 1 0 ≡ 1 = cond-true (p n) 1 0 e in
          omega arith
      | inr e ↦
          elim (cases_Bool (q n)) [
            | inl f ↦
                let both : cond {A = ℕ} (p n || q n) 1 0 ≡ 1 = cond-true (p n || q n) 1 0 (or_right (p n) (q n) f) in
                let second : cond {A = ℕ} (q n) 1 0 ≡ 1 = cond-true (q n) 1 0 f in
                omega arith
            | inr f ↦
                let none : cond {A = ℕ} (p n || q n) 1 0 ≡ 0 = cond-false (p n || q n) 1 0 (or_from (p n) (q n) e f) in
                omega arith
          ]
    ]

count_all : (n : ℕ) (p : ℕ → Bool) → ((j : ℕ) → j < n → p j ≡ true) → count_below n p ≡ n
count_all zero p h = refl
count_all (suc n) p h =
    let here : cond {A = ℕ} (p n) 1 0 ≡ 1 = cond-true (p n) 1 0 (h n (omega arith)) in
    let rest : count_below n p ≡ n = count_all n p (λ j lt. h j (omega arith)) in
    omega arith

count_none : (n : ℕ) → count_below n (λ j. false) ≡ 0
count_none zero = refl
count_none (suc n) =
    let rest : count_below n (λ j. false) ≡ 0 = count_none n in
    omega arith

count_meets : (n k : ℕ) (b : Option Place) → count_below n (meets k b) ≤ weight k b
count_meets n k None = let none : count_below n (λ j. false) ≡ 0 = count_none n in omega arith
count_meets n k (Some p) = (interval n (p.unit / 2 ^ k) (weight k (Some p))).le

counts_le : (n k : ℕ) (bs : List (Option Place)) → count_below n (any_meets k bs) ≤ sum_by (weight k) bs
counts_le n k [] = let none : count_below n (λ j. false) ≡ 0 = count_none n in omega arith
counts_le n k (b ∷ bs) =
    let rest : count_below n (any_meets k bs) ≤ sum_by (weight k) bs = counts_le n k bs in
    let one : count_below n (meets k b) ≤ weight k b = count_meets n k b in
    let both : count_below n (λ j. meets k b j || any_meets k bs j) ≤ count_below n (meets k b) + count_below n (any_meets k bs) = count_or n (meets k b) (any_meets k bs) in
    rw (sum_by-cons (weight k) b bs) (omega arith)

-- a unit of a block lies in one of the places that it could meet
record Reaches (k o u v : ℕ) : Type 0 where
  pub low : u / 2 ^ k ≤ v / 2 ^ k
  pub high : v / 2 ^ k < u / 2 ^ k + share_of_order k o

reaches : (k o u v : ℕ) → k ≤ 3 → o ≤ 3 → u % 2 ^ o ≡ 0 → u ≤ v → v < u + 2 ^ o → Reaches k o u v
reaches k o u v known small aligned low high =
    four (λ k. u % 2 ^ o ≡ 0 → v < u + 2 ^ o → Reaches k o u v) k known
    (λ a h. four (λ o. u % 2 ^ o ≡ 0 → v < u + 2 ^ o → Reaches 0 o u v) o small
    (λ a h. record { low = omega arith; high = omega arith }) (λ a h. record { low = omega arith; high = omega arith })
    (λ a h. record { low = omega arith; high = omega arith }) (λ a h. record { low = omega arith; high = omega arith }) a h)
    (λ a h. four (λ o. u % 2 ^ o ≡ 0 → v < u + 2 ^ o → Reaches 1 o u v) o small
    (λ a h. record { low = omega arith; high = omega arith }) (λ a h. record { low = omega arith; high = omega arith })
    (λ a h. record { low = omega arith; high = omega arith }) (λ a h. record { low = omega arith; high = omega arith }) a h)
    (λ a h. four (λ o. u % 2 ^ o ≡ 0 → v < u + 2 ^ o → Reaches 2 o u v) o small
    (λ a h. record { low = omega arith; high = omega arith }) (λ a h. record { low = omega arith; high = omega arith })
    (λ a h. record { low = omega arith; high = omega arith }) (λ a h. record { low = omega arith; high = omega arith }) a h)
    (λ a h. four (λ o. u % 2 ^ o ≡ 0 → v < u + 2 ^ o → Reaches 3 o u v) o small
    (λ a h. record { low = omega arith; high = omega arith }) (λ a h. record { low = omega arith; high = omega arith })
    (λ a h. record { low = omega arith; high = omega arith }) (λ a h. record { low = omega arith; high = omega arith }) a h)
    aligned high

meets_at : (k : ℕ) (b : Option Place) (v : ℕ) → k ≤ 3 → IfSome b (λ p. (p.order ≤ 3) × (p.unit % 2 ^ p.order ≡ 0)) → holds b v ≡ true → meets k b (v / 2 ^ k) ≡ true
meets_at k None v known run h = h
meets_at k (Some p) v known run h =
    let parts = and_parts (leb p.unit v) (ltb v (past p)) h in
    let r : Reaches k p.order p.unit v = reaches k p.order p.unit v known run.0 run.1 (leb-true p.unit v parts.0) (ltb-true v (past p) parts.1) in
    and_from (leb (p.unit / 2 ^ k) (v / 2 ^ k)) (ltb (v / 2 ^ k) (p.unit / 2 ^ k + share_of_order k p.order)) (le-leb _ _ r.low) (lt-ltb _ _ r.high)

any_meets_at : (k : ℕ) (bs : List (Option Place)) (v : ℕ) → k ≤ 3 → AreRuns bs → any_holds bs v ≡ true → any_meets k bs (v / 2 ^ k) ≡ true
any_meets_at k [] v known runs h = h
any_meets_at k (b ∷ bs) v known runs h =
    elim (or_cases (holds b v) (any_holds bs v) h) [
      | inl e ↦ or_left (meets k b (v / 2 ^ k)) (any_meets k bs (v / 2 ^ k)) (meets_at k b v known runs.0 e)
      | inr e ↦ or_right (meets k b (v / 2 ^ k)) (any_meets k bs (v / 2 ^ k)) (any_meets_at k bs v known runs.1 e)
    ]

in_place : (k j v : ℕ) → k ≤ 3 → j * 2 ^ k ≤ v → v < j * 2 ^ k + 2 ^ k → v / 2 ^ k ≡ j
in_place k j v known low high =
    four (λ k. j * 2 ^ k ≤ v → v < j * 2 ^ k + 2 ^ k → v / 2 ^ k ≡ j) k known
    (λ l h. omega arith) (λ l h. omega arith) (λ l h. omega arith) (λ l h. omega arith) low high

-- where each of n places of order k has a unit of a block, the blocks weigh at least n
pub all_met : (n k : ℕ) (bs : List (Option Place)) → k ≤ 3 → AreRuns bs
    → ((j : ℕ) → j < n → ((v : ℕ) → j * 2 ^ k ≤ v → v < j * 2 ^ k + 2 ^ k → any_holds bs v ≡ false) → ⊥)
    → n ≤ sum_by (weight k) bs
all_met n k bs known runs none =
    let each : (j : ℕ) → j < n → any_meets k bs j ≡ true = λ j lt.
    elim (cases_Bool (any_meets k bs j)) [
      | inl e ↦ e
      | inr e ↦ absurd (none j lt (λ v low high.
          elim (cases_Bool (any_holds bs v)) [
            | inl held ↦
                let there : any_meets k bs (v / 2 ^ k) ≡ true = any_meets_at k bs v known runs held in
                let here : any_meets k bs j ≡ true = subst (λ (i : ℕ). any_meets k bs i ≡ true) (in_place k j v known low high) there in
                absurd (both_ways (any_meets k bs j) e here)
            | inr free ↦ free
          ]))
    ] in
    let whole : count_below n (any_meets k bs) ≡ n = count_all n (any_meets k bs) each in
    let most : count_below n (any_meets k bs) ≤ sum_by (weight k) bs = counts_le n k bs in
    omega arith
