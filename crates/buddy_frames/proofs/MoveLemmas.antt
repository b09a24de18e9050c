-- One change of the units after another.
use Rattle.std.proofs.Common.{◌≡◌, ◌<◌, ◌≤◌, ◌+◌, ◌-◌, ◌*◌, ◌/◌, ◌%◌, ◌^◌, ◌∙◌, leb, ltb, ◌&&◌, ℕ, false, inl, inr, List, length, get_or, arith}
use Rattle.std.proofs.lemmas.Bool.{and_from, and_parts, ltb-true, leb-true, lt-ltb, le-leb, cond-true, cond-false, cases_lt, false_from_ne_true}
use Rattle.std.proofs.lemmas.List.{get_or-set_same, set-set, set-get_or}
use Rattle.buddy_frames.specs.Units.{Place, place_at, past, run_bits, in_use, IsPlace, AllUnits, IsFreePlace, IsUsedPlace, IsChoice, SetsUnits, taken, given, AreApart, KeepsUsed, KeepsOthers}
use Rattle.buddy_frames.proofs.PlaceLemmas.{four, some_units, byte_at, place_frame}

pub AreApart-swap : (p q : Place) → AreApart p q → AreApart q p
AreApart-swap p q h = elim h [ inl x ↦ inr x | inr x ↦ inl x ]

-- the units that were set have their state
set_all : (before : List ℕ) (p : Place) (s : ℕ) (after : List ℕ) → SetsUnits before p s after → AllUnits after p s
set_all before p s after sets = λ v lo hi.
    sets.units v ∙ cond-true (leb p.unit v && ltb v (past p)) s (in_use before v) (and_from (leb p.unit v) (ltb v (past p)) (le-leb p.unit v lo) (lt-ltb v (past p) hi))

place_after : (before : List ℕ) (p : Place) (after : List ℕ) → length after ≡ length before → IsPlace before p → IsPlace after p
place_after before p after e lies = record { known = lies.known; aligned = lies.aligned; within = rw e lies.within }

free_after : (before : List ℕ) (p : Place) (after : List ℕ) → IsPlace before p → SetsUnits before p 0 after → IsFreePlace after p
free_after before p after lies sets = record { lies = place_after before p after sets.same lies; free = set_all before p 0 after sets }

pub used_after : (before : List ℕ) (p : Place) (after : List ℕ) → IsPlace before p → SetsUnits before p 1 after → IsUsedPlace after p
used_after before p after lies sets = record { lies = place_after before p after sets.same lies; full = set_all before p 1 after sets }

-- the first units of a place are a place
record Smaller (o k u : ℕ) : Type 0 where
  pub aligned : u % 2 ^ o ≡ 0
  pub fewer : 2 ^ o ≤ 2 ^ k

smaller_run : (o k u : ℕ) → o ≤ k → k ≤ 3 → u % 2 ^ k ≡ 0 → Smaller o k u
smaller_run o k u le known a =
    four (λ k. o ≤ k → u % 2 ^ k ≡ 0 → Smaller o k u) k known
    (λ l a. four (λ o. o ≤ 0 → Smaller o 0 u) o (omega arith) (λ m. record { aligned = omega arith; fewer = omega arith }) (λ m. absurd (omega arith)) (λ m. absurd (omega arith)) (λ m. absurd (omega arith)) l)
    (λ l a. four (λ o. o ≤ 1 → Smaller o 1 u) o (omega arith) (λ m. record { aligned = omega arith; fewer = omega arith }) (λ m. record { aligned = omega arith; fewer = omega arith }) (λ m. absurd (omega arith)) (λ m. absurd (omega arith)) l)
    (λ l a. four (λ o. o ≤ 2 → Smaller o 2 u) o (omega arith) (λ m. record { aligned = omega arith; fewer = omega arith }) (λ m. record { aligned = omega arith; fewer = omega arith }) (λ m. record { aligned = omega arith; fewer = omega arith }) (λ m. absurd (omega arith)) l)
    (λ l a. four (λ o. o ≤ 3 → Smaller o 3 u) o (omega arith) (λ m. record { aligned = omega arith; fewer = omega arith }) (λ m. record { aligned = omega arith; fewer = omega arith }) (λ m. record { aligned = omega arith; fewer = omega arith }) (λ m. record { aligned = omega arith; fewer = omega arith }) l)
    le a

smaller_place : (used : List ℕ) (o k u : ℕ) → o ≤ k → IsFreePlace used (place_at k u) → IsFreePlace used (place_at o u)
smaller_place used o k u le p =
    let known : k ≤ 3 = p.lies.known in
    let s = smaller_run o k u le known p.lies.aligned in
    let fewer : 2 ^ o ≤ 2 ^ k = s.fewer in
    let within : u + 2 ^ k ≤ 8 * length used = p.lies.within in
    record {
      lies = record { known = omega arith; aligned = s.aligned; within = omega arith };
      free = λ v lo hi. p.free v lo (omega arith);
    }

-- where a place is made free, so are its first units
pub first_free : (before : List ℕ) (p : Place) (o u : ℕ) (after : List ℕ) (q : Place) → q ≡ place_at o u → u ≡ p.unit
    → o ≤ p.order → IsPlace before p → SetsUnits before p 0 after → IsFreePlace after q
first_free before p o u after q is at le lies sets = rw (is, at) (smaller_place after o p.order p.unit le (free_after before p after lies sets))

-- a place that is chosen is free
pub chosen_free : (used : List ℕ) (o u : ℕ) (p : Place) → p ≡ place_at o u → IsChoice used o (place_at o u) → IsFreePlace used p
chosen_free used o u p is choice = rw is (smaller_place used o choice.from u choice.enough choice.block.place_free)

-- a free place and a used place are apart
pub free_apart : (used : List ℕ) (p q : Place) → IsFreePlace used p → IsUsedPlace used q → AreApart p q
free_apart used p q free live =
    let one_p : 1 ≤ 2 ^ p.order = some_units p.order free.lies.known in
    let one_q : 1 ≤ 2 ^ q.order = some_units q.order live.lies.known in
    elim (cases_lt p.unit q.unit) [
      | inl l ↦
          elim (cases_lt q.unit (past p)) [
            | inl m ↦
                let zero_there : in_use used q.unit ≡ 0 = free.free q.unit (omega arith) m in
                let one_there : in_use used q.unit ≡ 1 = live.full q.unit (omega arith) (omega arith) in
                absurd (omega arith)
            | inr ge ↦ inl ge
          ]
      | inr ge ↦
          elim (cases_lt p.unit (past q)) [
            | inl m ↦
                let zero_there : in_use used p.unit ≡ 0 = free.free p.unit (omega arith) (omega arith) in
                let one_there : in_use used p.unit ≡ 1 = live.full p.unit ge m in
                absurd (omega arith)
            | inr le ↦ inr le
          ]
    ]

-- a used place apart from the units that are set stays in use
pub set_keeps : (before : List ℕ) (p : Place) (s : ℕ) (after : List ℕ) → SetsUnits before p s after → KeepsOthers before p after
set_keeps before p s after sets q live apart = record {
  lies = place_after before q after sets.same live.lies;
  full = λ w lo hi.
      let outside : (leb p.unit w && ltb w (past p)) ≡ false =
      false_from_ne_true (leb p.unit w && ltb w (past p)) (λ h.
      let parts = and_parts (leb p.unit w) (ltb w (past p)) h in
      let lo2 : p.unit ≤ w = leb-true p.unit w parts.0 in
      let hi2 : w < past p = ltb-true w (past p) parts.1 in
      elim apart [
        | inl x ↦ absurd (omega arith)
        | inr x ↦ absurd (omega arith)
      ]) in
      sets.units w ∙ cond-false (leb p.unit w && ltb w (past p)) s (in_use before w) outside ∙ live.full w lo hi;
}

-- a used place stays in use where a free place comes into use
pub mark_keeps : (before : List ℕ) (p : Place) (after : List ℕ) → IsFreePlace before p → SetsUnits before p 1 after
    → KeepsUsed before after
mark_keeps before p after free sets q live = set_keeps before p 1 after sets q live (free_apart before p q free live)

-- what is given and taken again is as it was
pub taken-given : (used : List ℕ) (p : Place) → run_bits p.order (p.unit % 8) ≤ byte_at used p.unit → IsPlace used p → taken (given used p) p ≡ used
taken-given used p fits lies =
    let within : p.unit / 8 < length used = place_frame used p lies in
    let sum : byte_at used p.unit - run_bits p.order (p.unit % 8) + run_bits p.order (p.unit % 8) ≡ byte_at used p.unit = omega arith in
    let there : get_or (given used p) (p.unit / 8) 0 ≡ byte_at used p.unit - run_bits p.order (p.unit % 8) = get_or-set_same used (p.unit / 8) (byte_at used p.unit - run_bits p.order (p.unit % 8)) 0 within in
    rw (there, sum, set-set used (p.unit / 8) (byte_at used p.unit - run_bits p.order (p.unit % 8)) (byte_at used p.unit)) (set-get_or used (p.unit / 8) 0)
