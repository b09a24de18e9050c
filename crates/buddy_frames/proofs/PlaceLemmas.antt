-- Places and free blocks, by the byte of their frame.
use Rattle.std.proofs.Common.{◌≡◌, ◌<◌, ◌≤◌, ◌+◌, ◌-◌, ◌*◌, ◌/◌, ◌%◌, ◌^◌, eqb, ◌||◌, not, ℕ, zero, suc, Bool, true, List, length, get_or, sym, subst, inl, inr, arith}
use Rattle.std.specs.Int.{bit_at}
use Rattle.std.proofs.lemmas.Bool.{cases_eq, and_parts, and_from, or_cases, or_left, or_right, eqb-true, eq-eqb, both_ways, not-true, not_from_false, false_from_ne_true}
use Rattle.buddy_frames.specs.Units.{Place, place_at, enclosing_unit, enclosing, IsPlace, AllUnits, IsFreePlace, IsFreeBlock}
use Rattle.buddy_frames.specs.FrameByte.{all_below, run_is, place_free, block_free}
use Rattle.buddy_frames.proofs.TableLemmas.{all_at, all_from}

-- an order, by cases
pub four : (P : ℕ → Type 0) (o : ℕ) → o ≤ 3 → P 0 → P 1 → P 2 → P 3 → P o
four P zero h a b c d = a
four P (suc zero) h a b c d = b
four P (suc (suc zero)) h a b c d = c
four P (suc (suc (suc zero))) h a b c d = d
four P (suc (suc (suc (suc n)))) h a b c d = absurd (omega arith)

pub some_units : (o : ℕ) → o ≤ 3 → 1 ≤ 2 ^ o
some_units o known = four (λ o. 1 ≤ 2 ^ o) o known (omega arith) (omega arith) (omega arith) (omega arith)

-- a unit of a place, in the frame of the place
pub record SharesFrame (u i : ℕ) : Type 0 where
  pub frame : (u + i) / 8 ≡ u / 8
  pub at : (u + i) % 8 ≡ u % 8 + i

pub shares_frame : (o u i : ℕ) → o ≤ 3 → u % 2 ^ o ≡ 0 → i < 2 ^ o → SharesFrame u i
shares_frame o u i known aligned lt =
    four (λ o. u % 2 ^ o ≡ 0 → i < 2 ^ o → SharesFrame u i) o known
    (λ a l. record { frame = omega arith; at = omega arith })
    (λ a l. record { frame = omega arith; at = omega arith })
    (λ a l. record { frame = omega arith; at = omega arith })
    (λ a l. record { frame = omega arith; at = omega arith })
    aligned lt

-- a place lies in one frame
pub record FitsFrame (o u : ℕ) : Type 0 where
  pub aligned : u % 8 % 2 ^ o ≡ 0
  pub room : u % 8 + 2 ^ o ≤ 8

pub fits_frame : (o u : ℕ) → o ≤ 3 → u % 2 ^ o ≡ 0 → FitsFrame o u
fits_frame o u known aligned =
    four (λ o. u % 2 ^ o ≡ 0 → FitsFrame o u) o known
    (λ a. record { aligned = omega arith; room = omega arith })
    (λ a. record { aligned = omega arith; room = omega arith })
    (λ a. record { aligned = omega arith; room = omega arith })
    (λ a. record { aligned = omega arith; room = omega arith })
    aligned

aligned_back : (o u : ℕ) → o ≤ 3 → u % 8 % 2 ^ o ≡ 0 → u % 2 ^ o ≡ 0
aligned_back o u known a =
    four (λ o. u % 8 % 2 ^ o ≡ 0 → u % 2 ^ o ≡ 0) o known
    (λ a. omega arith) (λ a. omega arith) (λ a. omega arith) (λ a. omega arith) a

-- the enclosing place lies in the same frame
record SharesEnclosing (o u : ℕ) : Type 0 where
  pub frame : enclosing_unit o u / 8 ≡ u / 8
  pub at : enclosing_unit o u % 8 ≡ enclosing_unit o (u % 8)

shares_enclosing : (o u : ℕ) → o < 3 → SharesEnclosing o u
shares_enclosing o u lt =
    four (λ o. o < 3 → SharesEnclosing o u) o (omega arith)
    (λ l. record { frame = omega arith; at = omega arith })
    (λ l. record { frame = omega arith; at = omega arith })
    (λ l. record { frame = omega arith; at = omega arith })
    (λ l. absurd (omega arith))
    lt

frame_within : (o u n : ℕ) → o ≤ 3 → u + 2 ^ o ≤ 8 * n → u / 8 < n
frame_within o u n known h =
    four (λ o. u + 2 ^ o ≤ 8 * n → u / 8 < n) o known
    (λ h. omega arith) (λ h. omega arith) (λ h. omega arith) (λ h. omega arith) h

pub place_frame : (used : List ℕ) (p : Place) → IsPlace used p → p.unit / 8 < length used
place_frame used p lies = frame_within p.order p.unit (length used) lies.known lies.within

-- the byte of a place's frame, and a unit's place in its frame
abbrev pub byte_at : List ℕ → ℕ → ℕ
byte_at used u = get_or used (u / 8) 0

-- a run of one state, in the byte of its frame
pub to_run : (used : List ℕ) (p : Place) (s : ℕ) → IsPlace used p → AllUnits used p s → run_is (byte_at used p.unit) p.order (p.unit % 8) s ≡ true
to_run used p s lies all =
    let u : ℕ = p.unit in
    let o : ℕ = p.order in
    and_from (eqb (u % 8 % 2 ^ o) 0) (all_below (2 ^ o) (λ i. eqb (bit_at (byte_at used u) (u % 8 + i)) s))
    (eq-eqb (u % 8 % 2 ^ o) 0 (fits_frame o u lies.known lies.aligned).aligned)
    (all_from (2 ^ o) (λ i. eqb (bit_at (byte_at used u) (u % 8 + i)) s) (λ i lt.
    let share = shares_frame o u i lies.known lies.aligned lt in
    let bit : bit_at (get_or used ((u + i) / 8) 0) ((u + i) % 8) ≡ s = all (u + i) (omega arith) (omega arith) in
    eq-eqb _ s (rw (share.frame, share.at) at bit)))

from_run_place : (used : List ℕ) (o u s : ℕ) → o ≤ 3 → u / 8 < length used → run_is (byte_at used u) o (u % 8) s ≡ true → IsPlace used (place_at o u)
from_run_place used o u s known within h =
    let parts = and_parts (eqb (u % 8 % 2 ^ o) 0) (all_below (2 ^ o) (λ i. eqb (bit_at (byte_at used u) (u % 8 + i)) s)) h in
    let aligned : u % 2 ^ o ≡ 0 = aligned_back o u known (eqb-true (u % 8 % 2 ^ o) 0 parts.0) in
    let room : u % 8 + 2 ^ o ≤ 8 = (fits_frame o u known aligned).room in
    record { known = known; aligned = aligned; within = omega arith }

from_run_units : (used : List ℕ) (o u s : ℕ) → o ≤ 3 → run_is (byte_at used u) o (u % 8) s ≡ true → AllUnits used (place_at o u) s
from_run_units used o u s known h =
    let parts = and_parts (eqb (u % 8 % 2 ^ o) 0) (all_below (2 ^ o) (λ i. eqb (bit_at (byte_at used u) (u % 8 + i)) s)) h in
    let aligned : u % 2 ^ o ≡ 0 = aligned_back o u known (eqb-true (u % 8 % 2 ^ o) 0 parts.0) in
    λ v lo hi.
    let i_lt : v - u < 2 ^ o = omega arith in
    let share = shares_frame o u (v - u) known aligned i_lt in
    let back : u + (v - u) ≡ v = omega arith in
    let bit : bit_at (byte_at used u) (u % 8 + (v - u)) ≡ s =
    eqb-true _ s (all_at (2 ^ o) (λ i. eqb (bit_at (byte_at used u) (u % 8 + i)) s) parts.1 (v - u) i_lt) in
    let at_sum : bit_at (get_or used ((u + (v - u)) / 8) 0) ((u + (v - u)) % 8) ≡ s = rw (share.frame, share.at) bit in
    subst (λ (w : ℕ). bit_at (get_or used (w / 8) 0) (w % 8) ≡ s) back at_sum

to_free : (used : List ℕ) (p : Place) → IsFreePlace used p → place_free (byte_at used p.unit) p.order (p.unit % 8) ≡ true
to_free used p free = to_run used p 0 free.lies free.free

from_free : (used : List ℕ) (o u : ℕ) → o ≤ 3 → u / 8 < length used → place_free (byte_at used u) o (u % 8) ≡ true → IsFreePlace used (place_at o u)
from_free used o u known within h = record {
  lies = from_run_place used o u 0 known within h;
  free = from_run_units used o u 0 known h;
}

-- whether the enclosing place is free, in the byte of the frame
abbrev pub wider_free : List ℕ → ℕ → ℕ → Bool
wider_free used o u = place_free (byte_at used u) (o + 1) (enclosing_unit o (u % 8))

pub to_wider : (used : List ℕ) (o u : ℕ) → IsFreePlace used (enclosing (place_at o u)) → wider_free used o u ≡ true
to_wider used o u wider =
    let more : o + 1 ≤ 3 = wider.lies.known in
    let lt : o < 3 = omega arith in
    let share = shares_enclosing o u lt in
    rw (share.frame, share.at) at (to_free used (enclosing (place_at o u)) wider)

pub from_wider : (used : List ℕ) (o u : ℕ) → o < 3 → u / 8 < length used → wider_free used o u ≡ true → IsFreePlace used (enclosing (place_at o u))
from_wider used o u lt within h =
    let share = shares_enclosing o u lt in
    let there : place_free (byte_at used (enclosing_unit o u)) (o + 1) (enclosing_unit o u % 8) ≡ true = rw (share.frame, share.at) h in
    let in_it : enclosing_unit o u / 8 < length used = subst (λ (f : ℕ). f < length used) (sym share.frame) within in
    from_free used (o + 1) (enclosing_unit o u) (omega arith) in_it there

-- a free block, in the byte of its frame
pub to_block : (used : List ℕ) (o u : ℕ) → IsFreeBlock used (place_at o u) → block_free (byte_at used u) o (u % 8) ≡ true
to_block used o u b =
    and_from (place_free (byte_at used u) o (u % 8)) (eqb o 3 || not (wider_free used o u))
    (to_free used (place_at o u) b.place_free)
    (elim (cases_eq o 3) [
      | inl e ↦ or_left (eqb o 3) (not (wider_free used o u)) (eq-eqb o 3 e)
      | inr ne ↦
          let known : o ≤ 3 = b.place_free.lies.known in
          let within : u / 8 < length used = place_frame used (place_at o u) b.place_free.lies in
          or_right (eqb o 3) (not (wider_free used o u))
          (not_from_false (wider_free used o u)
          (false_from_ne_true (wider_free used o u) (λ h. b.alone (from_wider used o u (omega arith) within h))))
    ])

pub from_block : (used : List ℕ) (o u : ℕ) → o ≤ 3 → u / 8 < length used → block_free (byte_at used u) o (u % 8) ≡ true → IsFreeBlock used (place_at o u)
from_block used o u known within h =
    let parts = and_parts (place_free (byte_at used u) o (u % 8)) (eqb o 3 || not (wider_free used o u)) h in
    record {
      place_free = from_free used o u known within parts.0;
      alone = λ wider.
          let more : o + 1 ≤ 3 = wider.lies.known in
          elim (or_cases (eqb o 3) (not (wider_free used o u)) parts.1) [
            | inl e ↦
                let e3 : o ≡ 3 = eqb-true o 3 e in
                absurd (omega arith)
            | inr e ↦ both_ways (wider_free used o u) (not-true _ e) (to_wider used o u wider)
          ];
    }
