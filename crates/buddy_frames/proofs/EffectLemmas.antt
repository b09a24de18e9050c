-- What a byte plus or minus a run does to the units.
use Rattle.std.proofs.Common.{◌≡◌, ◌<◌, ◌≤◌, ◌+◌, ◌-◌, ◌/◌, ◌%◌, ◌^◌, leb, ltb, ◌&&◌, cond, ℕ, false, List, length, get_or, set, refl, sym, subst, ◌∙◌, inl, inr, arith}
use Rattle.std.specs.Int.{bit_at}
use Rattle.std.proofs.lemmas.Bool.{cases_eq, cases_lt, and_parts, false_from_ne_true, ltb-true, leb-true, lt-ltb, le-ltb, le-leb, lt-leb}
use Rattle.std.proofs.lemmas.List.{get_or-set_same, get_or-set_other, length-set}
use Rattle.buddy_frames.specs.Units.{Place, run_bits, IsPlace, IsFreePlace, IsUsedPlace, SetsUnits, taken, given}
use Rattle.buddy_frames.proofs.TableLemmas.{inside, marks_byte, clears_byte}
use Rattle.buddy_frames.proofs.PlaceLemmas.{byte_at, shares_frame, place_frame, to_run}

leb_same : (a b c d : ℕ) → (a ≤ b → c ≤ d) → (c ≤ d → a ≤ b) → leb a b ≡ leb c d
leb_same a b c d there back =
    elim (cases_lt b a) [
      | inl l ↦
          let m : d < c = elim (cases_lt d c) [ inl x ↦ x | inr x ↦ let y : a ≤ b = back x in absurd (omega arith) ] in
          lt-leb a b l ∙ sym (lt-leb c d m)
      | inr l ↦ le-leb a b l ∙ sym (le-leb c d (there l))
    ]

ltb_same : (a b c d : ℕ) → (a < b → c < d) → (c < d → a < b) → ltb a b ≡ ltb c d
ltb_same a b c d there back =
    elim (cases_lt a b) [
      | inl l ↦ lt-ltb a b l ∙ sym (lt-ltb c d (there l))
      | inr l ↦
          let m : d ≤ c = elim (cases_lt c d) [ inl x ↦ let y : a < b = back x in absurd (omega arith) | inr x ↦ x ] in
          le-ltb a b l ∙ sym (le-ltb c d m)
    ]

-- a new byte that sets the bits of a place sets its units
set_units : (used : List ℕ) (p : Place) (s byte : ℕ) → IsPlace used p
    → ((i : ℕ) → i < 8 → bit_at byte i ≡ cond (inside p.order (p.unit % 8) i) s (bit_at (byte_at used p.unit) i))
    → SetsUnits used p s (set used (p.unit / 8) byte)
set_units used p s byte lies bits =
    let u : ℕ = p.unit in
    let o : ℕ = p.order in
    record {
      same = length-set used (u / 8) byte;
      units = λ v.
          elim (cases_eq (v / 8) (u / 8)) [
            | inl e ↦
                let within : u / 8 < length used = place_frame used p lies in
                let written : get_or (set used (u / 8) byte) (u / 8) 0 ≡ byte = get_or-set_same used (u / 8) byte 0 within in
                let lt : v % 8 < 8 = omega arith in
                let low : leb (u % 8) (v % 8) ≡ leb u v = leb_same _ _ _ _ (λ h. omega arith) (λ h. omega arith) in
                let high : ltb (v % 8) (u % 8 + 2 ^ o) ≡ ltb v (u + 2 ^ o) = ltb_same _ _ _ _ (λ h. omega arith) (λ h. omega arith) in
                let bit : bit_at byte (v % 8) ≡ cond (leb u v && ltb v (u + 2 ^ o)) s (bit_at (get_or used (u / 8) 0) (v % 8)) = rw (low, high) at (bits (v % 8) lt) in
                rw (e, written) bit
            | inr ne ↦
                let outside : (leb u v && ltb v (u + 2 ^ o)) ≡ false =
                false_from_ne_true (leb u v && ltb v (u + 2 ^ o)) (λ h.
                let parts = and_parts (leb u v) (ltb v (u + 2 ^ o)) h in
                let lo : u ≤ v = leb-true u v parts.0 in
                let hi : v < u + 2 ^ o = ltb-true v (u + 2 ^ o) parts.1 in
                let i_lt : v - u < 2 ^ o = omega arith in
                let share = shares_frame o u (v - u) lies.known lies.aligned i_lt in
                let back : u + (v - u) ≡ v = omega arith in
                let frame : v / 8 ≡ u / 8 = subst (λ (w : ℕ). w / 8 ≡ u / 8) back share.frame in
                ne frame) in
                rw (outside, get_or-set_other used (u / 8) (v / 8) byte 0 ne) refl
          ];
    }

-- what the code needs to know of a byte below 256 that is marked or cleared
pub record IsMarked (used : List ℕ) (p : Place) : Type 0 where
  pub fits : byte_at used p.unit + run_bits p.order (p.unit % 8) < 256
  pub units : SetsUnits used p 1 (taken used p)

pub marked : (used : List ℕ) (p : Place) → byte_at used p.unit < 256 → IsFreePlace used p → IsMarked used p
marked used p small free =
    let byte = marks_byte (byte_at used p.unit) p.order (p.unit % 8) small free.lies.known (omega arith) (to_run used p 0 free.lies free.free) in
    record { fits = byte.fits; units = set_units used p 1 _ free.lies byte.bits }

pub record IsCleared (used : List ℕ) (p : Place) : Type 0 where
  pub fits : run_bits p.order (p.unit % 8) ≤ byte_at used p.unit
  pub units : SetsUnits used p 0 (given used p)

pub cleared : (used : List ℕ) (p : Place) → byte_at used p.unit < 256 → IsUsedPlace used p → IsCleared used p
cleared used p small live =
    let byte = clears_byte (byte_at used p.unit) p.order (p.unit % 8) small live.lies.known (omega arith) (to_run used p 1 live.lies live.full) in
    record { fits = byte.fits; units = set_units used p 0 _ live.lies byte.bits }
