-- One page's block, before and after it is changed for another.
use Rattle.std.proofs.Common.{◌≡◌, ◌<◌, ◌≤◌, ◌+◌, ◌%◌, ◌^◌, ◌∙◌, ◌⊎◌, leb, ltb, eqb, ◌&&◌, ℕ, zero, suc, true, false, Some, None, Option, Ok, Err, Result, IfOk, IfSome, MatchResult, List, inl, inr, refl, sym, subst, arith}
use Rattle.std.specs.Int.{bit_at}
use Rattle.std.proofs.lemmas.Bool.{cases_Bool, cases_lt, and_from, and_parts, ltb-true, leb-true, lt-ltb, le-leb, cond-true, cond-false, eqb-true, eq-eqb}
use Rattle.std.proofs.lemmas.Nat.Bits.{bit_at-lt}
use Rattle.buddy_frames.specs.Units.{Place, place_at, past, in_use, IsUsedPlace, IsChoice, HasNone, SetsUnits, Takes, KeepsOthers, KeepsUsed, IsApart, StaysApart, taken, given, run_bits}
use Rattle.buddy_frames.specs.FrameByte.{all_below, run_is}
use Rattle.buddy_frames.proofs.TableLemmas.{all_at, all_from, clears_byte}
use Rattle.buddy_frames.proofs.PlaceLemmas.{byte_at, fits_frame, to_run}
use Rattle.buddy_frames.proofs.MoveLemmas.{taken-given}
use Rattle.page_store.specs.PageBlocks.{IsNewBlock, IsIn, moved}
use Rattle.page_store.specs.BlockChanges.{HasNoneBut, GetsBlock}

-- a unit in use after a place came into use
set_owned : (before : List ℕ) (place : Place) (after : List ℕ) (unit : ℕ) → SetsUnits before place 1 after → in_use after unit ≡ 1
    → IsIn unit place ⊎ (in_use before unit ≡ 1)
set_owned before place after unit sets busy =
    elim (cases_Bool (leb place.unit unit && ltb unit (past place))) [
      | inl e ↦
          let parts = and_parts (leb place.unit unit) (ltb unit (past place)) e in
          inl (leb-true place.unit unit parts.0, ltb-true unit (past place) parts.1)
      | inr e ↦ inr (sym (cond-false (leb place.unit unit && ltb unit (past place)) 1 (in_use before unit) e) ∙ sym (sets.units unit) ∙ busy)
    ]

-- a unit in use after a place was freed
cleared_owned : (before : List ℕ) (place : Place) (after : List ℕ) (unit : ℕ) → SetsUnits before place 0 after → in_use after unit ≡ 1
    → (in_use before unit ≡ 1) × ¬ IsIn unit place
cleared_owned before place after unit sets busy =
    elim (cases_Bool (leb place.unit unit && ltb unit (past place))) [
      | inl e ↦
          let free : in_use after unit ≡ 0 = sets.units unit ∙ cond-true (leb place.unit unit && ltb unit (past place)) 0 (in_use before unit) e in
          absurd (omega arith)
      | inr e ↦ (
        sym (cond-false (leb place.unit unit && ltb unit (past place)) 0 (in_use before unit) e) ∙ sym (sets.units unit) ∙ busy,
        λ inside.
            let both : (leb place.unit unit && ltb unit (past place)) ≡ true =
            and_from (leb place.unit unit) (ltb unit (past place)) (le-leb place.unit unit inside.0) (lt-ltb unit (past place) inside.1) in
            let none : false ≡ true = sym e ∙ both in
            cc,
      )
    ]

-- both, one after the other
moved_owned : (used mid used' : List ℕ) (old new : Place) (unit : ℕ) → SetsUnits used old 0 mid → SetsUnits mid new 1 used' → in_use used' unit ≡ 1
    → IsIn unit new ⊎ ((in_use used unit ≡ 1) × ¬ IsIn unit old)
moved_owned used mid used' old new unit frees takes busy =
    elim (set_owned mid new used' unit takes busy) [
      | inl inside ↦ inl inside
      | inr before ↦ inr (cleared_owned used old mid unit frees before)
    ]

-- a page that had no block takes one
pub taken_gets : (used : List ℕ) (order : ℕ) (new : Place) (used' : List ℕ) → Takes used order new used' → IsUsedPlace used' new → KeepsUsed used used' → IsApart used new
    → GetsBlock used None order new used'
taken_gets used order new used' takes live keeps apart =
    let order_is : new.order ≡ order = takes.choice.order_is in
    record {
      order_is = order_is;
      changes = record {
        new_block = subst (λ (k : ℕ). IsChoice used k new) (sym order_is) takes.choice;
        used_is = takes.after_is;
        same = takes.units.same;
        live = live;
        keeps = λ other busy free. keeps other busy;
        apart = λ other busy free. apart other busy;
        owned = λ unit busy. elim (set_owned used new used' unit takes.units busy) [
          | inl inside ↦ inl inside
          | inr before ↦ inr (before, λ none. none)
        ];
      };
    }

-- a block gives up the units behind its first ones
pub trimmed_gets : (used : List ℕ) (old : Place) (order : ℕ) (new : Place) (used' : List ℕ) → order ≤ old.order → new ≡ place_at order old.unit
    → SetsUnits used old 0 (given used old) → used' ≡ taken (given used old) new → SetsUnits (given used old) new 1 used'
    → IsUsedPlace used' new → KeepsOthers used old used' → StaysApart used old new → GetsBlock used (Some old) order new used'
trimmed_gets used old order new used' le is frees used_is takes live keeps apart =
    let order_is : new.order ≡ order = cc in
    let unit_is : new.unit ≡ old.unit = cc in
    record {
      order_is = order_is;
      changes = record {
        new_block = (λ room. unit_is, λ more. absurd (omega arith));
        used_is = used_is;
        same = takes.same ∙ frees.same;
        live = live;
        keeps = keeps;
        apart = apart;
        owned = λ unit busy. moved_owned used (given used old) used' old new unit frees takes busy;
      };
    }

-- a block is changed for a larger one
pub grown_gets : (used : List ℕ) (old : Place) (order : ℕ) (new : Place) (used' : List ℕ) → old.order < order → SetsUnits used old 0 (given used old)
    → Takes (given used old) order new used' → IsUsedPlace used' new → KeepsOthers used old used' → StaysApart used old new
    → GetsBlock used (Some old) order new used'
grown_gets used old order new used' lt frees takes live keeps apart =
    let order_is : new.order ≡ order = takes.choice.order_is in
    record {
      order_is = order_is;
      changes = record {
        new_block = (λ room. absurd (omega arith), λ more. subst (λ (k : ℕ). IsChoice (given used old) k new) (sym order_is) takes.choice);
        used_is = takes.after_is;
        same = takes.units.same ∙ frees.same;
        live = live;
        keeps = keeps;
        apart = apart;
        owned = λ unit busy. moved_owned used (given used old) used' old new unit frees takes.units busy;
      };
    }

-- the same of an answer
pub grown_or_same : (used : List ℕ) (old : Place) (order : ℕ) (answer : Result Place Place) (used' : List ℕ) → old.order < order → SetsUnits used old 0 (given used old)
    → IfOk answer (λ new. Takes (given used old) order new used') → MatchResult answer (IsUsedPlace used') (IsUsedPlace used') → KeepsOthers used old used'
    → IfOk answer (StaysApart used old) → IfOk answer (λ new. GetsBlock used (Some old) order new used')
grown_or_same used old order (Ok new) used' lt frees takes live keeps apart = grown_gets used old order new used' lt frees takes live keeps apart
grown_or_same used old order (Err back) used' lt frees takes live keeps apart = tt

-- a unit is in use or free
unit_state : (used : List ℕ) (unit : ℕ) → (in_use used unit ≡ 0) ⊎ (in_use used unit ≡ 1)
unit_state used unit =
    let small : in_use used unit < 2 = bit_at-lt _ (unit % 8) in
    elim (cases_lt (in_use used unit) 1) [
      | inl none ↦ inl (omega arith)
      | inr one ↦ inr (omega arith)
    ]

-- where the frames have no place, there is none for a page without a block
pub none_taken : (used : List ℕ) (order : ℕ) → HasNone used order → HasNoneBut used None order
none_taken used order none unit free = none unit (record {
  lies = free.lies;
  free = λ v low high. elim (unit_state used v) [
    | inl idle ↦ idle
    | inr one ↦ absurd (free.free v (low, high) one)
  ];
})

-- nor for a page with one, where they have none with its units freed
pub none_grown : (used : List ℕ) (old : Place) (order : ℕ) → SetsUnits used old 0 (given used old) → HasNone (given used old) order → HasNoneBut used (Some old) order
none_grown used old order frees none unit free = none unit (record {
  lies = record { known = free.lies.known; aligned = free.lies.aligned; within = rw frees.same free.lies.within };
  free = λ v low high. elim (unit_state (given used old) v) [
    | inl idle ↦ idle
    | inr one ↦
        let before = cleared_owned used old (given used old) v frees one in
        absurd (before.1 (free.free v (low, high) before.0))
  ];
})

-- the low eight bits of a number
low_bit : (b i : ℕ) → i < 8 → bit_at (b % 256) i ≡ bit_at b i
low_bit b zero lt = omega arith
low_bit b (suc zero) lt = omega arith
low_bit b (suc (suc zero)) lt = omega arith
low_bit b (suc (suc (suc zero))) lt = omega arith
low_bit b (suc (suc (suc (suc zero)))) lt = omega arith
low_bit b (suc (suc (suc (suc (suc zero))))) lt = omega arith
low_bit b (suc (suc (suc (suc (suc (suc zero)))))) lt = omega arith
low_bit b (suc (suc (suc (suc (suc (suc (suc zero))))))) lt = omega arith
low_bit b (suc (suc (suc (suc (suc (suc (suc (suc i)))))))) lt = absurd (omega arith)

low_run : (b o at : ℕ) → at + 2 ^ o ≤ 8 → run_is b o at 1 ≡ true → run_is (b % 256) o at 1 ≡ true
low_run b o at room h =
    let parts = and_parts (eqb (at % 2 ^ o) 0) (all_below (2 ^ o) (λ i. eqb (bit_at b (at + i)) 1)) h in
    and_from (eqb (at % 2 ^ o) 0) (all_below (2 ^ o) (λ i. eqb (bit_at (b % 256) (at + i)) 1)) parts.0
    (all_from (2 ^ o) (λ i. eqb (bit_at (b % 256) (at + i)) 1) (λ i lt.
    eq-eqb (bit_at (b % 256) (at + i)) 1
    (low_bit b (at + i) (omega arith) ∙ eqb-true (bit_at b (at + i)) 1 (all_at (2 ^ o) (λ i. eqb (bit_at b (at + i)) 1) parts.1 i lt))))

-- a used place that is given and taken again
given_again : (used : List ℕ) (place : Place) → IsUsedPlace used place → taken (given used place) place ≡ used
given_again used place live =
    let byte = byte_at used place.unit in
    let known = live.lies.known in
    let room = (fits_frame place.order place.unit known live.lies.aligned).room in
    let run = low_run byte place.order (place.unit % 8) room (to_run used place 1 live.lies live.full) in
    let fits : run_bits place.order (place.unit % 8) ≤ byte % 256 = (clears_byte (byte % 256) place.order (place.unit % 8) (omega arith) known (omega arith) run).fits in
    taken-given used place (omega arith) live.lies

-- a page that keeps its block
pub kept_block : (used : List ℕ) (held : Option Place) → IsNewBlock used held held
kept_block used None = tt
kept_block used (Some block) = (λ room. refl, λ more. absurd (omega arith))

pub kept_units : (used : List ℕ) (held : Option Place) → IfSome held (IsUsedPlace used) → used ≡ moved used held held
kept_units used None live = refl
kept_units used (Some block) live = sym (given_again used block live)
