-- The blocks of all pages, before and after that of one page is changed for another.
use Rattle.std.proofs.Common.{◌≡◌, ◌≢◌, ◌<◌, ◌∙◌, ℕ, zero, suc, Some, None, Option, IfSome, IsSomeAnd, List, [], ◌∷◌, length, get_or, set, replicate, slice_get, inl, inr, refl, sym, ap, subst, arith}
use Rattle.std.proofs.lemmas.Bool.{cases_eq}
use Rattle.std.proofs.lemmas.List.{set-set, set-get_or}
use Rattle.std.proofs.lemmas.Option.{slice_get_read, get_or_from_slice_get, none-some, same_Some}
use Rattle.buddy_frames.specs.Units.{Place, place_at, in_use, IsUsedPlace, AreApart}
use Rattle.buddy_frames.proofs.MoveLemmas.{AreApart-swap}
use Rattle.page_plan.specs.declared.least.PagePlan.{PagePlan}
use Rattle.page_plan.specs.declared.least.PagePlan.TheVariants as plan
use Rattle.page_slots.specs.declared.desc.Desc.{Desc}
use Rattle.page_slots.specs.declared.desc.Desc.TheVariants.{Zero, Packed, Mid, Raw}
use Rattle.page_plan.specs.Sizes.{order_of}
use Rattle.page_slots.specs.declared.desc.Shape.{Shape}
use Rattle.page_slots.specs.Descs.{block_of, shape_of}
use Rattle.page_store.specs.PageBlocks.{block_at, IsAtPlan, IsNewBlock, moved, Outgrows, ComesToPlan, HasRoom, LacksRoom, IsIn, AreSound, IsFreeFor}
use Rattle.page_store.specs.Turns.{ComesToShape}
use Rattle.page_store.proofs.ChangeLemmas.{kept_block, kept_units}
use Rattle.page_store.specs.BlockChanges.{IsApartFrom, HasNoneBut, ChangesBlock}

-- a fact of the value that there is
pub at_some : {A : Type 0} (P : A → Type 0) (o : Option A) (x : A) → o ≡ Some x → IfSome o P → P x
at_some P o x e h = subst (λ o. IfSome o P) e h

pub some_at : {A : Type 0} (P : A → Type 0) (o : Option A) (x : A) → o ≡ Some x → P x → IsSomeAnd o P
some_at P o x e h = subst (λ o. IsSomeAnd o P) (sym e) h

from_some : {A : Type 0} (P : A → Type 0) (o : Option A) → IsSomeAnd o P → (x : A) × ((o ≡ Some x) × P x)
from_some P (Some x) h = (x, (refl, h))
from_some P None h = absurd h

-- the block of a page that was changed, and of any other
pub block_at-same : (ds : List Desc) (page : ℕ) (d : Desc) → page < length ds → block_at (set ds page d) page ≡ block_of d
block_at-same [] page d lt = absurd (omega arith)
block_at-same (x ∷ ds) zero d lt = refl
block_at-same (x ∷ ds) (suc page) d lt = block_at-same ds page d (omega arith)

pub block_at-other : (ds : List Desc) (page other : ℕ) (d : Desc) → other ≢ page → block_at (set ds page d) other ≡ block_at ds other
block_at-other [] page other d ne = refl
block_at-other (x ∷ ds) zero zero d ne = absurd (ne refl)
block_at-other (x ∷ ds) zero (suc other) d ne = refl
block_at-other (x ∷ ds) (suc page) zero d ne = refl
block_at-other (x ∷ ds) (suc page) (suc other) d ne = block_at-other ds page other d (λ e. ne (ap suc e))

-- the block of a page, by how it is kept
pub block_at-get : (ds : List Desc) (page : ℕ) (d : Desc) → slice_get ds page ≡ Some d → block_at ds page ≡ block_of d
block_at-get [] page d e = cc
block_at-get (x ∷ ds) zero d e = let same : x ≡ d = cc in ap block_of same
block_at-get (x ∷ ds) (suc page) d e = block_at-get ds page d e

-- pages of zeros have no blocks
pub block_at-zeros : (n page : ℕ) → block_at (replicate n Zero) page ≡ None
block_at-zeros zero page = refl
block_at-zeros (suc n) zero = refl
block_at-zeros (suc n) (suc page) = block_at-zeros n page

-- two blocks share no unit where one unit is in both
both_in : (p q : Place) (unit : ℕ) → AreApart p q → IsIn unit p → IsIn unit q → ⊥
both_in p q unit apart in_p in_q = elim apart [ inl before ↦ omega arith | inr after ↦ omega arith ]

module _ (ds : List Desc) (used : List ℕ) (page : ℕ) (sound : AreSound ds used) where
  -- a block of another page is apart from the page's
  others_apart : (held : Option Place) (other : ℕ) (block : Place) → block_at ds page ≡ held → other ≢ page → block_at ds other ≡ Some block → IsApartFrom held block
  others_apart None other block is ne e = tt
  others_apart (Some old) other block is ne e = sound.apart page other old block (λ same. ne (sym same)) is e

  -- where no place is free but for the page's units, none is free for the page
  pub no_room : (order : ℕ) → HasNoneBut used (block_at ds page) order → (unit : ℕ) → IsFreeFor ds used page (place_at order unit) → ⊥
  no_room order none unit free = none unit (record {
    lies = free.lies;
    free = λ v inside busy.
        let owner = sound.owned v busy in
        let block = owner.1.0 in
        let there = owner.1.1.0 in
        let holds = owner.1.1.1 in
        elim (cases_eq owner.0 page) [
          | inl same ↦ some_at (IsIn v) (block_at ds page) block (ap (block_at ds) (sym same) ∙ there) holds
          | inr ne ↦ absurd (both_in block (place_at order unit) v (free.free owner.0 block ne there) holds inside)
        ];
  })

  module _ (d : Desc) (used' : List ℕ) (within : page < length ds) (changes : ChangesBlock used (block_at ds page) (block_of d) used') where
    here : (block : Place) → block_at (set ds page d) page ≡ Some block → block_of d ≡ Some block
    here block e = sym (block_at-same ds page d within) ∙ e

    there : (other : ℕ) (block : Place) → other ≢ page → block_at (set ds page d) other ≡ Some block → block_at ds other ≡ Some block
    there other block ne e = sym (block_at-other ds page other d ne) ∙ e

    new_apart : (other : ℕ) (block others : Place) → other ≢ page → block_at (set ds page d) page ≡ Some block → block_at (set ds page d) other ≡ Some others → AreApart block others
    new_apart other block others ne e f =
        let busy = sound.live other others (there other others ne f) in
        let free = others_apart (block_at ds page) other others refl ne (there other others ne f) in
        at_some (λ block. AreApart block others) (block_of d) block (here block e) (changes.apart others busy free)

    -- blocks stay sound where one page's is changed
    pub changed_sound : AreSound (set ds page d) used'
    changed_sound = record {
      live = λ p block e. elim (cases_eq p page) [
        | inl same ↦ at_some (IsUsedPlace used') (block_of d) block (here block (ap (block_at (set ds page d)) (sym same) ∙ e)) changes.live
        | inr ne ↦ changes.keeps block (sound.live p block (there p block ne e)) (others_apart (block_at ds page) p block refl ne (there p block ne e))
      ];
      apart = λ p q block others ne e f. elim (cases_eq p page) [
        | inl same ↦
            let other : q ≢ page = λ is. ne (same ∙ sym is) in
            new_apart q block others other (ap (block_at (set ds page d)) (sym same) ∙ e) f
        | inr p_ne ↦ elim (cases_eq q page) [
          | inl same ↦ AreApart-swap others block (new_apart p others block p_ne (ap (block_at (set ds page d)) (sym same) ∙ f) e)
          | inr q_ne ↦ sound.apart p q block others ne (there p block p_ne e) (there q others q_ne f)
        ]
      ];
      owned = λ unit busy. elim (changes.owned unit busy) [
        | inl new ↦
            let owner = from_some (IsIn unit) (block_of d) new in
            (page, (owner.0, (block_at-same ds page d within ∙ owner.1.0, owner.1.1)))
        | inr old ↦
            let owner = sound.owned unit old.0 in
            elim (cases_eq owner.0 page) [
              | inl same ↦ absurd (old.1 (some_at (IsIn unit) (block_at ds page) owner.1.0 (ap (block_at ds) (sym same) ∙ owner.1.1.0) owner.1.1.1))
              | inr ne ↦ (owner.0, (owner.1.0, (block_at-other ds page owner.0 d ne ∙ owner.1.1.0, owner.1.1.1)))
            ]
      ];
    }

-- a page at its plan has a block of the plan's order
order_at : (p : PagePlan) (d : Desc) (order : ℕ) → IsAtPlan p d → order_of p ≡ Some order → (unit : ℕ) × (block_of d ≡ Some (place_at order unit))
order_at plan.Zero d order at e = absurd (none-some order e)
order_at (plan.Packed k target exceptions) Zero order at e = absurd at
order_at (plan.Packed k target exceptions) (Packed block t) order at e = (block.unit, ap (λ (o : ℕ). Some (place_at o block.unit)) (at.0 ∙ same_Some k order e))
order_at (plan.Packed k target exceptions) (Mid block small large i) order at e = absurd at
order_at (plan.Packed k target exceptions) (Raw block) order at e = absurd at
order_at plan.Raw Zero order at e = absurd at
order_at plan.Raw (Packed block t) order at e = absurd at
order_at plan.Raw (Mid block small large i) order at e = absurd at
order_at plan.Raw (Raw block) order at e = (block.unit, ap (λ (o : ℕ). Some (place_at o block.unit)) (at ∙ same_Some 3 order e))

-- a page that came to its plan had room for it: its new block lies in no other page's
pub had_room : (ds : List Desc) (used : List ℕ) (page : ℕ) (p : PagePlan) (ds' : List Desc) (used' : List ℕ) → page < length ds → length used' ≡ length used
    → ComesToPlan ds used page p ds' used' → AreSound ds' used' → HasRoom ds used page p
had_room ds used page p ds' used' within frames comes sound order e =
    let new = order_at p comes.desc order comes.at_plan e in
    let place = place_at order new.0 in
    let own : block_at ds' page ≡ Some place = rw comes.descriptors_are (block_at-same ds page comes.desc within ∙ new.1) in
    let lies = (sound.live page place own).lies in (
      new.0,
      record {
        lies = record { known = lies.known; aligned = lies.aligned; within = rw (← frames) lies.within };
        free = λ other block ne f.
            let there : block_at ds' other ≡ Some block = rw comes.descriptors_are (block_at-other ds page other comes.desc ne ∙ f) in
            sound.apart other page block place ne there own;
      },
    )

-- a page that is taken out of the list, as it was kept
pub record IsTaken (ds : List Desc) (page : ℕ) (held : Desc) : Type 0 where
  pub within : page < length ds
  pub there : slice_get ds page ≡ Some held

pub taken_at : (ds : List Desc) (page : ℕ) (x held : Desc) → page < length ds → x ≡ get_or ds page x → held ≡ x → IsTaken ds page held
taken_at ds page x held within read same = record { within = within; there = slice_get_read ds (length ds) page x refl within read ∙ ap Some (sym same) }

-- the block of a page is in use
live_at : (ds : List Desc) (used : List ℕ) (page : ℕ) (o : Option Place) → AreSound ds used → block_at ds page ≡ o → IfSome o (IsUsedPlace used)
live_at ds used page None sound e = tt
live_at ds used page (Some block) sound e = sound.live page block e

pub block_live : (ds : List Desc) (used : List ℕ) (page : ℕ) → AreSound ds used → IfSome (block_at ds page) (IsUsedPlace used)
block_live ds used page sound = live_at ds used page (block_at ds page) sound refl

module _ (ds : List Desc) (used : List ℕ) (page : ℕ) (held : Desc) (sound : AreSound ds used) (taken : IsTaken ds page held) where
  block_is : block_at ds page ≡ block_of held
  block_is = block_at-get ds page held taken.there

  -- its block is in use
  pub taken_live : IfSome (block_of held) (IsUsedPlace used)
  taken_live = live_at ds used page (block_of held) sound block_is

  -- it comes to its plan
  pub taken_comes : (x desc : Desc) (plan : PagePlan) (used' : List ℕ) → IsAtPlan plan desc → ChangesBlock used (block_of held) (block_of desc) used'
      → ComesToPlan ds used page plan (set (set ds page x) page desc) used'
  taken_comes x desc plan used' at_plan changes =
      record {
        desc = desc;
        at_plan = at_plan;
        new_block = subst (λ o. IsNewBlock used o (block_of desc)) (sym block_is) changes.new_block;
        descriptors_are = set-set ds page x desc;
        used_is = changes.used_is ∙ ap (λ o. moved used o (block_of desc)) (sym block_is);
      }

  -- or to another shape
  pub taken_reshaped : (x desc : Desc) (shape : Shape) (used' : List ℕ) → shape_of desc ≡ shape → ChangesBlock used (block_of held) (block_of desc) used'
      → ComesToShape ds used page shape (set (set ds page x) page desc) used'
  taken_reshaped x desc shape used' shape_is changes =
      record {
        desc = desc;
        shape_is = shape_is;
        new_block = subst (λ o. IsNewBlock used o (block_of desc)) (sym block_is) changes.new_block;
        descriptors_are = set-set ds page x desc;
        used_is = changes.used_is ∙ ap (λ o. moved used o (block_of desc)) (sym block_is);
      }

  -- and the blocks stay sound
  pub taken_sound : (x desc : Desc) (used' : List ℕ) → ChangesBlock used (block_of held) (block_of desc) used' → AreSound (set (set ds page x) page desc) used'
  taken_sound x desc used' changes =
      rw (set-set ds page x desc) (changed_sound ds used page sound desc used' taken.within (subst (λ o. ChangesBlock used o (block_of desc) used') (sym block_is) changes))

  -- or it goes back
  pub put_back : (x back : Desc) → back ≡ held → set (set ds page x) page back ≡ ds
  put_back x back same =
      set-set ds page x back ∙ ap (set ds page) (same ∙ sym (get_or_from_slice_get ds page held held taken.there)) ∙ set-get_or ds page held

  -- and there was no room for it
  pub taken_lacks : (plan : PagePlan) (order : ℕ) → order_of plan ≡ Some order → HasNoneBut used (block_of held) order → Outgrows (block_of held) order
      → LacksRoom ds used page plan order
  taken_lacks plan order order_is none outgrown =
      record {
        order_is = order_is;
        none = no_room ds used page sound order (subst (λ o. HasNoneBut used o order) (sym block_is) none);
        outgrown = subst (λ o. Outgrows o order) (sym block_is) outgrown;
      }

-- at the start there are no blocks
pub fresh_sound : (pages : ℕ) (used : List ℕ) → ((unit : ℕ) → in_use used unit ≡ 0) → AreSound (replicate pages Zero) used
fresh_sound pages used free = record {
  live = λ page block e. absurd (none-some block (sym (block_at-zeros pages page) ∙ e));
  apart = λ page other block others ne e f. absurd (none-some block (sym (block_at-zeros pages page) ∙ e));
  owned = λ unit busy. let none : in_use used unit ≡ 0 = free unit in absurd (omega arith);
}

-- a page that is at its plan comes to it as it is
pub stays_at : (ds : List Desc) (used : List ℕ) (page : ℕ) (desc : Desc) (p : PagePlan) → AreSound ds used → slice_get ds page ≡ Some desc → IsAtPlan p desc → ComesToPlan ds used page p ds used
stays_at ds used page desc p sound there at =
    let block_is : block_at ds page ≡ block_of desc = block_at-get ds page desc there in
    record {
      desc = desc;
      at_plan = at;
      new_block = subst (λ o. IsNewBlock used (block_at ds page) o) block_is (kept_block used (block_at ds page));
      descriptors_are = sym (ap (set ds page) (sym (get_or_from_slice_get ds page desc desc there)) ∙ set-get_or ds page desc);
      used_is = kept_units used (block_at ds page) (block_live ds used page sound) ∙ ap (moved used (block_at ds page)) block_is;
    }
