-- Blocks of units as blocks of bytes.
use Rattle.std.proofs.Common.{◌≡◌, ◌≢◌, ◌<◌, ◌≤◌, ◌+◌, ◌*◌, ◌^◌, ◌∙◌, ℕ, Option, Some, None, List, IfSome, length, option_map, slice_get, refl, sym, ap, subst, inl, inr, arith}
use Rattle.std.proofs.lemmas.Option.{none-some, same_Some, slice_get-get_or}
use Rattle.buddy_frames.specs.Units.{Place, past, IsUsedPlace, AreApart}
use Rattle.buddy_frames.proofs.PlaceLemmas.{four, some_units}
use Rattle.line_codec.specs.Layout.{cap}
use Rattle.page_slots.specs.declared.desc.Desc.{Desc}
use Rattle.page_slots.specs.declared.desc.Desc.TheVariants as desc
use Rattle.page_slots.specs.declared.desc.Shape.TheVariants.{Zero}
use Rattle.page_slots.specs.Descs.{block_of, shape_of, size_of}
use Rattle.page_store.specs.PageBlocks.{AreSound, block_at}
use Rattle.page_store.specs.Rooms.{held_of, helds, start_of, unit_of, ShareNone, held_at, IsShaped, IsWithin}
use Rattle.page_store.specs.Store.{desc_at}
use Rattle.page_store.proofs.BlockLemmas.{at_some, block_at-get, block_live}
use Rattle.page_store.proofs.RoomLemmas.{helds_at}

-- the bytes of the block of a page in slots are those of its units
cap_units : (order : ℕ) → order ≤ 2 → 64 * cap order ≡ 512 * 2 ^ order
cap_units order le = four (λ k. k ≤ 2 → 64 * cap k ≡ 512 * 2 ^ k) order (omega arith) (λ l. refl) (λ l. refl) (λ l. refl) (λ l. absurd (omega arith)) le

-- where the bytes of such a block begin and end
slots_end : (block b : Place) → Some block ≡ Some b → block.order ≤ 2 → (512 * block.unit ≡ 512 * b.unit) × (512 * block.unit + 64 * cap block.order ≡ 512 * past b)
slots_end block b is small =
    let size = cap_units block.order small in
    subst (λ (p : Place). (512 * block.unit ≡ 512 * p.unit) × (512 * block.unit + 64 * cap block.order ≡ 512 * past p)) (same_Some block b is) (refl, omega arith)

-- and those of a page's block
pub ends_of : (d : Desc) (b : Place) → block_of d ≡ Some b → IsShaped d → (start_of (held_of d) ≡ 512 * b.unit) × (start_of (held_of d) + size_of (held_of d).shape ≡ 512 * past b)
ends_of desc.Zero b is shaped = absurd (none-some b is)
ends_of (desc.Raw block) b is shaped =
    let same : block ≡ b = same_Some block b is in
    let size : 2 ^ block.order ≡ 8 = ap (λ (k : ℕ). 2 ^ k) shaped in
    subst (λ (p : Place). (512 * block.unit ≡ 512 * p.unit) × (512 * block.unit + 4096 ≡ 512 * past p)) same (refl, omega arith)
ends_of (desc.Packed block target) b is shaped = slots_end block b is shaped
ends_of (desc.Mid block small large at) b is shaped = slots_end block b is shaped

-- a page without a block has no bytes
no_bytes : (d : Desc) → block_of d ≡ None → start_of (held_of d) + size_of (held_of d).shape ≡ 0
no_bytes desc.Zero is = refl
no_bytes (desc.Raw block) is = absurd (none-some block (sym is))
no_bytes (desc.Packed block target) is = absurd (none-some block (sym is))
no_bytes (desc.Mid block small large at) is = absurd (none-some block (sym is))

-- a block lies in the memory
pub block_within : (d : Desc) (used memory : List ℕ) → IsShaped d → IfSome (block_of d) (IsUsedPlace used) → length memory ≡ 4096 * length used → IsWithin memory (held_of d)
block_within d used memory shaped live long = go (block_of d) refl
  where
    go : (o : Option Place) → block_of d ≡ o → IsWithin memory (held_of d)
    go None is = omega (arith, no_bytes d is)
    go (Some b) is =
        let place = at_some (IsUsedPlace used) (block_of d) b is live in
        let ends = ends_of d b is shaped in
        omega (arith, ends.1, place.lies.within)

-- two blocks share no byte where they share no unit
pub blocks_share_none : (d e : Desc) → IsShaped d → IsShaped e → ((b c : Place) → block_of d ≡ Some b → block_of e ≡ Some c → AreApart b c) → ShareNone (held_of d) (held_of e)
blocks_share_none d e shaped others apart = go (block_of d) (block_of e) refl refl
  where
    go : (o p : Option Place) → block_of d ≡ o → block_of e ≡ p → ShareNone (held_of d) (held_of e)
    go None p is are = inl (omega (arith, no_bytes d is))
    go (Some b) None is are = inr (omega (arith, no_bytes e are))
    go (Some b) (Some c) is are =
        let first = ends_of d b is shaped in
        let second = ends_of e c are others in
        elim (apart b c is are) [ inl l ↦ inl (omega (arith, first, second)) | inr r ↦ inr (omega (arith, first, second)) ]

-- a descriptor is what stands in its place
pub desc_there : (ds : List Desc) (page : ℕ) → page < length ds → slice_get ds page ≡ Some (desc_at ds page)
desc_there ds page within = slice_get-get_or ds page desc.Zero within

pub block_there : (ds : List Desc) (page : ℕ) → page < length ds → block_at ds page ≡ block_of (desc_at ds page)
block_there ds page within = block_at-get ds page (desc_at ds page) (desc_there ds page within)

-- where the block of a page begins
pub base_none : (d : Desc) → shape_of d ≡ Zero → option_map (λ (block : Place). 512 * block.unit) (block_of d) ≡ None
base_none desc.Zero is = refl
base_none (desc.Raw block) is = absurd (cc)
base_none (desc.Packed block target) is = absurd (cc)
base_none (desc.Mid block small large at) is = absurd (cc)

pub base_some : (d : Desc) → shape_of d ≢ Zero → option_map (λ (block : Place). 512 * block.unit) (block_of d) ≡ Some (512 * unit_of d)
base_some desc.Zero some = absurd (some refl)
base_some (desc.Raw block) some = refl
base_some (desc.Packed block target) some = refl
base_some (desc.Mid block small large at) some = refl

-- blocks of few frames begin below 2 ^ 28
pub low_unit : (ds : List Desc) (used : List ℕ) (page : ℕ) → AreSound ds used → page < length ds → length used ≤ 65536 → shape_of (desc_at ds page) ≢ Zero
    → 512 * unit_of (desc_at ds page) < 268435456
low_unit ds used page sound within few some = go (block_of (desc_at ds page)) refl
  where
    d : Desc
    d = desc_at ds page

    go : (o : Option Place) → block_of d ≡ o → 512 * unit_of d < 268435456
    go None is = absurd (none-some (512 * unit_of d) (sym (ap (option_map (λ (block : Place). 512 * block.unit)) is) ∙ base_some d some))
    go (Some block) is =
        let lies = (sound.live page block (block_there ds page within ∙ is)).lies in
        let unit : 512 * block.unit ≡ 512 * unit_of d = same_Some _ _ (sym (ap (option_map (λ (b : Place). 512 * b.unit)) is) ∙ base_some d some) in
        omega (arith, unit, lies.within, some_units block.order lies.known)

-- the blocks of a sound store lie in its memory, and share no byte
module _ (ds : List Desc) (used memory : List ℕ) (sound : AreSound ds used) (shaped : (page : ℕ) → page < length ds → IsShaped (desc_at ds page))
    (long : length memory ≡ 4096 * length used) where
  pub page_within : (page : ℕ) → page < length ds → IsWithin memory (held_at (helds ds) page)
  page_within page within =
      subst (IsWithin memory) (sym (helds_at ds page within))
      (block_within (desc_at ds page) used memory (shaped page within) (subst (λ o. IfSome o (IsUsedPlace used)) (block_there ds page within) (block_live ds used page sound)) long)

  pub pages_share_none : (page other : ℕ) → page < length ds → other < length ds → page ≢ other → ShareNone (held_at (helds ds) page) (held_at (helds ds) other)
  pages_share_none page other within inside ne =
      subst (λ h. ShareNone h (held_at (helds ds) other)) (sym (helds_at ds page within)) (subst (ShareNone (held_of (desc_at ds page))) (sym (helds_at ds other inside))
      (blocks_share_none (desc_at ds page) (desc_at ds other) (shaped page within) (shaped other inside)
      (λ b c is are. sound.apart page other b c ne (block_there ds page within ∙ is) (block_there ds other inside ∙ are))))
