-- A crowded store is tight, and tight stores have fewer frames than pages.
use Rattle.std.proofs.Common.{◌≡◌, ◌≢◌, ◌<◌, ◌≤◌, ◌+◌, ◌-◌, ◌*◌, ◌/◌, ◌%◌, ◌^◌, ◌∙◌, leb, ltb, ℕ, zero, suc, true, false, Option, Some, None, List, [], ◌∷◌, IfSome, length, set, map, slice_get, refl, sym, ap, subst, inl, inr, arith}
use Rattle.std.specs.List.{sum_by}
use Rattle.std.proofs.lemmas.Bool.{cases_eq, cases_lt, and_from, le-leb, lt-ltb, both_ways, or_left, or_right}
use Rattle.std.proofs.lemmas.List.{length-set}
use Rattle.std.proofs.lemmas.List.Sums.{sum_by-cons}
use Rattle.std.proofs.lemmas.Option.{slice_get_within, none-some, same_Some}
use Rattle.std.proofs.Math.Nat.{mul-le-mul_left}
use Rattle.buddy_frames.specs.Units.{Place, place_at, past, in_use, IsPlace, IsFreeBlock, AreApart, IsCount}
use Rattle.hier_types.specs.declared.faults.NoSpace.{NoSpace}
use Rattle.buddy_frames.proofs.PlaceLemmas.{four, some_units}
use Rattle.hier_types.specs.declared.settings.Codec.{Codec}
use Rattle.page_plan.specs.declared.least.PagePlan.{PagePlan}
use Rattle.page_plan.specs.declared.least.PagePlan.TheVariants as plan
use Rattle.page_plan.specs.PagePlan.{IsPlan, plan_of}
use Rattle.page_plan.proofs.PlanLemmas.{IsPlan-plan_of}
use Rattle.page_slots.specs.declared.desc.Desc.{Desc}
use Rattle.page_slots.specs.declared.desc.Desc.TheVariants.{Zero, Packed, Mid, Raw}
use Rattle.page_plan.specs.Pages.{page_of, plans_of}
use Rattle.page_plan.specs.Sizes.{order_of}
use Rattle.page_slots.specs.Descs.{block_of}
use Rattle.page_store.specs.PageBlocks.{block_at, AreSound, IsAtPlan, IsFreeFor, IsIn}
use Rattle.page_store.specs.Store.{Store, IsSound, Sizing, sizing_of}
use Rattle.page_store.specs.Crowds.{Crowded, Tight, share, share_of_order}
use Rattle.page_store.proofs.BlockLemmas.{block_at-same, block_at-other}
use Rattle.page_store.proofs.ListLemmas.{get-set_same, get-set_other, sum_by-but_one}
use Rattle.page_plan.proofs.PageLemmas.{length-plans_of, plans_of-get}
use Rattle.page_store.proofs.CountLemmas.{holds, any_holds, weight, AreRuns, all_met}

-- a block at its plan weighs the plan's share
weight_share : (k : ℕ) (p : PagePlan) (desc : Desc) → IsAtPlan p desc → weight k (block_of desc) ≡ share k p
weight_share k plan.Zero Zero at = refl
weight_share k plan.Zero (Packed block target) at = absurd at
weight_share k plan.Zero (Mid block small large i) at = absurd at
weight_share k plan.Zero (Raw block) at = absurd at
weight_share k (plan.Packed order target exceptions) Zero at = absurd at
weight_share k (plan.Packed order target exceptions) (Packed block t) at = ap (share_of_order k) at.0
weight_share k (plan.Packed order target exceptions) (Mid block small large i) at = absurd at
weight_share k (plan.Packed order target exceptions) (Raw block) at = absurd at
weight_share k plan.Raw Zero at = absurd at
weight_share k plan.Raw (Packed block target) at = absurd at
weight_share k plan.Raw (Mid block small large i) at = absurd at
weight_share k plan.Raw (Raw block) at = ap (share_of_order k) at

weights_shares : (k : ℕ) (plans : List PagePlan) (ds : List Desc) → length plans ≡ length ds
    → ((i : ℕ) (p : PagePlan) (desc : Desc) → slice_get plans i ≡ Some p → slice_get ds i ≡ Some desc → IsAtPlan p desc)
    → sum_by (weight k) (map block_of ds) ≡ sum_by (share k) plans
weights_shares k [] [] same at = refl
weights_shares k [] (d ∷ ds) same at = absurd (omega arith)
weights_shares k (p ∷ plans) [] same at = absurd (omega arith)
weights_shares k (p ∷ plans) (d ∷ ds) same at =
    let first : weight k (block_of d) ≡ share k p = weight_share k p d (at 0 p d refl refl) in
    let rest : sum_by (weight k) (map block_of ds) ≡ sum_by (share k) plans = weights_shares k plans ds (omega arith) (λ i q desc e f. at (suc i) q desc e f) in
    rw (sum_by-cons (weight k) (block_of d) (map block_of ds), sum_by-cons (share k) p plans) (omega arith)

-- the blocks are runs
runs : (ds : List Desc) → ((i : ℕ) (block : Place) → block_at ds i ≡ Some block → (block.order ≤ 3) × (block.unit % 2 ^ block.order ≡ 0)) → AreRuns (map block_of ds)
runs [] each = tt
runs (d ∷ ds) each = (one (block_of d) (λ block e. each 0 block e), runs ds (λ i block e. each (suc i) block e))
  where
    one : (b : Option Place) → ((block : Place) → b ≡ Some block → (block.order ≤ 3) × (block.unit % 2 ^ block.order ≡ 0)) → IfSome b (λ p. (p.order ≤ 3) × (p.unit % 2 ^ p.order ≡ 0))
    one None each = tt
    one (Some block) each = each block refl

-- a unit that no block holds is not one of the block of a page
held_by : (ds : List Desc) (page : ℕ) (block : Place) (v : ℕ) → block_at ds page ≡ Some block → IsIn v block → any_holds (map block_of ds) v ≡ true
held_by [] page block v e inside = cc
held_by (d ∷ ds) zero block v e inside =
    or_left (holds (block_of d) v) (any_holds (map block_of ds) v)
    (subst (λ b. holds b v ≡ true) (sym e) (and_from (leb block.unit v) (ltb v (past block)) (le-leb block.unit v inside.0) (lt-ltb v (past block) inside.1)))
held_by (d ∷ ds) (suc page) block v e inside = or_right (holds (block_of d) v) (any_holds (map block_of ds) v) (held_by ds page block v e inside)

-- two runs without a common unit are apart
apart_from : (p q : Place) → 1 ≤ 2 ^ p.order → 1 ≤ 2 ^ q.order → ((v : ℕ) → IsIn v p → IsIn v q → ⊥) → AreApart p q
apart_from p q some_p some_q none =
    elim (cases_lt p.unit q.unit) [
      | inl before ↦ elim (cases_lt q.unit (past p)) [
        | inl inside ↦ absurd (none q.unit (omega arith, inside) (omega arith, omega arith))
        | inr past_p ↦ inl past_p
      ]
      | inr behind ↦ elim (cases_lt p.unit (past q)) [
        | inl inside ↦ absurd (none p.unit (omega arith, omega arith) (behind, inside))
        | inr past_q ↦ inr past_q
      ]
    ]

-- place number j of an order
place_number : (used : List ℕ) (k j : ℕ) → k ≤ 3 → j < length used * 2 ^ (3 - k) → IsPlace used (place_at k (j * 2 ^ k))
place_number used k j known lt =
    four (λ k. j < length used * 2 ^ (3 - k) → IsPlace used (place_at k (j * 2 ^ k))) k known
    (λ l. record { known = omega arith; aligned = omega arith; within = omega arith })
    (λ l. record { known = omega arith; aligned = omega arith; within = omega arith })
    (λ l. record { known = omega arith; aligned = omega arith; within = omega arith })
    (λ l. record { known = omega arith; aligned = omega arith; within = omega arith })
    lt

-- a block of order 3 or less meets at most as many places of an order as a frame has
order_most : (k order : ℕ) → k ≤ 3 → order ≤ 3 → share_of_order k order ≤ 2 ^ (3 - k)
order_most k order known least =
    four (λ k. share_of_order k order ≤ 2 ^ (3 - k)) k known
    (four (λ o. share_of_order 0 o ≤ 8) order least (omega arith) (omega arith) (omega arith) (omega arith))
    (four (λ o. share_of_order 1 o ≤ 4) order least (omega arith) (omega arith) (omega arith) (omega arith))
    (four (λ o. share_of_order 2 o ≤ 2) order least (omega arith) (omega arith) (omega arith) (omega arith))
    (four (λ o. share_of_order 3 o ≤ 1) order least (omega arith) (omega arith) (omega arith) (omega arith))

module _ (s : Store) (sound : IsSound s) where
  known_order : (page : ℕ) (block : Place) → block_at s.descriptors page ≡ Some block → block.order ≤ 3
  known_order page block e = (sound.blocks_are.live page block e).lies.known

  pages_counted : length s.lines / 64 ≡ length s.descriptors
  pages_counted = let whole : length s.lines ≡ 64 * length s.descriptors = sound.whole in omega arith

  module _ (page : ℕ) (within : page < length s.descriptors) where
    -- a block of the pages, that one counted as zero
    other_block : (i : ℕ) (block : Place) → block_at (set s.descriptors page Zero) i ≡ Some block → (i ≢ page) × (block_at s.descriptors i ≡ Some block)
    other_block i block e = elim (cases_eq i page) [
      | inl same ↦ absurd (none-some block (sym (block_at-same s.descriptors page Zero within) ∙ ap (block_at (set s.descriptors page Zero)) (sym same) ∙ e))
      | inr ne ↦ (ne, sym (block_at-other s.descriptors page i Zero ne) ∙ e)
    ]

    other_runs : AreRuns (map block_of (set s.descriptors page Zero))
    other_runs = runs (set s.descriptors page Zero) (λ i block e.
        let lies = (sound.blocks_are.live i block (other_block i block e).1).lies in
        (lies.known, lies.aligned))

    -- every other page at its plan, the shares are what the blocks weigh
    shares_are : (k : ℕ) → ((i : ℕ) (desc : Desc) → i ≢ page → slice_get s.descriptors i ≡ Some desc → IsAtPlan (plan_of s.codec (page_of s.lines i)) desc)
        → sum_by (weight k) (map block_of (set s.descriptors page Zero)) ≡ sum_by (share k) (set (plans_of s.codec s.lines) page plan.Zero)
    shares_are k at_plan =
        let plans = plans_of s.codec s.lines in
        let counted : length plans ≡ length s.descriptors = length-plans_of s.codec s.lines ∙ pages_counted in
        weights_shares k (set plans page plan.Zero) (set s.descriptors page Zero) (length-set plans page plan.Zero ∙ counted ∙ sym (length-set s.descriptors page Zero))
        (λ i p desc e f. elim (cases_eq i page) [
          | inl same ↦
              let zero_plan : plan.Zero ≡ p = same_Some plan.Zero p (sym (get-set_same plans page plan.Zero (omega arith)) ∙ ap (slice_get (set plans page plan.Zero)) (sym same) ∙ e) in
              let zero_page : Zero ≡ desc = same_Some Zero desc (sym (get-set_same s.descriptors page Zero within) ∙ ap (slice_get (set s.descriptors page Zero)) (sym same) ∙ f) in
              subst (λ q. IsAtPlan q desc) zero_plan (subst (λ d. IsAtPlan plan.Zero d) zero_page tt)
          | inr ne ↦
              let there : slice_get s.descriptors i ≡ Some desc = sym (get-set_other s.descriptors page i Zero ne) ∙ f in
              let lt : i < length s.lines / 64 = omega (arith, slice_get_within s.descriptors i desc there, pages_counted) in
              let its_plan : plan_of s.codec (page_of s.lines i) ≡ p =
              same_Some (plan_of s.codec (page_of s.lines i)) p (sym (plans_of-get s.codec s.lines i lt) ∙ sym (get-set_other plans page i plan.Zero ne) ∙ e) in
              subst (λ q. IsAtPlan q desc) its_plan (at_plan i desc ne there)
        ])

    -- a place whose units no other block has is free for the page
    free_place : (k j : ℕ) → k ≤ 3 → j < length s.used * 2 ^ (3 - k)
        → ((v : ℕ) → j * 2 ^ k ≤ v → v < j * 2 ^ k + 2 ^ k → any_holds (map block_of (set s.descriptors page Zero)) v ≡ false)
        → IsFreeFor s.descriptors s.used page (place_at k (j * 2 ^ k))
    free_place k j known lt free = record {
      lies = place_number s.used k j known lt;
      free = λ other block ne e.
          apart_from block (place_at k (j * 2 ^ k)) (some_units block.order (known_order other block e)) (some_units k known) (λ v in_block in_place.
          both_ways (any_holds (map block_of (set s.descriptors page Zero)) v)
          (free v in_place.0 in_place.1)
          (held_by (set s.descriptors page Zero) other block v (block_at-other s.descriptors page other Zero ne ∙ e) in_block));
    }

    -- a crowded store is tight
    pub crowded_tight : (k : ℕ) → k ≤ 3
        → ((i : ℕ) (desc : Desc) → i ≢ page → slice_get s.descriptors i ≡ Some desc → IsAtPlan (plan_of s.codec (page_of s.lines i)) desc)
        → ((unit : ℕ) → IsFreeFor s.descriptors s.used page (place_at k unit) → ⊥) → Tight (sizing_of s) s.lines page k
    unfolding Tight
    crowded_tight k known at_plan none =
        let met : length s.used * 2 ^ (3 - k) ≤ sum_by (weight k) (map block_of (set s.descriptors page Zero)) =
        all_met (length s.used * 2 ^ (3 - k)) k (map block_of (set s.descriptors page Zero)) known other_runs (λ j lt free. none (j * 2 ^ k) (free_place k j known lt free)) in
        let shares = shares_are k at_plan in
        omega (arith, met, shares)

-- the order of a plan is at most 3
pub small_order : (codec : Codec) (lines : List (List ℕ)) (p : PagePlan) (order : ℕ) → IsPlan codec lines p → order_of p ≡ Some order → order ≤ 3
small_order codec lines plan.Zero order is_plan e = absurd (none-some order e)
small_order codec lines (plan.Packed k target exceptions) order is_plan e =
    let same : k ≡ order = same_Some k order e in
    let known : k ≤ 2 = is_plan.1.is_order.known in
    omega arith
small_order codec lines plan.Raw order is_plan e = let same : ◌≡◌ {A = ℕ} 3 order = same_Some 3 order e in omega arith

-- a plan's share is at most the places of an order that a frame has
share_most : (k : ℕ) (p : PagePlan) → k ≤ 3 → ((order : ℕ) → order_of p ≡ Some order → order ≤ 3) → share k p ≤ 2 ^ (3 - k)
share_most k plan.Zero known small = omega arith
share_most k (plan.Packed order target exceptions) known small = order_most k order known (small order refl)
share_most k plan.Raw known small = order_most k 3 known (small 3 refl)

-- where lines are tight, the frames are fewer than the pages
pub tight_few : (sizing : Sizing) (lines : List (List ℕ)) (page k : ℕ) → k ≤ 3 → page < length lines / 64 → Tight sizing lines page k → sizing.frames < length lines / 64
unfolding Tight
tight_few sizing lines page k known lt tight =
    let codec = sizing.codec in
    let plans = plans_of codec lines in
    let counted = length-plans_of codec lines in
    let bounded : sum_by (share k) (set plans page plan.Zero) + 2 ^ (3 - k) ≤ 2 ^ (3 - k) * length plans =
    sum_by-but_one (share k) (2 ^ (3 - k)) plans page plan.Zero (omega arith) refl (λ i p e.
    let within : i < length lines / 64 = omega (arith, slice_get_within plans i p e, counted) in
    let is : plan_of codec (page_of lines i) ≡ p = same_Some (plan_of codec (page_of lines i)) p (sym (plans_of-get codec lines i within) ∙ e) in
    let is_plan : IsPlan codec (page_of lines i) p = subst (IsPlan codec (page_of lines i)) is (IsPlan-plan_of codec (page_of lines i)) in
    share_most k p known (λ order f. small_order codec (page_of lines i) p order is_plan f)) in
    let some : 1 ≤ 2 ^ (3 - k) = some_units (3 - k) (omega arith) in
    elim (cases_lt sizing.frames (length plans)) [
      | inl fewer ↦ omega (arith, fewer, counted)
      | inr le ↦ absurd (omega (arith, mul-le-mul_left (2 ^ (3 - k)) le, bounded, tight, some))
    ]

-- facts of an order and a greater one
smaller_power : (order j : ℕ) → order ≤ j → j ≤ 3 → 2 ^ order ≤ 2 ^ j
smaller_power order j le known =
    four (λ j. order ≤ j → 2 ^ order ≤ 2 ^ j) j known
    (λ l. four (λ k. k ≤ 0 → 2 ^ k ≤ 1) order (omega arith) (λ m. omega arith) (λ m. omega arith) (λ m. omega arith) (λ m. omega arith) l)
    (λ l. four (λ k. k ≤ 1 → 2 ^ k ≤ 2) order (omega arith) (λ m. omega arith) (λ m. omega arith) (λ m. omega arith) (λ m. omega arith) l)
    (λ l. four (λ k. k ≤ 2 → 2 ^ k ≤ 4) order (omega arith) (λ m. omega arith) (λ m. omega arith) (λ m. omega arith) (λ m. omega arith) l)
    (λ l. four (λ k. k ≤ 3 → 2 ^ k ≤ 8) order (omega arith) (λ m. omega arith) (λ m. omega arith) (λ m. omega arith) (λ m. omega arith) l)
    le

inner_aligned : (order j unit : ℕ) → order ≤ j → j ≤ 3 → unit % 2 ^ j ≡ 0 → unit % 2 ^ order ≡ 0
inner_aligned order j unit le known aligned =
    four (λ j. order ≤ j → unit % 2 ^ j ≡ 0 → unit % 2 ^ order ≡ 0) j known
    (λ l a. four (λ k. k ≤ 0 → unit % 2 ^ k ≡ 0) order (omega arith) (λ m. omega arith) (λ m. omega arith) (λ m. omega arith) (λ m. omega arith) l)
    (λ l a. four (λ k. k ≤ 1 → unit % 2 ^ k ≡ 0) order (omega arith) (λ m. omega arith) (λ m. omega arith) (λ m. omega arith) (λ m. omega arith) l)
    (λ l a. four (λ k. k ≤ 2 → unit % 2 ^ k ≡ 0) order (omega arith) (λ m. omega arith) (λ m. omega arith) (λ m. omega arith) (λ m. omega arith) l)
    (λ l a. four (λ k. k ≤ 3 → unit % 2 ^ k ≡ 0) order (omega arith) (λ m. omega arith) (λ m. omega arith) (λ m. omega arith) (λ m. omega arith) l)
    le aligned

-- a place of an order has the first units of one of a greater order
inner_place : (used : List ℕ) (order j unit : ℕ) → order ≤ j → IsPlace used (place_at j unit) → IsPlace used (place_at order unit)
inner_place used order j unit le lies = record {
  known = let known : j ≤ 3 = lies.known in omega arith;
  aligned = inner_aligned order j unit le lies.known lies.aligned;
  within = let past_is : unit + 2 ^ j ≤ 8 * length used = lies.within in
      let smaller : 2 ^ order ≤ 2 ^ j = smaller_power order j le lies.known in
      omega arith;
}

-- no block is free from the order on that a crowded store refused
pub none_free : (s : Store) (refusal : NoSpace) (j unit : ℕ) → AreSound s.descriptors s.used → Crowded s refusal → refusal.order ≤ j → IsFreeBlock s.used (place_at j unit) → ⊥
none_free s refusal j unit sound crowded le block =
    let order = refusal.order in
    let place = place_at order unit in
    let inner : IsPlace s.used place = inner_place s.used order j unit le block.place_free.lies in
    let smaller : 2 ^ order ≤ 2 ^ j = smaller_power order j le block.place_free.lies.known in
    crowded.none unit (record {
      lies = inner;
      free = λ other held ne e.
          let busy = sound.live other held e in
          apart_from held place (some_units held.order busy.lies.known) (some_units order inner.known) (λ v in_held in_place.
          let one : in_use s.used v ≡ 1 = busy.full v in_held.0 in_held.1 in
          let zero_of : in_use s.used v ≡ 0 = block.place_free.free v in_place.0 (let behind : v < unit + 2 ^ order = in_place.1 in omega arith) in
          omega arith);
    })

-- what no number meets is counted nowhere
pub none_counted : (n : ℕ) (Meets : ℕ → Type 0) (count : ℕ) → ((i : ℕ) → Meets i → ⊥) → IsCount n Meets count → count ≡ 0
none_counted zero Meets count none is = is
none_counted (suc n) Meets count none (inl one) = absurd (none n one.0)
none_counted (suc n) Meets count none (inr rest) = none_counted n Meets count none rest.1
