-- A page has one plan, and `plan_of` computes it.
use Rattle.std.proofs.Common.{ℕ, zero, suc, cond, ◌≡◌, ◌⊎◌, ◌+◌, ◌<◌, ◌≤◌, Bool, true, false, List, Option, Some, None, MatchOption, fold, map, refl, sym, subst, inl, inr, ◌∙◌, arith}
use Rattle.std.specs.Bool.{Decides}
use Rattle.std.specs.Option.{option_map_or}
use Rattle.std.specs.Str.{bytes_eq}
use Rattle.std.proofs.lemmas.Bool.Decides.{nat_tests, leb_tells, Decides-by_and}
use Rattle.std.proofs.lemmas.Slice.Eq.{bytes_eq-Decides}
use Rattle.hier_types.specs.declared.settings.Codec.{Codec}
use Rattle.hier_types.specs.Lines.{AreLines, zero_line}
use Rattle.page_plan.specs.declared.least.PagePlan.{PagePlan}
use Rattle.page_plan.specs.declared.least.PagePlan.TheVariants.{Zero, Packed, Raw}
use Rattle.line_codec.specs.Layout.{IsTarget, IsTargetBelow, targets, cap, stored_sizes, exceptions_of, chunks_of}
use Rattle.page_plan.specs.Layout.{IsOrderFor, order_for}
use Rattle.page_plan.specs.KeptSizes.{kept_sizes, sizes_told}
use Rattle.page_plan.specs.PagePlan.{IsZeroPage, is_zero_page, IsOrder, IsAtMost, is_at_most, IsLeastPacked, IsLeastBelow, IsPlan, layout_with, lesser, plan_of}
use Rattle.page_plan.proofs.KeptLemmas.{exceptions_of-kept}

-- the computed test for a page of zeros
pub is_zero_page-Decides : (lines : List (List ℕ)) → Decides (is_zero_page lines) (IsZeroPage lines)
is_zero_page-Decides lines =
    Decides-by_and (λ line. bytes_eq line zero_line) (λ line. line ≡ zero_line) is_zero_page (λ line. bytes_eq-Decides line zero_line) refl (λ _ _. refl) lines

-- the computed comparison
is_at_most-Decides : (k x t k' x' t' : ℕ) → Decides (is_at_most k x t k' x' t') (IsAtMost k x t k' x' t')
is_at_most-Decides k x t k' x' t' = ((λ at_most. grind (arith, nat_tests)), (λ at_most. grind (arith, nat_tests)))

-- a block of an order from 0 to 2 has 8, 16 or 32 chunks
cap-cases : (k : ℕ) → k ≤ 2 → ((k ≡ 0) × (cap k ≡ 8)) ⊎ (((k ≡ 1) × (cap k ≡ 16)) ⊎ ((k ≡ 2) × (cap k ≡ 32)))
cap-cases zero h = inl (refl, refl)
cap-cases (suc zero) h = inr (inl (refl, refl))
cap-cases (suc (suc zero)) h = inr (inr (refl, refl))
cap-cases (suc (suc (suc k))) h = absurd (omega arith)

-- a greater order has room for more
least_order : (n k : ℕ) → k ≤ 2 → n ≤ cap k → ((j : ℕ) → j < k → cap j < n) → IsOrderFor n k
least_order n k known room smaller = record {
  known = known;
  room = room;
  least = λ j _ has. elim (leb_tells k j) [ inl w ↦ w.1 | inr w ↦ let above : cap j < n = smaller j w.1 in absurd (omega arith) ];
}

-- the computed order is the least that has room
pub order_for-least : (n : ℕ) → MatchOption (order_for n) ((k : ℕ) → ¬ IsOrderFor n k) (λ k. IsOrderFor n k)
order_for-least n =
    elim (leb_tells n 8) [
      | inl small ↦ rw small.0 (least_order n 0 (omega arith) small.1 (λ j below. absurd (omega arith)))
      | inr past_8 ↦ rw past_8.0 (elim (leb_tells n 16) [
        | inl small ↦ rw small.0 (least_order n 1 (omega arith) small.1 (λ j below. grind (arith, nat_tests)))
        | inr past_16 ↦ rw past_16.0 (elim (leb_tells n 32) [
          | inl small ↦ rw small.0 (least_order n 2 (omega arith) small.1 (λ j below. grind (arith, nat_tests, cap-cases j (omega arith))))
          | inr past_32 ↦ rw past_32.0 (λ k order. grind (arith, cap-cases k order.known))
        ])
      ])
    ]

-- a layout has one order
IsOrder-unique : (sizes : List (Option ℕ)) (t j k : ℕ) → IsOrder sizes t j → IsOrder sizes t k → j ≡ k
IsOrder-unique sizes t j k first second =
    let up : j ≤ k = first.least k second.known second.room in
    let down : k ≤ j = second.least j first.known first.room in
    omega arith

-- the next target is 4 bytes up
next_target : (t u : ℕ) → IsTarget t → IsTargetBelow (t + 4) u → IsTargetBelow t u ⊎ (u ≡ t)
next_target t u target below = elim (leb_tells t u) [ inl past ↦ inr (omega arith) | inr lower ↦ inl (below.0, below.1, lower.1) ]

-- the comparison is a total order
IsAtMost-trans : (k x t k' x' t' k'' x'' t'' : ℕ) → IsAtMost k x t k' x' t' → IsAtMost k' x' t' k'' x'' t'' → IsAtMost k x t k'' x'' t''
IsAtMost-trans k x t k' x' t' k'' x'' t'' first second = grind arith

IsAtMost-total : (k x t k' x' t' : ℕ) → ¬ IsAtMost k x t k' x' t' → IsAtMost k' x' t' k x t
IsAtMost-total k x t k' x' t' above = grind arith

IsAtMost-unique : (k x t k' x' t' : ℕ) → IsAtMost k x t k' x' t' → IsAtMost k' x' t' k x t → (k ≡ k') × (x ≡ x') × (t ≡ t')
IsAtMost-unique k x t k' x' t' first second = (grind arith, grind arith, grind arith)

-- what is least below a target is least below the next one, if the target itself is not below it
kept_least : (sizes : List (Option ℕ)) (t order target exceptions : ℕ) → IsTarget t → IsLeastPacked t sizes order target exceptions
    → ((k : ℕ) → IsOrder sizes t k → IsAtMost order exceptions target k (exceptions_of sizes t) t) → IsLeastPacked (t + 4) sizes order target exceptions
kept_least sizes t order target exceptions is_target below here = record {
  is_target = (below.is_target.0, below.is_target.1, omega arith);
  counted = below.counted;
  is_order = below.is_order;
  least = λ k u u_target u_order. elim (next_target t u is_target u_target) [
    | inl lower ↦ below.least k u lower u_order
    | inr same ↦ let at_t : IsOrder sizes t k = subst (λ (v : ℕ). IsOrder sizes v k) same u_order in
        subst (λ (v : ℕ). IsAtMost order exceptions target k (exceptions_of sizes v) v) (sym same) (here k at_t)
  ];
}

-- a target is the least below the next one, if no lower one is below it
new_least : (sizes : List (Option ℕ)) (t order : ℕ) → IsTarget t → IsOrder sizes t order
    → ((k u : ℕ) → IsTargetBelow t u → IsOrder sizes u k → IsAtMost order (exceptions_of sizes t) t k (exceptions_of sizes u) u) → IsLeastPacked (t + 4) sizes order t (exceptions_of sizes t)
new_least sizes t order is_target is_order lower = record {
  is_target = (is_target.0, is_target.1, omega arith);
  counted = refl;
  is_order = is_order;
  least = λ k u u_target u_order. elim (next_target t u is_target u_target) [
    | inl below ↦ lower k u below u_order
    | inr same ↦
        let at_t : IsOrder sizes t k = subst (λ (v : ℕ). IsOrder sizes v k) same u_order in
        let one_order : order ≡ k = IsOrder-unique sizes t order k is_order at_t in
        let itself : IsAtMost order (exceptions_of sizes t) t k (exceptions_of sizes t) t = inr (one_order, inr (refl, omega arith)) in
        subst (λ (v : ℕ). IsAtMost order (exceptions_of sizes t) t k (exceptions_of sizes v) v) (sym same) itself
  ];
}

-- Raw is left where no target has an order, the next one neither
still_raw : (sizes : List (Option ℕ)) (t : ℕ) → IsTarget t → IsLeastBelow t sizes Raw → ((k : ℕ) → ¬ IsOrder sizes t k) → IsLeastBelow (t + 4) sizes Raw
still_raw sizes t is_target below here k u u_target u_order = elim (next_target t u is_target u_target) [
  | inl lower ↦ below k u lower u_order
  | inr same ↦ here k (subst (λ (v : ℕ). IsOrder sizes v k) same u_order)
]

-- the lesser of two packed layouts
lesser_packed : (sizes : List (Option ℕ)) (t k order target exceptions : ℕ) → IsTarget t → IsOrder sizes t k → IsLeastPacked t sizes order target exceptions
    → (first : Bool) → Decides first (IsAtMost order exceptions target k (exceptions_of sizes t) t)
    → IsLeastBelow (t + 4) sizes (cond first (Packed order target exceptions) (Packed k t (exceptions_of sizes t)))
lesser_packed sizes t k order target exceptions is_target is_order below true decided =
    kept_least sizes t order target exceptions is_target below (λ j j_order.
    subst (λ (i : ℕ). IsAtMost order exceptions target i (exceptions_of sizes t) t) (IsOrder-unique sizes t k j is_order j_order) (decided.0 refl))
lesser_packed sizes t k order target exceptions is_target is_order below false decided =
    let above : ¬ IsAtMost order exceptions target k (exceptions_of sizes t) t = λ at_most. let both : false ≡ true = decided.1 at_most in cc in
    let less = IsAtMost-total order exceptions target k (exceptions_of sizes t) t above in
    new_least sizes t k is_target is_order (λ j u u_target u_order.
    IsAtMost-trans k (exceptions_of sizes t) t order exceptions target j (exceptions_of sizes u) u less (below.least j u u_target u_order))

-- one more target
lesser-least : (sizes : List (Option ℕ)) (t : ℕ) (before : PagePlan) (order : Option ℕ) → IsTarget t → IsLeastBelow t sizes before
    → MatchOption order ((k : ℕ) → ¬ IsOrder sizes t k) (λ k. IsOrder sizes t k)
    → IsLeastBelow (t + 4) sizes (lesser before (option_map_or (λ k. Packed k t (exceptions_of sizes t)) order Raw))
lesser-least sizes t Zero order is_target below here = absurd below
lesser-least sizes t Raw None is_target below here = still_raw sizes t is_target below here
lesser-least sizes t Raw (Some k) is_target below here = new_least sizes t k is_target here (λ j u u_target u_order. absurd (below j u u_target u_order))
lesser-least sizes t (Packed order target exceptions) None is_target below here =
    kept_least sizes t order target exceptions is_target below (λ k k_order. absurd (here k k_order))
lesser-least sizes t (Packed order target exceptions) (Some k) is_target below here =
    lesser_packed sizes t k order target exceptions is_target here below (is_at_most order exceptions target k (exceptions_of sizes t) t)
    (is_at_most-Decides order exceptions target k (exceptions_of sizes t) t)

-- all seven
fold-least : (sizes : List (Option ℕ)) → IsLeastBelow 32 sizes (fold lesser Raw (map (layout_with sizes) targets))
fold-least sizes =
    let next : (t : ℕ) (before : PagePlan) → IsTarget t → IsLeastBelow t sizes before → IsLeastBelow (t + 4) sizes (lesser before (layout_with sizes t)) =
    λ t before is_target below. lesser-least sizes t before (order_for (chunks_of sizes t)) is_target below (order_for-least (chunks_of sizes t)) in
    next 28 _ (omega arith) (next 24 _ (omega arith) (next 20 _ (omega arith) (next 16 _ (omega arith) (next 12 _ (omega arith) (next 8 _ (omega arith) (next 4 Raw (omega arith) (λ k u u_target u_order. omega arith)))))))

-- where some line is not zero, the least of all targets is the plan
pub nonzero_plan : (codec : Codec) (lines : List (List ℕ)) (least : PagePlan) → ¬ IsZeroPage lines → IsLeastBelow 32 (stored_sizes codec lines) least → IsPlan codec lines least
nonzero_plan codec lines Zero nonzero below = absurd below
nonzero_plan codec lines (Packed k t x) nonzero below = (nonzero, below)
nonzero_plan codec lines Raw nonzero below = (nonzero, below)

-- Zero where all lines are zero, else the least
zero_else_least : (codec : Codec) (lines : List (List ℕ)) (least : PagePlan) → IsLeastBelow 32 (stored_sizes codec lines) least
    → (zero : Bool) → Decides zero (IsZeroPage lines) → IsPlan codec lines (cond zero Zero least)
zero_else_least codec lines least below true decided = decided.0 refl
zero_else_least codec lines least below false decided = nonzero_plan codec lines least (λ all_zero. let both : false ≡ true = decided.1 all_zero in cc) below

-- the computed plan is a plan
pub IsPlan-plan_of : (codec : Codec) (lines : List (List ℕ)) → IsPlan codec lines (plan_of codec lines)
unfolding plan_of
IsPlan-plan_of codec lines =
    zero_else_least codec lines (fold lesser Raw (map (layout_with (stored_sizes codec lines)) targets)) (fold-least (stored_sizes codec lines))
    (is_zero_page lines) (is_zero_page-Decides lines)

-- a page has one plan
pub IsPlan-unique : (codec : Codec) (lines : List (List ℕ)) (p q : PagePlan) → IsPlan codec lines p → IsPlan codec lines q → p ≡ q
IsPlan-unique codec lines Zero Zero first second = refl
IsPlan-unique codec lines Zero (Packed k t x) first second = absurd (second.0 first)
IsPlan-unique codec lines Zero Raw first second = absurd (second.0 first)
IsPlan-unique codec lines (Packed k t x) Zero first second = absurd (first.0 second)
IsPlan-unique codec lines (Packed k t x) (Packed k' t' x') first second =
    let up : IsAtMost k x t k' (exceptions_of (stored_sizes codec lines) t') t' = first.1.least k' t' second.1.is_target second.1.is_order in
    let down : IsAtMost k' x' t' k (exceptions_of (stored_sizes codec lines) t) t = second.1.least k t first.1.is_target first.1.is_order in
    let below : IsAtMost k x t k' x' t' = subst (λ (y : ℕ). IsAtMost k x t k' y t') (sym second.1.counted) up in
    let above : IsAtMost k' x' t' k x t = subst (λ (y : ℕ). IsAtMost k' x' t' k y t) (sym first.1.counted) down in
    let same = IsAtMost-unique k x t k' x' t' below above in
    let orders : k ≡ k' = same.0 in
    let counts : x ≡ x' = same.1 in
    let slots : t ≡ t' = same.2 in
    cc
IsPlan-unique codec lines (Packed k t x) Raw first second = absurd (second.1 k t first.1.is_target first.1.is_order)
IsPlan-unique codec lines Raw Zero first second = absurd (first.0 second)
IsPlan-unique codec lines Raw (Packed k t x) first second = absurd (first.1 k t second.1.is_target second.1.is_order)
IsPlan-unique codec lines Raw Raw first second = refl

-- every plan of a page is the computed one
pub only_plan : (codec : Codec) (lines : List (List ℕ)) (plan : PagePlan) → IsPlan codec lines plan → plan ≡ plan_of codec lines
only_plan codec lines plan is_plan = IsPlan-unique codec lines plan (plan_of codec lines) is_plan (IsPlan-plan_of codec lines)

-- the least layout by some sizes is so by others that leave as many exceptions
least_along : (a b : List (Option ℕ)) (plan : PagePlan) → ((t : ℕ) → IsTarget t → exceptions_of a t ≡ exceptions_of b t) → IsLeastBelow 32 a plan → IsLeastBelow 32 b plan
least_along a b Zero same least = absurd least
least_along a b (Packed order target exceptions) same least = record {
  is_target = least.is_target;
  counted = least.counted ∙ same target least.is_target;
  is_order = subst (λ (n : ℕ). IsOrderFor (1 + target + n) order) (same target least.is_target) least.is_order;
  least = λ k t is_target is_order.
      let before : IsOrder a t k = subst (λ (n : ℕ). IsOrderFor (1 + t + n) k) (sym (same t is_target)) is_order in
      subst (λ (n : ℕ). IsAtMost order exceptions target k n t) (same t is_target) (least.least k t is_target before);
}
least_along a b Raw same least = λ k t is_target is_order. least k t is_target (subst (λ (n : ℕ). IsOrderFor (1 + t + n) k) (sym (same t is_target)) is_order)

-- the least layout by what the bytes of a page say is the plan of the page, where it is not zero
pub least_kept : (codec : Codec) (lines : List (List ℕ)) (plan : PagePlan) → AreLines lines → ¬ IsZeroPage lines
    → IsLeastBelow 32 (sizes_told (Some 1) (kept_sizes codec lines)) plan → plan ≡ plan_of codec lines
least_kept codec lines plan whole nonzero least =
    only_plan codec lines plan (nonzero_plan codec lines plan nonzero
    (least_along (sizes_told (Some 1) (kept_sizes codec lines)) (stored_sizes codec lines) plan (λ t is_target. exceptions_of-kept codec lines t whole is_target) least))
