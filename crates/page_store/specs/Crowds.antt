-- When a store has no room for a page.
use Rattle.std.specs.Prelude.{◌≡◌, ◌≢◌, ℕ, ◌-◌, ◌*◌, ◌^◌, ◌≤◌, List, Some, if◌then◌else◌, nat_le, slice_get, slice_set}
use Rattle.std.specs.List.{sum_by}
use Rattle.buddy_frames.specs.Units.{place_at}
use Rattle.hier_types.specs.declared.faults.NoSpace.{NoSpace}
use Rattle.page_plan.specs.declared.least.PagePlan.{PagePlan}
use Rattle.page_plan.specs.declared.least.PagePlan.TheVariants.{Zero, Packed, Raw}
use Rattle.page_plan.specs.PagePlan.{plan_of}
use Rattle.page_plan.specs.Sizes.{order_of}
use Rattle.page_slots.specs.declared.desc.Desc.{Desc}
use Rattle.page_plan.specs.Pages.{page_of, plans_of}
use Rattle.page_store.specs.PageBlocks.{IsAtPlan, IsFreeFor}
use Rattle.page_store.specs.Store.{Store, Sizing}

-- every page but the refused one is at its plan, and no place of the order is free for that one
pub record Crowded (s : Store) (refusal : NoSpace) : Type 0 where
  pub at_plan : (page : ℕ) (desc : Desc) → page ≢ refusal.page.0 → slice_get s.descriptors page ≡ Some desc
      → IsAtPlan (plan_of s.codec (page_of s.lines page)) desc
  pub none : (unit : ℕ) → IsFreeFor s.descriptors s.used refusal.page.0 (place_at refusal.order unit) → ⊥

-- at most so many places of order k does the block of a plan meet
abbrev pub share_of_order : ℕ → ℕ → ℕ
share_of_order k order = if nat_le order k then 1 else 2 ^ (order - k)

abbrev pub share : ℕ → PagePlan → ℕ
share k Zero = 0
share k (Packed order target exceptions) = share_of_order k order
share k Raw = share_of_order k 3

-- the blocks of the plans of all pages but one could meet every place of order k; it speaks of the contents alone
unfoldable pub Tight : Sizing → List (List ℕ) → ℕ → ℕ → Type 0
Tight sizing lines page k = sizing.frames * 2 ^ (3 - k) ≤ sum_by (share k) (slice_set (plans_of sizing.codec lines) page Zero)

-- A page may be refused these lines: the refusal names it and the order of its new plan, and the lines before are tight for
-- them.
pub record MayRefuse (sizing : Sizing) (before after : List (List ℕ)) (page : ℕ) (refusal : NoSpace) : Type 0 where
  pub page_is : refusal.page.0 ≡ page
  pub order_is : order_of (plan_of sizing.codec (page_of after page)) ≡ Some refusal.order
  pub tight : Tight sizing before page refusal.order
