-- The least layout of a page.
use Rattle.std.specs.Prelude.{ℕ, ◌≡◌, ◌⊎◌, ◌<◌, ◌≤◌, Bool, List, All, map, fold, Option, nat_lt, nat_le, ◌==◌, ◌&&◌, ◌||◌, if◌then◌else◌}
use Rattle.std.specs.List.{list_all}
use Rattle.std.specs.Option.{option_map_or}
use Rattle.std.specs.Str.{bytes_eq}
use Rattle.hier_types.specs.declared.settings.Codec.{Codec}
use Rattle.hier_types.specs.Lines.{zero_line}
use Rattle.page_plan.specs.declared.least.PagePlan.{PagePlan}
use Rattle.page_plan.specs.declared.least.PagePlan.TheVariants.{Zero, Packed, Raw}
use Rattle.line_codec.specs.Layout.{IsTarget, IsTargetBelow, targets, stored_sizes, exceptions_of, chunks_of}
use Rattle.page_plan.specs.Layout.{IsOrderFor, order_for}

-- all lines are zero
abbrev pub IsZeroPage : List (List ℕ) → Type 0
IsZeroPage lines = All (λ line. line ≡ zero_line) lines

-- the same, computed
abbrev pub is_zero_page : List (List ℕ) → Bool
is_zero_page lines = list_all (λ line. bytes_eq line zero_line) lines

-- k is the order of a page whose slots have t bytes
abbrev pub IsOrder : List (Option ℕ) → ℕ → ℕ → Type 0
IsOrder sizes t k = IsOrderFor (chunks_of sizes t) k

-- the first order, exceptions and target are not above the second: the order weighs most, the target least
abbrev pub IsAtMost : ℕ → ℕ → ℕ → ℕ → ℕ → ℕ → Type 0
IsAtMost k x t k' x' t' = (k < k') ⊎ ((k ≡ k') × ((x < x') ⊎ ((x ≡ x') × (t ≤ t'))))

-- the same, computed
abbrev pub is_at_most : ℕ → ℕ → ℕ → ℕ → ℕ → ℕ → Bool
is_at_most k x t k' x' t' = nat_lt k k' || (k == k' && (nat_lt x x' || (x == x' && nat_le t t')))

-- order, exceptions and target are the least among those of the targets below the limit
pub record IsLeastPacked (limit : ℕ) (sizes : List (Option ℕ)) (order target exceptions : ℕ) : Type 0 where
  pub is_target : IsTargetBelow limit target
  pub counted : exceptions ≡ exceptions_of sizes target
  pub is_order : IsOrder sizes target order
  pub least : (k t : ℕ) → IsTargetBelow limit t → IsOrder sizes t k → IsAtMost order exceptions target k (exceptions_of sizes t) t

-- the layout is the least of the targets below the limit, or Raw where none of these has an order
abbrev pub IsLeastBelow : ℕ → List (Option ℕ) → PagePlan → Type 0
IsLeastBelow limit sizes Zero = ⊥
IsLeastBelow limit sizes (Packed order target exceptions) = IsLeastPacked limit sizes order target exceptions
IsLeastBelow limit sizes Raw = (k t : ℕ) → IsTargetBelow limit t → ¬ IsOrder sizes t k

-- the plan of a page: Zero where all lines are zero, else the least of all seven targets
abbrev pub IsPlan : Codec → List (List ℕ) → PagePlan → Type 0
IsPlan codec lines Zero = IsZeroPage lines
IsPlan codec lines plan = (¬ IsZeroPage lines) × IsLeastBelow 32 (stored_sizes codec lines) plan

-- the numbers of a packed page are in range
abbrev pub IsInRange : PagePlan → Type 0
IsInRange Zero = Unit {0}
IsInRange (Packed order target exceptions) = (order ≤ 2) × IsTarget target × (exceptions ≤ 64)
IsInRange Raw = Unit {0}

-- what the target gives: Raw where no order has room
abbrev pub layout_with : List (Option ℕ) → ℕ → PagePlan
layout_with sizes t = option_map_or (λ k. Packed k t (exceptions_of sizes t)) (order_for (chunks_of sizes t)) Raw

-- of two layouts the lesser; Raw is the greatest
abbrev pub lesser : PagePlan → PagePlan → PagePlan
lesser Zero other = Zero
lesser (Packed k t x) Zero = Zero
lesser (Packed k t x) (Packed k' t' x') = if is_at_most k x t k' x' t' then Packed k t x else Packed k' t' x'
lesser (Packed k t x) Raw = Packed k t x
lesser Raw other = other

-- the plan of a page, computed: the only one
unfoldable pub plan_of : Codec → List (List ℕ) → PagePlan
plan_of codec lines = if is_zero_page lines then Zero else fold lesser Raw (map (layout_with (stored_sizes codec lines)) targets)
