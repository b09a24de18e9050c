-- The next turn of a page on its way to its plan.
use Rattle.std.specs.Prelude.{ℕ, ◌≡◌, ◌+◌, Bool, true, false, List, Option, nat_lt, nat_le, ◌==◌, ◌&&◌, if◌then◌else◌, min, max}
use Rattle.hier_types.specs.declared.settings.Codec.{Codec}
use Rattle.line_codec.specs.Layout.{cap, stored_sizes, exceptions_of}
use Rattle.page_plan.specs.declared.least.PagePlan.{PagePlan}
use Rattle.page_plan.specs.declared.least.PagePlan.TheVariants as plans
use Rattle.page_plan.specs.PagePlan.{plan_of}
use Rattle.page_slots.specs.declared.desc.Shape.{Shape}
use Rattle.page_slots.specs.declared.desc.Shape.TheVariants as shapes
use Rattle.page_slots.specs.declared.desc.Slots.{Slots}
use Rattle.page_slots.specs.declared.desc.Slots.TheVariants.{Packed, Mid}
use Rattle.page_slots.specs.Chunks.{count_in}
use Rattle.page_slots.specs.Descs.{content_of}
use Rattle.page_plan.specs.KeptSizes.{kept_sizes}
use Rattle.page_slots.specs.Sound.{IsSound}
use Rattle.page_mover.specs.declared.turning.Turn.{Turn}
use Rattle.page_mover.specs.declared.turning.TurnKind.{TurnKind}
use Rattle.page_mover.specs.declared.turning.TurnKind.TheVariants as kinds
use Rattle.page_mover.specs.declared.turning.Turn.TheVariants.{Next, Zero, Rewrite, Down, Up, Hoist, Halve}

-- A half-moved page goes down where the plan's target is not above the smaller one, and the block has chunks for all
-- lines that the smaller slots do not hold, beside the larger slots.
abbrev pub goes_down : ℕ → ℕ → ℕ → ℕ → ℕ → Bool
goes_down order small large outgrown goal = nat_le goal small && nat_le (1 + large + outgrown) (cap order)

-- The turn of a packed page whose plan is packed, by the first row that holds: `need` is how many chunks the block has to
-- hold while the page moves, `outside` the exceptions in chunks that the plan's block does not have, `below` those in the
-- way of the plan's slots.
abbrev pub packed_turn : ℕ → ℕ → ℕ → ℕ → ℕ → ℕ → ℕ → Turn
packed_turn order target plan_order goal need outside below =
    if (target == goal) && (order == plan_order) then Next
    else if (target == goal) && nat_lt 0 outside then Hoist (cap plan_order) (cap order) target
    else if (target == goal) && nat_lt plan_order order then Halve
    else if nat_lt (cap order) need then Rewrite plan_order goal
    else if nat_lt target goal && nat_lt 0 below then Hoist 0 (1 + goal) goal
    else if nat_lt target goal then Up goal
    else Down goal

-- that of a half-moved page
abbrev pub mid_turn : ℕ → ℕ → ℕ → ℕ → ℕ → Turn
mid_turn order small large outgrown goal = if goes_down order small large outgrown goal then Down small else Up large

-- that of a page in slots, by the stored sizes of its lines
abbrev pub slots_turn : List (Option ℕ) → Slots → List ℕ → ℕ → ℕ → Turn
slots_turn sizes (Packed order target) bytes plan_order goal = packed_turn order target plan_order goal
    (1 + max target goal + exceptions_of sizes (min target goal))
    (count_in (cap plan_order) (cap order) bytes 64) (count_in 0 (1 + goal) bytes 64)
slots_turn sizes (Mid order small large at) bytes plan_order goal = mid_turn order small large (exceptions_of sizes small) goal

-- The turn of a page whose content has the plan. Nothing is left to do for a page of zeros, and where the plan is the lines
-- one after another: a page in slots has no such plan.
abbrev pub turn_by : List (Option ℕ) → Shape → List ℕ → PagePlan → Turn
turn_by sizes shapes.Zero bytes plan = Next
turn_by sizes shapes.Raw bytes plans.Raw = Next
turn_by sizes shapes.Raw bytes plans.Zero = Zero
turn_by sizes shapes.Raw bytes (plans.Packed order goal exceptions) = Rewrite order goal
turn_by sizes (shapes.Slotted slots) bytes plans.Raw = Next
turn_by sizes (shapes.Slotted slots) bytes plans.Zero = Zero
turn_by sizes (shapes.Slotted slots) bytes (plans.Packed order goal exceptions) = slots_turn sizes slots bytes order goal

-- the turn of a page by its bytes alone
abbrev pub turn_of : Codec → Shape → List ℕ → Turn
turn_of codec shape bytes = turn_by (stored_sizes codec (content_of shape bytes)) shape bytes (plan_of codec (content_of shape bytes))

-- the page is laid anew
abbrev pub is_rewrite : Turn → Bool
is_rewrite (Rewrite order target) = true
is_rewrite turn = false

-- the kind of a turn
abbrev pub kind_of : Turn → TurnKind
kind_of Next = kinds.Next
kind_of Zero = kinds.Zero
kind_of (Rewrite order target) = kinds.Rewrite
kind_of (Down small) = kinds.Shift
kind_of (Up large) = kinds.Shift
kind_of (Hoist low high above) = kinds.Hoist
kind_of Halve = kinds.Halve

-- the page is sound, its content has this plan, and its lines have these sizes
pub record IsMeasured (codec : Codec) (shape : Shape) (bytes : List ℕ) (plan : PagePlan) (sizes : List ℕ) : Type 0 where
  pub sound : IsSound codec shape bytes
  pub plan_is : plan ≡ plan_of codec (content_of shape bytes)
  pub sizes_are : sizes ≡ kept_sizes codec (content_of shape bytes)
