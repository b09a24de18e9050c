-- How far a page is from its plan: more than the turns that it still takes, and 0 exactly at the plan.
use Rattle.std.specs.Prelude.{ℕ, ◌+◌, ◌-◌, Bool, true, false, List, Option, nat_lt, ◌==◌, ◌&&◌, if◌then◌else◌}
use Rattle.hier_types.specs.declared.settings.Codec.{Codec}
use Rattle.line_codec.specs.Layout.{cap, stored_sizes, exceptions_of}
use Rattle.page_plan.specs.declared.least.PagePlan.{PagePlan}
use Rattle.page_plan.specs.declared.least.PagePlan.TheVariants as plans
use Rattle.page_plan.specs.PagePlan.{plan_of}
use Rattle.page_slots.specs.declared.desc.Shape.{Shape}
use Rattle.page_slots.specs.declared.desc.Shape.TheVariants as shapes
use Rattle.page_slots.specs.declared.desc.Slots.{Slots}
use Rattle.page_slots.specs.declared.desc.Slots.TheVariants.{Packed, Mid}
use Rattle.page_slots.specs.Chunks.{count_in}
use Rattle.page_slots.specs.Descs.{content_of}
use Rattle.page_mover.specs.declared.turning.Turn.{Turn}
use Rattle.page_mover.specs.Turns.{goes_down, is_rewrite, slots_turn}

-- the page is as the plan says, whichever chunks its exceptions have
abbrev pub is_at_plan : Shape → PagePlan → Bool
is_at_plan shapes.Zero plans.Zero = true
is_at_plan shapes.Raw plans.Raw = true
is_at_plan (shapes.Slotted (Packed order target)) (plans.Packed plan_order goal exceptions) = (target == goal) && (order == plan_order)
is_at_plan shape plan = false

-- a packed page and its turn, `outside` and `below` as `packed_turn` takes them
abbrev pub packed_far : ℕ → ℕ → ℕ → ℕ → Turn → ℕ → ℕ → ℕ
packed_far order target plan_order goal turn outside below =
    if (target == goal) && (order == plan_order) then 0
    else if is_rewrite turn then 1
    else if target == goal then outside + (order - plan_order)
    else if nat_lt goal target then 93
    else 93 + below

-- what is left where all lines have moved to slots of that length
abbrev pub rest : ℕ → ℕ → ℕ
rest goal target = if goal == target then 29 else 120

abbrev pub mid_far : ℕ → ℕ → ℕ → ℕ → ℕ → ℕ → ℕ
mid_far order small large at outgrown goal =
    if goes_down order small large outgrown goal then 64 - at + rest goal small
    else at + rest goal large

abbrev pub slots_far : List (Option ℕ) → Slots → List ℕ → ℕ → ℕ → ℕ
slots_far sizes (Packed order target) bytes plan_order goal =
    packed_far order target plan_order goal (slots_turn sizes (Packed order target) bytes plan_order goal)
    (count_in (cap plan_order) (cap order) bytes 64) (count_in 0 (1 + goal) bytes 64)
slots_far sizes (Mid order small large at) bytes plan_order goal = mid_far order small large at (exceptions_of sizes small) goal

-- of a page whose content has the plan
abbrev pub far_by : List (Option ℕ) → Shape → List ℕ → PagePlan → ℕ
far_by sizes shapes.Zero bytes plan = 0
far_by sizes shapes.Raw bytes plans.Raw = 0
far_by sizes shapes.Raw bytes plans.Zero = 1
far_by sizes shapes.Raw bytes (plans.Packed order goal exceptions) = 1
far_by sizes (shapes.Slotted slots) bytes plans.Raw = 0
far_by sizes (shapes.Slotted slots) bytes plans.Zero = 1
far_by sizes (shapes.Slotted slots) bytes (plans.Packed order goal exceptions) = slots_far sizes slots bytes order goal

-- of a page by its bytes alone
abbrev pub far_of : Codec → Shape → List ℕ → ℕ
far_of codec shape bytes = far_by (stored_sizes codec (content_of shape bytes)) shape bytes (plan_of codec (content_of shape bytes))
