-- The plan of a page in slots.
use Rattle.std.proofs.Common.{◌≡◌, ℕ, ◌≤◌, refl, sym, subst, arith, List, Option, inl, inr}
use Rattle.std.proofs.lemmas.Bool.Decides.{nat_tests, leb_tells}
use Rattle.hier_types.specs.declared.settings.Codec.{Codec}
use Rattle.line_codec.specs.Layout.{IsTarget, cap, stored_sizes, exceptions_of, chunks_of}
use Rattle.page_plan.specs.declared.least.PagePlan.{PagePlan}
use Rattle.page_plan.specs.declared.least.PagePlan.TheVariants as plans
use Rattle.page_plan.specs.Layout.{IsOrderFor}
use Rattle.page_plan.specs.PagePlan.{IsZeroPage, IsAtMost, IsLeastPacked, IsPlan, plan_of}
use Rattle.page_plan.proofs.PlanLemmas.{IsPlan-plan_of, only_plan}
use Rattle.page_slots.specs.declared.desc.Shape.{Shape}
use Rattle.page_slots.specs.declared.desc.Shape.TheVariants as shapes
use Rattle.page_slots.specs.declared.desc.Slots.{Slots}
use Rattle.page_slots.specs.declared.desc.Slots.TheVariants.{Packed, Mid}
use Rattle.page_slots.specs.Descs.{content_of}
use Rattle.page_slots.specs.Forms.{form_of, order_of}
use Rattle.page_slots.specs.Sound.{HoldsSlots, IsSlotted, IsSound}
use Rattle.page_slots.proofs.CountLemmas.{slotted_room}
use Rattle.page_mover.specs.Moves.{FitsBlock}

-- lines of these sizes have room in a packed page of this order and target, and in none of a lower order
pub record IsLeast (sizes : List (Option ℕ)) (order target : ℕ) : Type 0 where
  pub order_in : order ≤ 2
  pub is_target : IsTarget target
  pub rooms : chunks_of sizes target ≤ cap order
  pub least : (k t : ℕ) → k ≤ 2 → IsTarget t → chunks_of sizes t ≤ cap k → order ≤ k

-- the stored sizes of the lines of a page in slots
abbrev pub sizes_of : Codec → Slots → List ℕ → List (Option ℕ)
sizes_of codec slots bytes = stored_sizes codec (content_of (shapes.Slotted slots) bytes)

-- what has room in a block has an order
order_by : (n k : ℕ) → k ≤ 2 → n ≤ cap k → (least : ℕ) × (IsOrderFor n least × (least ≤ k))
order_by n k known room =
    elim (leb_tells n 8) [
      | inl small ↦ (0, (record { known = omega arith; room = small.1; least = λ j _ has. omega arith }, omega arith))
      | inr past_8 ↦ elim (leb_tells n 16) [
        | inl small ↦ (1, (record { known = omega arith; room = small.1; least = λ j _ has. let over = past_8.1 in grind (arith, nat_tests) }, let over = past_8.1 in grind (arith, nat_tests)))
        | inr past_16 ↦
            let over = past_16.1 in
            let within : n ≤ 32 = grind (arith, nat_tests) in
            (2, (record { known = omega arith; room = within; least = λ j _ has. grind (arith, nat_tests) }, grind (arith, nat_tests)))
      ]
    ]

order_at_most : (k x t j y s : ℕ) → IsAtMost k x t j y s → k ≤ j
order_at_most k x t j y s (inl less) = omega arith
order_at_most k x t j y s (inr same) = omega (arith, same.0)

least_by : (sizes : List (Option ℕ)) (order target exceptions : ℕ) → IsLeastPacked 32 sizes order target exceptions → IsLeast sizes order target
least_by sizes order target exceptions is = record {
  order_in = is.is_order.known;
  is_target = is.is_target;
  rooms = is.is_order.room;
  least = λ k t known is_target room.
      let found = order_by (chunks_of sizes t) k known room in
      omega (arith, found.1.1, order_at_most order exceptions target found.0 (exceptions_of sizes t) t (is.least found.0 t is_target found.1.0));
}

plan_is : (codec : Codec) (lines : List (List ℕ)) (plan : PagePlan) → plan_of codec lines ≡ plan → IsPlan codec lines plan
plan_is codec lines plan e = subst (IsPlan codec lines) e (IsPlan-plan_of codec lines)

pub least_of : (codec : Codec) (lines : List (List ℕ)) (order target exceptions : ℕ) → plan_of codec lines ≡ plans.Packed order target exceptions
    → IsLeast (stored_sizes codec lines) order target
least_of codec lines order target exceptions e = least_by (stored_sizes codec lines) order target exceptions (plan_is codec lines (plans.Packed order target exceptions) e).1

-- the plan is Zero exactly where all lines are zero
pub zero_plan : (codec : Codec) (lines : List (List ℕ)) → plan_of codec lines ≡ plans.Zero → IsZeroPage lines
zero_plan codec lines e = plan_is codec lines plans.Zero e

pub zeros_plan : (codec : Codec) (lines : List (List ℕ)) → IsZeroPage lines → plan_of codec lines ≡ plans.Zero
zeros_plan codec lines zeros = sym (only_plan codec lines plans.Zero zeros)

pub large_target : (slots : Slots) (size : ℕ) → HoldsSlots slots size → IsTarget (form_of slots).large
large_target (Packed order target) size holds = holds.targets
large_target (Mid order small large at) size holds = holds.targets.1.0

-- a page in slots has room for its lines with slots of its larger length
pub own_room : (codec : Codec) (slots : Slots) (bytes : List ℕ) → IsSlotted codec slots bytes → chunks_of (sizes_of codec slots bytes) (form_of slots).large ≤ cap (order_of slots)
own_room codec slots bytes sound = slotted_room codec slots bytes sound

-- so its plan wants no larger block
pub order_le : (codec : Codec) (slots : Slots) (bytes : List ℕ) (order goal : ℕ) → IsSlotted codec slots bytes → IsLeast (sizes_of codec slots bytes) order goal → order ≤ order_of slots
order_le codec slots bytes order goal sound least =
    least.least (order_of slots) (form_of slots).large sound.holds.order_in (large_target slots _ sound.holds) (own_room codec slots bytes sound)

-- and is packed, or Zero
pub not_raw : (codec : Codec) (slots : Slots) (bytes : List ℕ) → IsSlotted codec slots bytes → plan_of codec (content_of (shapes.Slotted slots) bytes) ≡ plans.Raw → ⊥
not_raw codec slots bytes sound e =
    let is = plan_is codec (content_of (shapes.Slotted slots) bytes) plans.Raw e in
    let found = order_by (chunks_of (sizes_of codec slots bytes) (form_of slots).large) (order_of slots) sound.holds.order_in (own_room codec slots bytes sound) in
    is.1 found.0 (form_of slots).large (large_target slots _ sound.holds) found.1.0

fits_by : (codec : Codec) (slots : Slots) (bytes : List ℕ) (plan : PagePlan) → IsSlotted codec slots bytes → plan_of codec (content_of (shapes.Slotted slots) bytes) ≡ plan
    → FitsBlock (shapes.Slotted slots) plan
fits_by codec slots bytes plans.Zero sound e = tt
fits_by codec slots bytes (plans.Packed order target exceptions) sound e =
    order_le codec slots bytes order target sound (least_of codec (content_of (shapes.Slotted slots) bytes) order target exceptions e)
fits_by codec slots bytes plans.Raw sound e = not_raw codec slots bytes sound e

-- the plan wants no larger block than a sound page has
pub fits_block : (codec : Codec) (shape : Shape) (bytes : List ℕ) → IsSound codec shape bytes → FitsBlock shape (plan_of codec (content_of shape bytes))
fits_block codec shapes.Zero bytes sound = tt
fits_block codec shapes.Raw bytes sound = tt
fits_block codec (shapes.Slotted slots) bytes sound = fits_by codec slots bytes (plan_of codec (content_of (shapes.Slotted slots) bytes)) sound refl
