-- What a turn that was told has at hand, by the page alone.
use Rattle.std.proofs.Common.{◌≡◌, ◌≢◌, ℕ, ◌+◌, ◌≤◌, ◌⊎◌, inl, inr, refl, ap, ◌∙◌, sym, subst, arith, List, Option, length}
use Rattle.hier_types.specs.declared.settings.Codec.{Codec}
use Rattle.line_codec.specs.Layout.{cap, stored_sizes, exceptions_of}
use Rattle.page_plan.specs.declared.least.PagePlan.{PagePlan}
use Rattle.page_plan.specs.declared.least.PagePlan.TheVariants as plans
use Rattle.page_plan.specs.PagePlan.{IsZeroPage, plan_of}
use Rattle.page_slots.specs.declared.desc.Shape.{Shape}
use Rattle.page_slots.specs.declared.desc.Shape.TheVariants as shapes
use Rattle.page_slots.specs.declared.desc.Slots.{Slots}
use Rattle.page_slots.specs.Descs.{content_of}
use Rattle.page_slots.specs.Forms.{form_of, order_of}
use Rattle.page_slots.specs.Moves.{CanMoveDown, CanMoveUp, CanHoist}
use Rattle.page_slots.specs.Sound.{IsSlotted, IsSound}
use Rattle.page_slots.proofs.FormLemmas.{cap_few}
use Rattle.page_mover.specs.declared.turning.Turn.{Turn}
use Rattle.page_mover.specs.declared.turning.Turn.TheVariants.{Next, Zero, Rewrite, Down, Up, Hoist, Halve}
use Rattle.page_mover.specs.Moves.{CanHalve, MakesTurn}
use Rattle.page_mover.specs.Turns.{slots_turn, turn_by, turn_of}
use Rattle.page_mover.proofs.KeepLemmas.{keeps_whole}
use Rattle.page_mover.proofs.PlanLemmas.{least_of, not_raw, sizes_of, zero_plan}
use Rattle.page_mover.proofs.RowLemmas.{CanRewrite, HasPlan, own_sizes, down_can, up_can, hoist_can, halve_can, rewrite_can, rewrite_is, not_zero_row}

-- the page in slots has a packed plan, and the turn is the row's
pub record Planned (codec : Codec) (slots : Slots) (bytes : List ℕ) (turn : Turn) : Type 0 where
  pub order : ℕ
  pub goal : ℕ
  pub exceptions : ℕ
  pub plan_is : plan_of codec (content_of (shapes.Slotted slots) bytes) ≡ plans.Packed order goal exceptions
  pub has : HasPlan codec (sizes_of codec slots bytes) slots bytes order goal
  pub told : turn ≡ slots_turn (sizes_of codec slots bytes) slots bytes order goal

-- all lines are zero, or the plan is packed
pub planned : (codec : Codec) (slots : Slots) (bytes : List ℕ) (turn : Turn) → IsSlotted codec slots bytes → turn ≡ turn_of codec (shapes.Slotted slots) bytes
    → ((turn ≡ Zero) × IsZeroPage (content_of (shapes.Slotted slots) bytes)) ⊎ Planned codec slots bytes turn
planned codec slots bytes turn sound is = go (plan_of codec (content_of (shapes.Slotted slots) bytes)) refl
  where
    go : (plan : PagePlan) → plan_of codec (content_of (shapes.Slotted slots) bytes) ≡ plan
        → ((turn ≡ Zero) × IsZeroPage (content_of (shapes.Slotted slots) bytes)) ⊎ Planned codec slots bytes turn
    go plans.Zero e = inl (is ∙ ap (turn_by (sizes_of codec slots bytes) (shapes.Slotted slots) bytes) e, zero_plan codec (content_of (shapes.Slotted slots) bytes) e)
    go plans.Raw e = absurd (not_raw codec slots bytes sound e)
    go (plans.Packed order goal exceptions) e = inr (record {
      order = order;
      goal = goal;
      exceptions = exceptions;
      plan_is = e;
      has = own_sizes codec slots bytes order goal sound (least_of codec (content_of (shapes.Slotted slots) bytes) order goal exceptions e);
      told = is ∙ ap (turn_by (sizes_of codec slots bytes) (shapes.Slotted slots) bytes) e;
    })

pub down_needs : (codec : Codec) (slots : Slots) (bytes : List ℕ) (small : ℕ) → IsSlotted codec slots bytes → Down small ≡ turn_of codec (shapes.Slotted slots) bytes
    → CanMoveDown slots small × (1 + (form_of slots).large + exceptions_of (sizes_of codec slots bytes) small ≤ cap (order_of slots))
down_needs codec slots bytes small sound is = elim (planned codec slots bytes (Down small) sound is) [
  | inl zero ↦ let e : Down small ≡ Zero = zero.0 in cc
  | inr p ↦ down_can codec (sizes_of codec slots bytes) slots bytes p.order p.goal small p.has p.told
]

pub up_needs : (codec : Codec) (slots : Slots) (bytes : List ℕ) (large : ℕ) → IsSlotted codec slots bytes → Up large ≡ turn_of codec (shapes.Slotted slots) bytes → CanMoveUp slots large bytes
up_needs codec slots bytes large sound is = elim (planned codec slots bytes (Up large) sound is) [
  | inl zero ↦ let e : Up large ≡ Zero = zero.0 in cc
  | inr p ↦ up_can codec (sizes_of codec slots bytes) slots bytes p.order p.goal large p.has p.told
]

pub hoist_needs : (codec : Codec) (slots : Slots) (bytes : List ℕ) (low high above : ℕ) → IsSlotted codec slots bytes → Hoist low high above ≡ turn_of codec (shapes.Slotted slots) bytes
    → CanHoist (form_of slots) low high above bytes
hoist_needs codec slots bytes low high above sound is = elim (planned codec slots bytes (Hoist low high above) sound is) [
  | inl zero ↦ let e : Hoist low high above ≡ Zero = zero.0 in cc
  | inr p ↦ hoist_can codec (sizes_of codec slots bytes) slots bytes p.order p.goal low high above p.has p.told
]

pub halve_needs : (codec : Codec) (slots : Slots) (bytes : List ℕ) → IsSlotted codec slots bytes → Halve ≡ turn_of codec (shapes.Slotted slots) bytes → CanHalve slots bytes
halve_needs codec slots bytes sound is = elim (planned codec slots bytes Halve sound is) [
  | inl zero ↦ let e : Halve ≡ Zero = zero.0 in cc
  | inr p ↦ halve_can codec (sizes_of codec slots bytes) slots bytes p.order p.goal p.has p.told
]

pub rewrite_needs : (codec : Codec) (slots : Slots) (bytes : List ℕ) (order target : ℕ) → IsSlotted codec slots bytes → Rewrite order target ≡ turn_of codec (shapes.Slotted slots) bytes
    → CanRewrite (sizes_of codec slots bytes) order target (length bytes)
rewrite_needs codec slots bytes order target sound is = elim (planned codec slots bytes (Rewrite order target) sound is) [
  | inl zero ↦ let e : Rewrite order target ≡ Zero = zero.0 in cc
  | inr p ↦ rewrite_can codec (sizes_of codec slots bytes) slots bytes p.order p.goal order target p.has p.told
]

pub zero_needs : (codec : Codec) (slots : Slots) (bytes : List ℕ) → IsSlotted codec slots bytes → Zero ≡ turn_of codec (shapes.Slotted slots) bytes → IsZeroPage (content_of (shapes.Slotted slots) bytes)
zero_needs codec slots bytes sound is = elim (planned codec slots bytes Zero sound is) [
  | inl zero ↦ zero.1
  | inr p ↦ absurd (not_zero_row codec (sizes_of codec slots bytes) slots bytes p.order p.goal p.has p.told)
]

-- the turn of a page whose lines stand one after another
pub data RawTurn (codec : Codec) (bytes : List ℕ) (turn : Turn) : Type 0 where
  raw_zero : turn ≡ Zero → IsZeroPage (content_of shapes.Raw bytes) → RawTurn codec bytes turn
  raw_next : turn ≡ Next → RawTurn codec bytes turn
  raw_rewrite : (order target : ℕ) → turn ≡ Rewrite order target → CanRewrite (stored_sizes codec (content_of shapes.Raw bytes)) order target 4096 → RawTurn codec bytes turn

pub raw_turn : (codec : Codec) (bytes : List ℕ) (turn : Turn) → turn ≡ turn_of codec shapes.Raw bytes → RawTurn codec bytes turn
raw_turn codec bytes turn is = go (plan_of codec (content_of shapes.Raw bytes)) refl
  where
    sizes : List (Option ℕ)
    sizes = stored_sizes codec (content_of shapes.Raw bytes)

    go : (plan : PagePlan) → plan_of codec (content_of shapes.Raw bytes) ≡ plan → RawTurn codec bytes turn
    go plans.Zero e = raw_zero (is ∙ ap (turn_by sizes shapes.Raw bytes) e) (zero_plan codec (content_of shapes.Raw bytes) e)
    go plans.Raw e = raw_next (is ∙ ap (turn_by sizes shapes.Raw bytes) e)
    go (plans.Packed order goal exceptions) e =
        let least = least_of codec (content_of shapes.Raw bytes) order goal exceptions e in
        raw_rewrite order goal (is ∙ ap (turn_by sizes shapes.Raw bytes) e)
        (record { order_in = least.order_in; is_target = least.is_target; room = least.rooms; size_in = omega (arith, cap_few order) })

pub raw_rewrite_needs : (codec : Codec) (bytes : List ℕ) (order target : ℕ) → Rewrite order target ≡ turn_of codec shapes.Raw bytes
    → CanRewrite (stored_sizes codec (content_of shapes.Raw bytes)) order target 4096
raw_rewrite_needs codec bytes order target is = elim (raw_turn codec bytes (Rewrite order target) is) [
  | raw_zero e zeros ↦ cc
  | raw_next e ↦ cc
  | raw_rewrite order' target' e can ↦
      let parts = rewrite_is order' target' order target (sym e) in
      subst (λ (t : ℕ). CanRewrite (stored_sizes codec (content_of shapes.Raw bytes)) order t 4096) parts.1
      (subst (λ (k : ℕ). CanRewrite (stored_sizes codec (content_of shapes.Raw bytes)) k target' 4096) parts.0 can)
]

pub raw_zero_needs : (codec : Codec) (bytes : List ℕ) → Zero ≡ turn_of codec shapes.Raw bytes → IsZeroPage (content_of shapes.Raw bytes)
raw_zero_needs codec bytes is = elim (raw_turn codec bytes Zero is) [ raw_zero e zeros ↦ zeros | raw_next e ↦ cc | raw_rewrite order target e can ↦ cc ]

-- no other turn is told
pub raw_else : (codec : Codec) (bytes : List ℕ) (turn : Turn) → turn ≡ turn_of codec shapes.Raw bytes → turn ≢ Zero → ((order target : ℕ) → turn ≢ Rewrite order target) → turn ≡ Next
raw_else codec bytes turn is not_zero not_rewrite = elim (raw_turn codec bytes turn is) [
  | raw_zero e zeros ↦ absurd (not_zero e)
  | raw_next e ↦ e
  | raw_rewrite order target e can ↦ absurd (not_rewrite order target e)
]

-- nothing is done to a page of zeros
pub zeros_stay : (codec : Codec) (shape : Shape) (turn : Turn) (bytes : List ℕ) → shape ≡ shapes.Zero → IsSound codec shape bytes → turn ≡ turn_of codec shape bytes
    → MakesTurn codec shape bytes turn shapes.Zero bytes
zeros_stay codec shape turn bytes e sound is =
    let next : turn ≡ Next = is ∙ ap (λ (s : Shape). turn_of codec s bytes) e in
    let sound' : IsSound codec shapes.Zero bytes = subst (λ (s : Shape). IsSound codec s bytes) e sound in
    rw (e, next) (record { row = refl; makes = (refl, refl); keeps = keeps_whole codec (content_of shapes.Zero bytes) shapes.Zero bytes sound' refl })
