-- The turn and the distance of a page, by the numbers that the code has counted.
use Rattle.std.proofs.Common.{◌≡◌, ℕ, ◌+◌, ◌-◌, Bool, true, false, ap, ◌∙◌, sym, subst, List, Option, cond, min, max}
use Rattle.hier_types.specs.declared.settings.Codec.{Codec}
use Rattle.line_codec.specs.Layout.{IsTarget, cap, exceptions_of}
use Rattle.page_plan.specs.declared.least.PagePlan.{PagePlan}
use Rattle.page_plan.specs.declared.least.PagePlan.TheVariants as plans
use Rattle.page_plan.specs.PagePlan.{IsPlan, plan_of}
use Rattle.page_plan.proofs.PlanLemmas.{IsPlan-plan_of}
use Rattle.page_slots.specs.declared.desc.Slots.{Slots}
use Rattle.page_slots.specs.declared.desc.Slots.TheVariants.{Packed, Mid}
use Rattle.page_slots.specs.Chunks.{count_in}
use Rattle.page_mover.specs.declared.turning.Turn.{Turn}
use Rattle.page_mover.specs.declared.turning.Turn.TheVariants.{Down, Up}
use Rattle.page_mover.specs.Turns.{goes_down, packed_turn, slots_turn}
use Rattle.page_mover.specs.Far.{rest, slots_far}

-- the target of a packed plan is one
pub goal_is : (codec : Codec) (lines : List (List ℕ)) (plan : PagePlan) (order goal exceptions : ℕ) → plan ≡ plans.Packed order goal exceptions → plan ≡ plan_of codec lines → IsTarget goal
goal_is codec lines plan order goal exceptions e is = (subst (IsPlan codec lines) (sym is ∙ e) (IsPlan-plan_of codec lines)).1.is_target

pub packed_is : (sizes : List (Option ℕ)) (slots : Slots) (order target plan_order goal least greatest x low high outside below : ℕ) (bytes : List ℕ) (turn : Turn) → slots ≡ Packed order target
    → least ≡ min target goal → greatest ≡ max target goal → x ≡ exceptions_of sizes least → low ≡ cap plan_order → high ≡ cap order
    → outside ≡ count_in low high bytes 64 → below ≡ count_in 0 (1 + goal) bytes 64
    → turn ≡ packed_turn order target plan_order goal (1 + greatest + x) outside below → turn ≡ slots_turn sizes slots bytes plan_order goal
packed_is sizes slots order target plan_order goal least greatest x low high outside below bytes turn is e f count g h count' count'' made =
    let need : 1 + greatest + x ≡ 1 + max target goal + exceptions_of sizes (min target goal) =
    ap (λ (n : ℕ). 1 + n + x) f ∙ ap (λ (n : ℕ). 1 + max target goal + n) (count ∙ ap (exceptions_of sizes) e) in
    let over : outside ≡ count_in (cap plan_order) (cap order) bytes 64 = count' ∙ ap (λ (n : ℕ). count_in n high bytes 64) g ∙ ap (λ (n : ℕ). count_in (cap plan_order) n bytes 64) h in
    rw is (made ∙ ap (λ (n : ℕ). packed_turn order target plan_order goal n outside below) need
    ∙ ap (λ (n : ℕ). packed_turn order target plan_order goal (1 + max target goal + exceptions_of sizes (min target goal)) n below) over
    ∙ ap (packed_turn order target plan_order goal (1 + max target goal + exceptions_of sizes (min target goal)) (count_in (cap plan_order) (cap order) bytes 64)) count'')

pub down_is : (sizes : List (Option ℕ)) (slots : Slots) (order small large at x plan_order goal : ℕ) (bytes : List ℕ) → slots ≡ Mid order small large at → x ≡ exceptions_of sizes small
    → goes_down order small large x goal ≡ true → Down small ≡ slots_turn sizes slots bytes plan_order goal
down_is sizes slots order small large at x plan_order goal bytes is count down = rw is (sym (ap (λ (b : Bool). cond b (Down small) (Up large)) (rw count at down)))

pub up_is : (sizes : List (Option ℕ)) (slots : Slots) (order small large at x plan_order goal : ℕ) (bytes : List ℕ) → slots ≡ Mid order small large at → x ≡ exceptions_of sizes small
    → goes_down order small large x goal ≡ false → Up large ≡ slots_turn sizes slots bytes plan_order goal
up_is sizes slots order small large at x plan_order goal bytes is count down = rw is (sym (ap (λ (b : Bool). cond b (Down small) (Up large)) (rw count at down)))

pub down_far : (sizes : List (Option ℕ)) (slots : Slots) (order small large at x plan_order goal left : ℕ) (bytes : List ℕ) → slots ≡ Mid order small large at → x ≡ exceptions_of sizes small
    → goes_down order small large x goal ≡ true → left ≡ rest goal small → 64 - at + left ≡ slots_far sizes slots bytes plan_order goal
down_far sizes slots order small large at x plan_order goal left bytes is count down e =
    rw (is, e) (sym (ap (λ (b : Bool). cond b (64 - at + rest goal small) (at + rest goal large)) (rw count at down)))

pub up_far : (sizes : List (Option ℕ)) (slots : Slots) (order small large at x plan_order goal left : ℕ) (bytes : List ℕ) → slots ≡ Mid order small large at → x ≡ exceptions_of sizes small
    → goes_down order small large x goal ≡ false → left ≡ rest goal large → at + left ≡ slots_far sizes slots bytes plan_order goal
up_far sizes slots order small large at x plan_order goal left bytes is count down e =
    rw (is, e) (sym (ap (λ (b : Bool). cond b (64 - at + rest goal small) (at + rest goal large)) (rw count at down)))
