-- A page in the front of more bytes than its own.
use Rattle.std.proofs.Common.{◌≡◌, ℕ, ◌≤◌, refl, ap, ◌∙◌, sym, subst, arith, List, ◌++◌, length, take}
use Rattle.std.proofs.lemmas.List.{take-append-le, length-take}
use Rattle.hier_types.specs.declared.settings.Codec.{Codec}
use Rattle.byte_parts.specs.Parts.{part}
use Rattle.page_plan.specs.declared.least.PagePlan.{PagePlan}
use Rattle.page_plan.specs.declared.least.PagePlan.TheVariants as plans
use Rattle.page_plan.specs.KeptSizes.{kept_sizes}
use Rattle.page_plan.specs.PagePlan.{plan_of}
use Rattle.page_slots.specs.declared.desc.Shape.{Shape}
use Rattle.page_slots.specs.declared.desc.Shape.TheVariants.{Zero, Slotted}
use Rattle.page_slots.specs.declared.desc.Slots.TheVariants.{Packed}
use Rattle.page_slots.specs.Descs.{content_of, size_of}
use Rattle.page_slots.specs.Laid.{HasRoomFor}
use Rattle.page_slots.specs.Sound.{IsSound}
use Rattle.page_slots.proofs.ContentLemmas.{size_sound}
use Rattle.page_mover.specs.Moves.{body, Keeps}
use Rattle.page_mover.specs.Turns.{IsMeasured}
use Rattle.page_mover.proofs.KeepLemmas.{body_all}
use Rattle.page_mover.proofs.PlanLemmas.{least_of, zero_plan}

part_take : (n : ℕ) (bytes : List ℕ) → part 0 n bytes ≡ take n bytes
unfolding part
part_take n bytes = refl

pub body_take : (shape : Shape) (n : ℕ) (bytes : List ℕ) → n ≡ size_of shape → body shape bytes ≡ take n bytes
body_take shape n bytes e = part_take (size_of shape) bytes ∙ ap (λ (m : ℕ). take m bytes) (sym e)

-- the front is the page
pub sound_take : (codec : Codec) (shape : Shape) (n : ℕ) (bytes : List ℕ) → n ≡ size_of shape → IsSound codec shape (body shape bytes) → IsSound codec shape (take n bytes)
sound_take codec shape n bytes e sound = subst (IsSound codec shape) (body_take shape n bytes e) sound

size_in : (codec : Codec) (shape : Shape) (bytes : List ℕ) → IsSound codec shape (body shape bytes) → size_of shape ≤ length bytes
size_in codec shape bytes sound =
    let same : length (take (size_of shape) bytes) ≡ size_of shape = sym (ap length (part_take (size_of shape) bytes)) ∙ size_sound codec shape (body shape bytes) sound in
    omega (arith, length-take (size_of shape) bytes)

-- whatever stands behind it
body_front : (codec : Codec) (shape : Shape) (front rest : List ℕ) → IsSound codec shape (body shape front) → body shape (front ++ rest) ≡ body shape front
body_front codec shape front rest sound =
    part_take (size_of shape) (front ++ rest) ∙ take-append-le (size_of shape) front rest (size_in codec shape front sound) ∙ sym (part_take (size_of shape) front)

pub sound_front : (codec : Codec) (shape : Shape) (front rest : List ℕ) → IsSound codec shape (body shape front) → IsSound codec shape (body shape (front ++ rest))
sound_front codec shape front rest sound = subst (IsSound codec shape) (sym (body_front codec shape front rest sound)) sound

pub sound_whole : (codec : Codec) (shape : Shape) (front rest : List ℕ) → IsSound codec shape front → IsSound codec shape (body shape (front ++ rest))
sound_whole codec shape front rest sound = sound_front codec shape front rest (subst (IsSound codec shape) (sym (body_all codec shape front sound)) sound)

-- the page in the front has its plan and its sizes
pub measured_take : (codec : Codec) (shape : Shape) (n : ℕ) (bytes : List ℕ) (plan : PagePlan) (sizes : List ℕ) → n ≡ size_of shape → IsMeasured codec shape (body shape bytes) plan sizes
    → IsMeasured codec shape (take n bytes) plan sizes
measured_take codec shape n bytes plan sizes e measured = subst (λ (b : List ℕ). IsMeasured codec shape b plan sizes) (body_take shape n bytes e) measured

-- and so has the page after a turn
pub measured_next : (codec : Codec) (shape next : Shape) (old front rest : List ℕ) (plan : PagePlan) (sizes : List ℕ) → IsMeasured codec shape old plan sizes
    → Keeps codec (content_of shape old) next front → IsMeasured codec next (body next (front ++ rest)) plan sizes
measured_next codec shape next old front rest plan sizes measured keeps =
    let whole : IsMeasured codec next (body next front) plan sizes = record {
      sound = keeps.sound;
      plan_is = measured.plan_is ∙ ap (plan_of codec) (sym keeps.content);
      sizes_are = measured.sizes_are ∙ ap (kept_sizes codec) (sym keeps.content);
    } in
    subst (λ (b : List ℕ). IsMeasured codec next b plan sizes) (sym (body_front codec next front rest keeps.sound)) whole

-- a block of a packed plan has room for the lines
pub packed_room : (codec : Codec) (lines : List (List ℕ)) (plan : PagePlan) (shape : Shape) (order target exceptions : ℕ) → plan ≡ plans.Packed order target exceptions → plan ≡ plan_of codec lines
    → shape ≡ Slotted (Packed order target) → HasRoomFor codec shape lines (size_of shape)
packed_room codec lines plan shape order target exceptions e is f =
    let least = least_of codec lines order target exceptions (sym is ∙ e) in
    rw f ((least.order_in, refl), (least.is_target, least.rooms))

pub zeros_room : (codec : Codec) (lines : List (List ℕ)) (plan : PagePlan) → plan ≡ plans.Zero → plan ≡ plan_of codec lines → HasRoomFor codec Zero lines 0
zeros_room codec lines plan e is = (refl, zero_plan codec lines (sym is ∙ e))
