-- Turns of a page by its descriptor.
use Rattle.std.proofs.Common.{◌≡◌, ◌≢◌, ◌↔◌, ℕ, ◌+◌, ◌-◌, ◌*◌, ◌<◌, ◌==◌, Bool, true, false, cond, refl, ap, ◌∙◌, sym, subst, List, Some, length}
use Rattle.buddy_frames.specs.Units.{Place}
use Rattle.hier_types.specs.declared.settings.Codec.{Codec}
use Rattle.page_plan.specs.PagePlan.{plan_of}
use Rattle.page_slots.specs.declared.desc.Desc.{Desc}
use Rattle.page_slots.specs.declared.desc.Desc.TheVariants as descs
use Rattle.page_slots.specs.declared.desc.Shape.{Shape}
use Rattle.page_slots.specs.declared.desc.Shape.TheVariants as shapes
use Rattle.page_slots.specs.declared.desc.Slots.{Slots}
use Rattle.page_slots.specs.declared.desc.Slots.TheVariants.{Packed, Mid}
use Rattle.page_slots.specs.Descs.{block_of, content_of, shape_of, size_of}
use Rattle.page_slots.specs.Forms.{order_of}
use Rattle.page_slots.specs.Moves.{moved_down, moved_up}
use Rattle.page_slots.specs.Sound.{IsSound}
use Rattle.page_slots.proofs.ContentLemmas.{size_sound}
use Rattle.page_slots.proofs.FormLemmas.{chunks_are}
use Rattle.line_codec.specs.Layout.{cap}
use Rattle.page_mover.specs.declared.turning.Turn.{Turn}
use Rattle.page_mover.specs.declared.turning.Turn.TheVariants.{Next, Zero, Rewrite, Down, Up, Hoist, Halve}
use Rattle.page_mover.specs.declared.turning.TurnKind.{TurnKind}
use Rattle.page_mover.specs.declared.turning.TurnKind.TheVariants as kinds
use Rattle.page_mover.specs.Moves.{body, Keeps, Makes}
use Rattle.page_mover.specs.Far.{far_of, is_at_plan}
use Rattle.page_mover.specs.Turns.{kind_of, turn_of}
use Rattle.page_mover.proofs.FallLemmas.{next_far, far_zero}
use Rattle.page_mover.proofs.KeepLemmas.{part_all}

pub next_kind : (turn : Turn) → kind_of turn ≡ kinds.Next ↔ turn ≡ Next
next_kind Next = (λ e. refl, λ e. refl)
next_kind Zero = (λ e. cc, λ e. cc)
next_kind (Rewrite order target) = (λ e. cc, λ e. cc)
next_kind (Down small) = (λ e. cc, λ e. cc)
next_kind (Up large) = (λ e. cc, λ e. cc)
next_kind (Hoist low high above) = (λ e. cc, λ e. cc)
next_kind Halve = (λ e. cc, λ e. cc)

down_order : (slots : Slots) (small : ℕ) → order_of (moved_down slots small) ≡ order_of slots
down_order (Packed order target) small = refl
down_order (Mid order s large at) small = by (at == 63)
  where
    by : (last : Bool) → order_of (cond last (Packed order small) (Mid order small large (at + 1))) ≡ order
    by true = refl
    by false = refl

up_order : (slots : Slots) (large : ℕ) → order_of (moved_up slots large) ≡ order_of slots
up_order (Packed order target) large = refl
up_order (Mid order small l at) large = by (at == 1)
  where
    by : (first : Bool) → order_of (cond first (Packed order large) (Mid order small large (at - 1))) ≡ order
    by true = refl
    by false = refl

-- a shift leaves the page in its block
shift_order : (codec : Codec) (slots next : Slots) (turn : Turn) (old new : List ℕ) → kind_of turn ≡ kinds.Shift → Makes codec (shapes.Slotted slots) old turn (shapes.Slotted next) new → order_of next ≡ order_of slots
shift_order codec slots next Next old new told makes = cc
shift_order codec slots next Zero old new told makes = cc
shift_order codec slots next (Rewrite order target) old new told makes = cc
shift_order codec slots next (Down small) old new told makes =
    let e : next ≡ moved_down slots small = let same = makes.0 in cc in
    ap order_of e ∙ down_order slots small
shift_order codec slots next (Up large) old new told makes =
    let e : next ≡ moved_up slots large = let same = makes.0 in cc in
    ap order_of e ∙ up_order slots large
shift_order codec slots next (Hoist low high above) old new told makes = cc
shift_order codec slots next Halve old new told makes = cc

not_shifted : (codec : Codec) (shape next : Shape) (turn : Turn) (old new : List ℕ) → ((slots : Slots) → shape ≡ shapes.Slotted slots → ⊥) → kind_of turn ≡ kinds.Shift → Makes codec shape old turn next new → ⊥
not_shifted codec shapes.Zero next (Down small) old new other told makes = makes
not_shifted codec shapes.Zero next (Up large) old new other told makes = makes
not_shifted codec shapes.Raw next (Down small) old new other told makes = makes
not_shifted codec shapes.Raw next (Up large) old new other told makes = makes
not_shifted codec (shapes.Slotted slots) next turn old new other told makes = other slots refl
not_shifted codec shape next Next old new other told makes = cc
not_shifted codec shape next Zero old new other told makes = cc
not_shifted codec shape next (Rewrite order target) old new other told makes = cc
not_shifted codec shape next (Hoist low high above) old new other told makes = cc
not_shifted codec shape next Halve old new other told makes = cc

pub shift_block : (codec : Codec) (desc : Desc) (slots : Slots) (turn : Turn) (old new : List ℕ) → kind_of turn ≡ kinds.Shift → Makes codec (shape_of desc) old turn (shapes.Slotted slots) new
    → (block : Place) × ((block_of desc ≡ Some block) × (block.order ≡ order_of slots))
shift_block codec descs.Zero slots turn old new told makes = absurd (not_shifted codec shapes.Zero (shapes.Slotted slots) turn old new (λ s e. cc) told makes)
shift_block codec (descs.Raw block) slots turn old new told makes = absurd (not_shifted codec shapes.Raw (shapes.Slotted slots) turn old new (λ s e. cc) told makes)
shift_block codec (descs.Packed block target) slots turn old new told makes =
    (block, (refl, sym (shift_order codec (Packed block.order target) slots turn old new told makes)))
shift_block codec (descs.Mid block small large at) slots turn old new told makes =
    (block, (refl, sym (shift_order codec (Mid block.order small large at) slots turn old new told makes)))

-- where a page keeps its bytes, all of the block are its own
body_same : (codec : Codec) (shape : Shape) (old new : List ℕ) → IsSound codec shape old → length new ≡ length old → body shape new ≡ new
body_same codec shape old new sound same = part_all (size_of shape) new (same ∙ size_sound codec shape old sound)

shift_body : (codec : Codec) (shape : Shape) (slots : Slots) (turn : Turn) (old new : List ℕ) → IsSound codec shape old → length new ≡ length old → kind_of turn ≡ kinds.Shift
    → Makes codec shape old turn (shapes.Slotted slots) new → body (shapes.Slotted slots) new ≡ new
shift_body codec shapes.Zero slots turn old new sound same told makes = absurd (not_shifted codec shapes.Zero (shapes.Slotted slots) turn old new (λ s e. cc) told makes)
shift_body codec shapes.Raw slots turn old new sound same told makes = absurd (not_shifted codec shapes.Raw (shapes.Slotted slots) turn old new (λ s e. cc) told makes)
shift_body codec (shapes.Slotted own) slots turn old new sound same told makes =
    let order = shift_order codec own slots turn old new told makes in
    part_all (size_of (shapes.Slotted slots)) new
    (same ∙ size_sound codec (shapes.Slotted own) old sound ∙ ap (λ (n : ℕ). 64 * n) (chunks_are own ∙ ap cap (sym order) ∙ sym (chunks_are slots)))

-- a hoist leaves the shape
hoist_shape : (codec : Codec) (shape next : Shape) (turn : Turn) (old new : List ℕ) → kind_of turn ≡ kinds.Hoist → Makes codec shape old turn next new → next ≡ shape
hoist_shape codec shapes.Zero next (Hoist low high above) old new told makes = absurd makes
hoist_shape codec shapes.Raw next (Hoist low high above) old new told makes = absurd makes
hoist_shape codec (shapes.Slotted slots) next (Hoist low high above) old new told makes = makes.0
hoist_shape codec shape next Next old new told makes = cc
hoist_shape codec shape next Zero old new told makes = cc
hoist_shape codec shape next (Rewrite order target) old new told makes = cc
hoist_shape codec shape next (Down small) old new told makes = cc
hoist_shape codec shape next (Up large) old new told makes = cc
hoist_shape codec shape next Halve old new told makes = cc

-- the kind of the turn is Next exactly at the plan
pub kind_next : (codec : Codec) (shape : Shape) (bytes : List ℕ) (kind : TurnKind) → IsSound codec shape bytes → kind ≡ kind_of (turn_of codec shape bytes)
    → kind ≡ kinds.Next ↔ (far_of codec shape bytes ≡ 0)
kind_next codec shape bytes kind sound is =
    let told = next_kind (turn_of codec shape bytes) in
    let far = next_far codec shape bytes sound in
    (λ e. far.0 (told.0 (sym is ∙ e)), λ e. is ∙ told.1 (far.1 e))

pub kind_at_plan : (codec : Codec) (shape : Shape) (bytes : List ℕ) (kind : TurnKind) → IsSound codec shape bytes → kind ≡ kind_of (turn_of codec shape bytes)
    → kind ≡ kinds.Next ↔ (is_at_plan shape (plan_of codec (content_of shape bytes)) ≡ true)
kind_at_plan codec shape bytes kind sound is =
    let next = kind_next codec shape bytes kind sound is in
    let zero = far_zero codec shape bytes sound in
    (λ e. zero.0 (next.0 e), λ at. next.1 (zero.1 at))

-- the page after a shift, and after a hoist, is nearer
pub shift_falls : (codec : Codec) (shape : Shape) (slots : Slots) (turn : Turn) (old new : List ℕ) → IsSound codec shape old → length new ≡ length old → kind_of turn ≡ kinds.Shift
    → Makes codec shape old turn (shapes.Slotted slots) new
    → (turn ≢ Next → far_of codec (shapes.Slotted slots) (body (shapes.Slotted slots) new) < far_of codec shape old) → far_of codec (shapes.Slotted slots) new < far_of codec shape old
shift_falls codec shape slots turn old new sound same told makes falls =
    subst (λ (b : List ℕ). far_of codec (shapes.Slotted slots) b < far_of codec shape old) (shift_body codec shape slots turn old new sound same told makes)
    (falls (λ e. let next = (next_kind turn).1 e in cc))

pub hoist_falls : (codec : Codec) (shape next : Shape) (turn : Turn) (old new : List ℕ) → IsSound codec shape old → length new ≡ length old → kind_of turn ≡ kinds.Hoist
    → Makes codec shape old turn next new → (turn ≢ Next → far_of codec next (body next new) < far_of codec shape old) → far_of codec shape new < far_of codec shape old
hoist_falls codec shape next turn old new sound same told makes falls =
    let e = hoist_shape codec shape next turn old new told makes in
    let lower : far_of codec next (body next new) < far_of codec shape old = falls (λ q. let kind = (next_kind turn).1 q in cc) in
    subst (λ (b : List ℕ). far_of codec shape b < far_of codec shape old) (body_same codec shape old new sound same)
    (subst (λ (s : Shape). far_of codec s (body s new) < far_of codec shape old) e lower)

-- the same by what a call has found
told_kind : (codec : Codec) (desc : Desc) (shape : Shape) (turn : Turn) (kind : TurnKind) (old : List ℕ) → shape ≡ shape_of desc → turn ≡ turn_of codec shape old
    → kind_of (turn_of codec (shape_of desc) old) ≡ kind → kind_of turn ≡ kind
told_kind codec desc shape turn kind old e told is = ap kind_of (told ∙ ap (λ (s : Shape). turn_of codec s old) e) ∙ is

pub shift_call_block : (codec : Codec) (desc : Desc) (shape next : Shape) (slots : Slots) (turn : Turn) (old new : List ℕ) → shape ≡ shape_of desc → turn ≡ turn_of codec shape old
    → kind_of (turn_of codec (shape_of desc) old) ≡ kinds.Shift → next ≡ shapes.Slotted slots → Makes codec shape old turn next new
    → (block : Place) × ((block_of desc ≡ Some block) × (block.order ≡ order_of slots))
shift_call_block codec desc shape next slots turn old new e told is f makes =
    shift_block codec desc slots turn old new (told_kind codec desc shape turn kinds.Shift old e told is)
    (subst (λ (s : Shape). Makes codec s old turn (shapes.Slotted slots) new) e (subst (λ (n : Shape). Makes codec shape old turn n new) f makes))

pub shift_call_falls : (codec : Codec) (desc : Desc) (shape next after : Shape) (slots : Slots) (turn : Turn) (old new : List ℕ) → shape ≡ shape_of desc → turn ≡ turn_of codec shape old
    → kind_of (turn_of codec (shape_of desc) old) ≡ kinds.Shift → next ≡ shapes.Slotted slots → after ≡ shapes.Slotted slots → IsSound codec (shape_of desc) old → length new ≡ length old
    → Makes codec shape old turn next new → (turn ≢ Next → far_of codec next (body next new) < far_of codec shape old) → far_of codec after new < far_of codec (shape_of desc) old
shift_call_falls codec desc shape next after slots turn old new e told is f g sound same makes falls =
    let moved : Makes codec shape old turn (shapes.Slotted slots) new = subst (λ (n : Shape). Makes codec shape old turn n new) f makes in
    let lower : turn ≢ Next → far_of codec (shapes.Slotted slots) (body (shapes.Slotted slots) new) < far_of codec shape old =
    subst (λ (n : Shape). turn ≢ Next → far_of codec n (body n new) < far_of codec shape old) f falls in
    let own : IsSound codec shape old = subst (λ (s : Shape). IsSound codec s old) (sym e) sound in
    subst (λ (s : Shape). far_of codec after new < far_of codec s old) e (subst (λ (s : Shape). far_of codec s new < far_of codec shape old) (sym g)
    (shift_falls codec shape slots turn old new own same (told_kind codec desc shape turn kinds.Shift old e told is) moved lower))

pub hoist_call_falls : (codec : Codec) (desc : Desc) (shape next : Shape) (turn : Turn) (old new : List ℕ) → shape ≡ shape_of desc → turn ≡ turn_of codec shape old
    → kind_of (turn_of codec (shape_of desc) old) ≡ kinds.Hoist → IsSound codec (shape_of desc) old → length new ≡ length old → Makes codec shape old turn next new
    → (turn ≢ Next → far_of codec next (body next new) < far_of codec shape old) → far_of codec (shape_of desc) new < far_of codec (shape_of desc) old
hoist_call_falls codec desc shape next turn old new e told is sound same makes falls =
    let own : IsSound codec shape old = subst (λ (s : Shape). IsSound codec s old) (sym e) sound in
    subst (λ (s : Shape). far_of codec s new < far_of codec s old) e
    (hoist_falls codec shape next turn old new own same (told_kind codec desc shape turn kinds.Hoist old e told is) makes falls)

-- and the page in its block is sound and has the same lines
pub shift_call_keeps : (codec : Codec) (desc : Desc) (shape next after : Shape) (slots : Slots) (turn : Turn) (old new : List ℕ) → shape ≡ shape_of desc → turn ≡ turn_of codec shape old
    → kind_of (turn_of codec (shape_of desc) old) ≡ kinds.Shift → next ≡ shapes.Slotted slots → after ≡ shapes.Slotted slots → IsSound codec (shape_of desc) old → length new ≡ length old
    → Makes codec shape old turn next new → Keeps codec (content_of shape old) next new → IsSound codec after new × (content_of after new ≡ content_of (shape_of desc) old)
shift_call_keeps codec desc shape next after slots turn old new e told is f g sound same makes keeps =
    let moved : Makes codec shape old turn (shapes.Slotted slots) new = subst (λ (n : Shape). Makes codec shape old turn n new) f makes in
    let kept : Keeps codec (content_of shape old) (shapes.Slotted slots) new = subst (λ (n : Shape). Keeps codec (content_of shape old) n new) f keeps in
    let own : IsSound codec shape old = subst (λ (s : Shape). IsSound codec s old) (sym e) sound in
    let whole = shift_body codec shape slots turn old new own same (told_kind codec desc shape turn kinds.Shift old e told is) moved in (
      subst (λ (s : Shape). IsSound codec s new) (sym g) (subst (IsSound codec (shapes.Slotted slots)) whole kept.sound),
      ap (λ (s : Shape). content_of s new) g ∙ ap (content_of (shapes.Slotted slots)) (sym whole) ∙ kept.content ∙ ap (λ (s : Shape). content_of s old) e,
    )

pub hoist_call_keeps : (codec : Codec) (desc : Desc) (shape next : Shape) (turn : Turn) (old new : List ℕ) → shape ≡ shape_of desc → turn ≡ turn_of codec shape old
    → kind_of (turn_of codec (shape_of desc) old) ≡ kinds.Hoist → IsSound codec (shape_of desc) old → length new ≡ length old → Makes codec shape old turn next new
    → Keeps codec (content_of shape old) next new → IsSound codec (shape_of desc) new × (content_of (shape_of desc) new ≡ content_of (shape_of desc) old)
hoist_call_keeps codec desc shape next turn old new e told is sound same makes keeps =
    let stays : next ≡ shape_of desc = hoist_shape codec shape next turn old new (told_kind codec desc shape turn kinds.Hoist old e told is) makes ∙ e in
    let kept : Keeps codec (content_of shape old) (shape_of desc) new = subst (λ (n : Shape). Keeps codec (content_of shape old) n new) stays keeps in
    let whole = body_same codec (shape_of desc) old new sound same in (
      subst (IsSound codec (shape_of desc)) whole kept.sound,
      ap (content_of (shape_of desc)) (sym whole) ∙ kept.content ∙ ap (λ (s : Shape). content_of s old) e,
    )
