-- A line that moves to a smaller slot.
use Rattle.std.proofs.Common.{◌≡◌, ℕ, ◌+◌, ◌<◌, ◌≤◌, ◌≢◌, ◌==◌, Bool, true, false, refl, arith, List, length, cond}
use Rattle.std.proofs.lemmas.Bool.Decides.{nat_tests}
use Rattle.hier_types.specs.Tabulate.{tabulate}
use Rattle.hier_types.specs.declared.settings.Codec.{Codec}
use Rattle.line_codec.specs.Layout.{cap, stored_sizes, exceptions_of}
use Rattle.page_slots.specs.declared.desc.Slots.{Slots}
use Rattle.page_slots.specs.declared.desc.Slots.TheVariants.{Packed, Mid}
use Rattle.page_slots.specs.Forms.{form_of, order_of, IsForm, room}
use Rattle.page_slots.specs.Lines.{content_at}
use Rattle.page_slots.specs.Moves.{next_down, form_down, moved_down, CanMoveDown, step_down, IsStep}
use Rattle.page_slots.specs.Puts.{HasNoPlace}
use Rattle.page_slots.specs.Sound.{HoldsSlots, IsSlotted}
use Rattle.page_slots.proofs.CountLemmas.{has_place_by}
use Rattle.page_slots.proofs.FormLemmas.{room_small, cap_few, chunks_are}
use Rattle.page_slots.proofs.StepLemmas.{step_others}

rooms_down : (slots : Slots) (small i : ℕ) → CanMoveDown slots small → i ≢ next_down slots → room (form_down slots small) i ≡ room (form_of slots) i
unfolding room
rooms_down (Packed order target) small i can ne = grind (arith, nat_tests)
rooms_down (Mid order s large at) small i can ne = rw can (grind (arith, nat_tests))

form_down_is : (slots : Slots) (small size : ℕ) → CanMoveDown slots small → HoldsSlots slots size → IsForm (form_down slots small) size
form_down_is (Packed order target) small size can is = record { ordered = omega (arith, can.1); slots_in = is.slots_in; few = cap_few order; is_size = is.is_size }
form_down_is (Mid order s large at) small size can is = record { ordered = omega (arith, can, is.targets.1.1.0); slots_in = is.slots_in; few = cap_few order; is_size = is.is_size }

next_down_in : (slots : Slots) (size : ℕ) → HoldsSlots slots size → next_down slots < 64
next_down_in (Packed order target) size is = omega arith
next_down_in (Mid order small large at) size is = omega (arith, is.targets.1.1.1.1)

moved_by : (order s large at small size : ℕ) (last : Bool) → (at == 63) ≡ last → small ≡ s → HoldsSlots (Mid order s large at) size
    → HoldsSlots (cond last (Packed order small) (Mid order small large (at + 1))) size
moved_by order s large at small size true is e h =
    record { order_in = h.order_in; targets = rw e h.targets.0; slots_in = omega (arith, h.targets.1.1.0, h.slots_in, e); is_size = h.is_size }
moved_by order s large at small size false is e h = record {
  order_in = h.order_in;
  targets = (rw e h.targets.0, (h.targets.1.0, (omega (arith, h.targets.1.1.0, e), (omega arith, let most = h.targets.1.1.1.1 in grind (arith, nat_tests)))));
  slots_in = h.slots_in;
  is_size = h.is_size;
}

moved_holds : (slots : Slots) (small size : ℕ) → CanMoveDown slots small → HoldsSlots slots size → HoldsSlots (moved_down slots small) size
moved_holds (Packed order target) small size can is =
    record { order_in = is.order_in; targets = (can.0, (is.targets, (can.1, (omega arith, omega arith)))); slots_in = is.slots_in; is_size = is.is_size }
moved_holds (Mid order s large at) small size can is = moved_by order s large at small size (at == 63) refl can is

rooms_last : (small large at i chunks : ℕ) → (at == 63) ≡ true → i < 64
    → room (record { small = small; large = small; at = 0; chunks = chunks }) i ≡ room (record { small = small; large = large; at = at + 1; chunks = chunks }) i
unfolding room
rooms_last small large at i chunks e i_in = grind (arith, nat_tests)

rooms_next_by : (order small large at i : ℕ) (last : Bool) → (at == 63) ≡ last → i < 64
    → room (form_of (cond last (Packed order small) (Mid order small large (at + 1)))) i ≡ room (record { small = small; large = large; at = at + 1; chunks = cap order }) i
rooms_next_by order small large at i true e i_in = rooms_last small large at i (cap order) e i_in
rooms_next_by order small large at i false e i_in = refl

rooms_next : (slots : Slots) (small i : ℕ) → i < 64 → room (form_of (moved_down slots small)) i ≡ room (form_down slots small) i
rooms_next (Packed order target) small i i_in = refl
rooms_next (Mid order s large at) small i i_in = rooms_next_by order small large at i (at == 63) refl i_in

next_by : (order small large at : ℕ) (last : Bool) → small ≤ large
    → ((form_of (cond last (Packed order small) (Mid order small large (at + 1)))).chunks ≡ cap order) × ((form_of (cond last (Packed order small) (Mid order small large (at + 1)))).large ≤ large)
next_by order small large at true le = (refl, le)
next_by order small large at false le = (refl, omega arith)

next_of : (slots : Slots) (small size : ℕ) → CanMoveDown slots small → HoldsSlots slots size
    → ((form_of (moved_down slots small)).chunks ≡ (form_of slots).chunks) × ((form_of (moved_down slots small)).large ≤ (form_of slots).large)
next_of (Packed order target) small size can is = (refl, omega arith)
next_of (Mid order s large at) small size can is = next_by order small large at (at == 63) (omega (arith, can, is.targets.1.1.0))

pub step_down_is : (slots : Slots) (small : ℕ) (bytes : List ℕ) → CanMoveDown slots small → HoldsSlots slots (length bytes) → IsStep slots bytes (step_down slots small)
step_down_is slots small bytes can is = record {
  line_in = next_down_in slots (length bytes) is;
  is_form = form_down_is slots small (length bytes) can is;
  holds = moved_holds slots small (length bytes) can is;
  rooms_stay = λ i i_in ne. rooms_down slots small i can ne;
  rooms_are = λ i i_in. rooms_next slots small i i_in;
  chunks_stay = refl;
  chunks_are = (next_of slots small (length bytes) can is).0;
  above = λ i i_in high above. above;
  not_higher = (next_of slots small (length bytes) can is).1;
}

-- a chunk is free for the line, where there is room for all lines that the smaller slots do not hold
pub place_down : (codec : Codec) (slots : Slots) (small : ℕ) (bytes : List ℕ) → CanMoveDown slots small → IsSlotted codec slots bytes
    → 1 + (form_of slots).large + exceptions_of (stored_sizes codec (tabulate (content_at (form_of slots) bytes) 64)) small ≤ cap (order_of slots)
    → HasNoPlace codec (form_down slots small) bytes (next_down slots) (content_at (form_of slots) bytes (next_down slots)) → ⊥
place_down codec slots small bytes can sound rooms over =
    has_place_by codec (form_down slots small) small bytes (content_at (form_of slots) bytes) (next_down slots) (next_down_in slots (length bytes) sound.holds)
    (λ i. room_small (form_down slots small) (length bytes) i (form_down_is slots small (length bytes) can sound.holds))
    (step_others codec slots bytes (step_down slots small) (form_of slots) refl (step_down_is slots small bytes can sound.holds) sound)
    (omega (arith, rooms, chunks_are slots)) over
