-- A line that moves to a larger slot.
use Rattle.std.proofs.Common.{◌≡◌, ℕ, ◌-◌, ◌<◌, ◌≤◌, ◌≢◌, ◌==◌, Bool, true, false, true≢false, refl, ◌∙◌, sym, arith, List, length, cond}
use Rattle.std.proofs.lemmas.Bool.Decides.{nat_tests}
use Rattle.hier_types.specs.declared.settings.Codec.{Codec}
use Rattle.line_codec.specs.Layout.{cap}
use Rattle.page_slots.specs.declared.desc.Slots.{Slots}
use Rattle.page_slots.specs.declared.desc.Slots.TheVariants.{Packed, Mid}
use Rattle.page_slots.specs.Forms.{form_of, IsForm, room}
use Rattle.page_slots.specs.Lines.{meta, chunk_of, content_at}
use Rattle.page_slots.specs.Moves.{next_up, form_up, moved_up, CanMoveUp, step_up, IsStep}
use Rattle.page_slots.specs.Puts.{HasNoPlace}
use Rattle.page_slots.specs.Sound.{HoldsSlots, IsSlotted}
use Rattle.page_slots.proofs.FormLemmas.{cap_few}
use Rattle.page_slots.proofs.LineLemmas.{fits-rises, slot_fits}

rooms_up : (slots : Slots) (large i : ℕ) (bytes : List ℕ) → CanMoveUp slots large bytes → i < 64 → i ≢ next_up slots → room (form_up slots large) i ≡ room (form_of slots) i
unfolding room
rooms_up (Packed order target) large i bytes can i_in ne = grind (arith, nat_tests)
rooms_up (Mid order small l at) large i bytes can i_in ne = rw can (grind (arith, nat_tests))

room_grows : (slots : Slots) (large size : ℕ) (bytes : List ℕ) → CanMoveUp slots large bytes → HoldsSlots slots size → room (form_of slots) (next_up slots) ≤ room (form_up slots large) (next_up slots)
unfolding room
room_grows (Packed order target) large size bytes can is = let lt = can.1.0 in grind (arith, nat_tests)
room_grows (Mid order small l at) large size bytes can is = let lt = is.targets.1.1.0 in rw can (grind (arith, nat_tests))

form_up_is : (slots : Slots) (large size : ℕ) (bytes : List ℕ) → CanMoveUp slots large bytes → HoldsSlots slots size → IsForm (form_up slots large) size
form_up_is (Packed order target) large size bytes can is = record { ordered = omega (arith, can.1.0); slots_in = can.1.1.0; few = cap_few order; is_size = is.is_size }
form_up_is (Mid order small l at) large size bytes can is =
    record { ordered = omega (arith, can, is.targets.1.1.0); slots_in = omega (arith, can, is.slots_in); few = cap_few order; is_size = is.is_size }

next_up_in : (slots : Slots) (size : ℕ) → HoldsSlots slots size → next_up slots < 64
next_up_in (Packed order target) size is = omega arith
next_up_in (Mid order small large at) size is = omega (arith, is.targets.1.1.1.1)

above_up : (slots : Slots) (large i : ℕ) (bytes : List ℕ) → CanMoveUp slots large bytes → i < 64 → 128 ≤ meta bytes i → (form_of slots).large < chunk_of (meta bytes i) → large < chunk_of (meta bytes i)
above_up (Packed order target) large i bytes can i_in high above = can.1.1.1 i i_in high
above_up (Mid order small l at) large i bytes can i_in high above = omega (arith, can, above)

-- a line that stands in its slot fits a larger one, so it never wants a chunk
pub place_up : (codec : Codec) (slots : Slots) (large : ℕ) (bytes : List ℕ) → CanMoveUp slots large bytes → IsSlotted codec slots bytes
    → HasNoPlace codec (form_up slots large) bytes (next_up slots) (content_at (form_of slots) bytes (next_up slots)) → ⊥
place_up codec slots large bytes can sound over =
    let own = sound.lines.has (next_up slots) (next_up_in slots (length bytes) sound.holds) in
    let fit = slot_fits codec (form_of slots) bytes (next_up slots) (content_at (form_of slots) bytes (next_up slots)) own over.has_none in
    true≢false (sym (fits-rises codec _ _ _ (room_grows slots large (length bytes) bytes can sound.holds) fit) ∙ over.outgrows)

moved_by : (order small l at large size : ℕ) (last : Bool) → (at == 1) ≡ last → large ≡ l → HoldsSlots (Mid order small l at) size
    → HoldsSlots (cond last (Packed order large) (Mid order small large (at - 1))) size
moved_by order small l at large size true is e h =
    record { order_in = h.order_in; targets = rw e h.targets.1.0; slots_in = omega (arith, h.slots_in, e); is_size = h.is_size }
moved_by order small l at large size false is e h = record {
  order_in = h.order_in;
  targets = (h.targets.0, (rw e h.targets.1.0, (omega (arith, h.targets.1.1.0, e), (let least = h.targets.1.1.1.0 in grind (arith, nat_tests), omega (arith, h.targets.1.1.1.1)))));
  slots_in = omega (arith, h.slots_in, e);
  is_size = h.is_size;
}

moved_holds : (slots : Slots) (large size : ℕ) (bytes : List ℕ) → CanMoveUp slots large bytes → HoldsSlots slots size → HoldsSlots (moved_up slots large) size
moved_holds (Packed order target) large size bytes can is =
    record { order_in = is.order_in; targets = (is.targets, (can.0, (can.1.0, (omega arith, omega arith)))); slots_in = can.1.1.0; is_size = is.is_size }
moved_holds (Mid order small l at) large size bytes can is = moved_by order small l at large size (at == 1) refl can is

rooms_first : (small large at i chunks : ℕ) → (at == 1) ≡ true
    → room (record { small = large; large = large; at = 0; chunks = chunks }) i ≡ room (record { small = small; large = large; at = at - 1; chunks = chunks }) i
unfolding room
rooms_first small large at i chunks e = grind (arith, nat_tests)

rooms_next_by : (order small large at i : ℕ) (last : Bool) → (at == 1) ≡ last
    → room (form_of (cond last (Packed order large) (Mid order small large (at - 1)))) i ≡ room (record { small = small; large = large; at = at - 1; chunks = cap order }) i
rooms_next_by order small large at i true e = rooms_first small large at i (cap order) e
rooms_next_by order small large at i false e = refl

rooms_next : (slots : Slots) (large i : ℕ) → room (form_of (moved_up slots large)) i ≡ room (form_up slots large) i
rooms_next (Packed order target) large i = refl
rooms_next (Mid order small l at) large i = rooms_next_by order small large at i (at == 1) refl

next_by : (order small large at : ℕ) (last : Bool)
    → ((form_of (cond last (Packed order large) (Mid order small large (at - 1)))).chunks ≡ cap order) × ((form_of (cond last (Packed order large) (Mid order small large (at - 1)))).large ≡ large)
next_by order small large at true = (refl, refl)
next_by order small large at false = (refl, refl)

next_of : (slots : Slots) (large : ℕ) → ((form_of (moved_up slots large)).chunks ≡ (form_of slots).chunks) × ((form_of (moved_up slots large)).large ≡ large)
next_of (Packed order target) large = (refl, refl)
next_of (Mid order small l at) large = next_by order small large at (at == 1)

pub step_up_is : (slots : Slots) (large : ℕ) (bytes : List ℕ) → CanMoveUp slots large bytes → HoldsSlots slots (length bytes) → IsStep slots bytes (step_up slots large)
step_up_is slots large bytes can is = record {
  line_in = next_up_in slots (length bytes) is;
  is_form = form_up_is slots large (length bytes) bytes can is;
  holds = moved_holds slots large (length bytes) bytes can is;
  rooms_stay = λ i i_in ne. rooms_up slots large i bytes can i_in ne;
  rooms_are = λ i i_in. rooms_next slots large i;
  chunks_stay = refl;
  chunks_are = (next_of slots large).0;
  above = λ i i_in high above. above_up slots large i bytes can i_in high above;
  not_higher = omega (arith, (next_of slots large).1);
}
