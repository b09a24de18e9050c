-- The slots of a form share no byte.
use Rattle.std.proofs.Common.{ℕ, ◌≡◌, ◌+◌, ◌*◌, ◌<◌, ◌≤◌, ◌≢◌, suc, refl, arith, ◌⊎◌, inl, inr}
use Rattle.std.proofs.lemmas.Bool.Decides.{nat_tests}
use Rattle.std.proofs.lemmas.Nat.{mul-le}
use Rattle.std.proofs.lemmas.Bool.{cases_lt}
use Rattle.line_codec.specs.Layout.{cap}
use Rattle.page_slots.specs.declared.desc.Slots.{Slots}
use Rattle.page_slots.specs.declared.desc.Slots.TheVariants.{Packed, Mid}
use Rattle.page_slots.specs.declared.form.Form.{Form}
use Rattle.page_slots.specs.Forms.{IsForm, form_of, order_of, room, slot_start, Apart}
use Rattle.page_slots.specs.Sound.{HoldsSlots}

pub apart_of : (i j : ℕ) → i ≢ j → (i < j) ⊎ (j < i)
apart_of i j ne = elim (cases_lt i j) [ inl a ↦ inl a | inr b ↦ inr (omega arith) ]

pub room_le : (form : Form) (size i : ℕ) → IsForm form size → room form i ≤ form.large
unfolding room
room_le form size i is = let o = is.ordered in grind (arith, nat_tests)

pub room_small : (form : Form) (size i : ℕ) → IsForm form size → form.small ≤ room form i
unfolding room
room_small form size i is = let o = is.ordered in grind (arith, nat_tests)

room_rises : (form : Form) (size i j : ℕ) → IsForm form size → i ≤ j → room form i ≤ room form j
unfolding room
room_rises form size i j is le = let o = is.ordered in grind (arith, nat_tests)

pub slot_low : (form : Form) (i : ℕ) → 64 ≤ slot_start form i
unfolding slot_start
slot_low form i = omega arith

pub slot_within : (form : Form) (size i : ℕ) → IsForm form size → i < 64 → slot_start form i + room form i ≤ 64 * (1 + form.large)
unfolding slot_start
slot_within form size i is below =
    let r = room_le form size i is in
    let p = mul-le (room form i) (suc i) form.large 64 r (omega arith) in
    omega arith

slot_before : (form : Form) (size i j : ℕ) → IsForm form size → i < j → slot_start form i + room form i ≤ slot_start form j
unfolding slot_start
slot_before form size i j is before =
    let r = room_rises form size i j is (omega arith) in
    let p = mul-le (room form i) (suc i) (room form j) j r (omega arith) in
    omega arith

pub slots_apart : (form : Form) (size i j : ℕ) → IsForm form size → i ≢ j → Apart (slot_start form i) (room form i) (slot_start form j) (room form j)
slots_apart form size i j is ne =
    elim (apart_of i j ne) [ inl a ↦ inl (slot_before form size i j is a) | inr b ↦ inr (slot_before form size j i is b) ]

-- a slot lies in the block
pub slot_in_block : (form : Form) (size i start n : ℕ) → IsForm form size → i < 64 → start ≡ slot_start form i → n ≡ room form i → start + n ≤ size
slot_in_block form size i start n is i_in e f = omega (arith, is.is_size, is.slots_in, slot_within form size i is i_in)

pub cap_few : (order : ℕ) → cap order ≤ 32
cap_few order = grind (arith, nat_tests)

-- the form of a page in slots is one
pub form_is : (slots : Slots) (size : ℕ) → HoldsSlots slots size → IsForm (form_of slots) size
form_is (Packed order target) size holds =
    record { ordered = omega arith; slots_in = holds.slots_in; few = cap_few order; is_size = holds.is_size }
form_is (Mid order small large at) size holds =
    record { ordered = omega (arith, holds.targets.1.1.0); slots_in = holds.slots_in; few = cap_few order; is_size = holds.is_size }

pub chunks_are : (slots : Slots) → (form_of slots).chunks ≡ cap (order_of slots)
chunks_are (Packed order target) = refl
chunks_are (Mid order small large at) = refl

-- all slots of a packed page have one length
pub packed_room : (order target i : ℕ) → room (form_of (Packed order target)) i ≡ target
unfolding room
packed_room order target i = grind (arith, nat_tests)
