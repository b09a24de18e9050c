-- A page that is not written settles at its plan.
use Rattle.std.proofs.Common.{◌≡◌, ◌≢◌, ◌<◌, ◌≤◌, ◌+◌, ◌∙◌, ℕ, zero, suc, List, [], length, inl, inr, refl, sym, ap, arith}
use Rattle.std.proofs.lemmas.Bool.{cases_lt}
use Rattle.std.proofs.lemmas.List.{get_or_past}
use Rattle.hier_types.specs.declared.settings.Codec.{Codec}
use Rattle.page_mover.specs.declared.turning.Turn.{Turn}
use Rattle.page_mover.specs.declared.turning.Turn.TheVariants.{Next}
use Rattle.page_mover.specs.Far.{far_of}
use Rattle.page_mover.specs.Moves.{body}
use Rattle.page_mover.specs.Turns.{turn_of}
use Rattle.page_mover.proofs.FallLemmas.{falls, near}
use Rattle.page_slots.specs.declared.desc.Shape.{Shape}
use Rattle.page_slots.specs.declared.desc.Shape.TheVariants as shapes
use Rattle.page_slots.specs.Sound.{IsSound as IsSoundPage}
use Rattle.page_store.specs.declared.room.Held.{Held}
use Rattle.page_store.specs.Rooms.{bytes_at, helds}
use Rattle.page_store.specs.Store.{IsSound, Store, shape_at}
use Rattle.page_store.specs.Turns.{LeavesPage, MakesTurnOn, TurnsUnwritten, UnwrittenPagesSettle, far_at}
use Rattle.page_store.proofs.RoomLemmas.{length-helds}
use Rattle.page_store.proofs.TurnLemmas.{far_left}

-- what a page is past the last one
shape_past : (s : Store) (page : ℕ) → length s.descriptors ≤ page → shape_at s page ≡ shapes.Zero
shape_past s page past = ap (λ (h : Held). h.shape) (get_or_past (helds s.descriptors) page (record { shape = shapes.Zero; unit = 0 }) (omega (arith, length-helds s.descriptors)))

-- how far a page is, by its codec, shape and bytes
far_same : (c d : Codec) (p q : Shape) (a b : List ℕ) → c ≡ d → p ≡ q → a ≡ b → far_of c p a ≡ far_of d q b
far_same c d p q a b codec shape bytes =
    ap (λ (k : Codec). far_of k p a) codec ∙ ap (λ (s : Shape). far_of d s a) shape ∙ ap (far_of d q) bytes

-- a page that is left as it was is as far as before
far_stays : (s t : Store) (page : ℕ) → LeavesPage page s t → far_at t page ≡ far_at s page
far_stays s t page leaves =
    far_same t.codec s.codec (shape_at t page) (shape_at s page) (bytes_at t.bytes page) (bytes_at s.bytes page) leaves.codec_is leaves.shape_is leaves.bytes_are

-- no page of a sound store is farther than this, and one past the last is not far
far_most : (s : Store) (page : ℕ) → IsSound s → far_at s page ≤ 183
far_most s page sound = elim (cases_lt page (length s.descriptors)) [
  | inl within ↦ near s.codec (shape_at s page) (bytes_at s.bytes page) (sound.pages_are page within)
  | inr past ↦ omega (arith, far_same s.codec s.codec (shape_at s page) shapes.Zero (bytes_at s.bytes page) (bytes_at s.bytes page) refl (shape_past s page past) refl)
]

-- a turn that is made brings its page nearer
pub turn_falls : (s : Store) (page : ℕ) (turn : Turn) (t : Store) → IsSound s → turn ≢ Next → MakesTurnOn s page turn t → far_at t page < far_at s page
turn_falls s page turn t sound some makes = elim (cases_lt page (length s.descriptors)) [
  | inl within ↦
      let own = bytes_at s.bytes page in
      let now : far_at t page ≡ far_of s.codec makes.shape (body makes.shape makes.front) = far_left s t page turn sound within makes in
      let nearer = falls s.codec (shape_at s page) own turn makes.shape makes.front makes.makes.row some makes.was makes.makes.makes makes.makes.keeps in
      omega (arith, now, nearer)
  | inr past ↦ absurd (some (makes.makes.row ∙ ap (λ (k : Shape). turn_of s.codec k (bytes_at s.bytes page)) (shape_past s page past)))
]

-- what is left of the turns that a page can take, once so many were made
pub turns_left : (page count : ℕ) (s t : Store) → IsSound s → TurnsUnwritten page count s t → IsSound t × (count + far_at t page ≤ 183)
unfolding TurnsUnwritten
turns_left page zero s t sound leaves = (leaves.sound, omega (arith, far_stays s t page leaves, far_most s page sound))
turns_left page (suc n) s t sound turns =
    let before = turns.0 in
    let after = turns.2 in
    let left = turns_left page n s before sound turns.3 in
    let falls = turn_falls before page turns.1 after left.0 turns.4 turns.5 in
    (turns.6.sound, omega (arith, left.1, falls, far_stays after t page turns.6))

pub pages_settle : UnwrittenPagesSettle
pages_settle page count s t sound turns = omega (arith, (turns_left page count s t sound turns).1)
