-- A store in which a turn is made on a page.
use Rattle.std.proofs.Common.{◌≡◌, ◌≢◌, ◌↔◌, ◌==◌, ◌<◌, ◌≤◌, ◌*◌, ◌∙◌, ℕ, true, true≢false, Option, Some, IfSome, IsSomeAnd, List, [], length, set, take, drop, slice_get, refl, sym, ap, subst, inl, inr, arith}
use Rattle.std.proofs.lemmas.Bool.{and_from, and_parts, cases_eq, eq-eqb, eqb-true}
use Rattle.std.proofs.lemmas.Bool.Decides.{nat_tests}
use Rattle.std.proofs.lemmas.List.{get_or-set_same, length-set, length-take, set-get_or, take-take}
use Rattle.std.proofs.lemmas.Option.{get_or_from_slice_get}
use Rattle.buddy_frames.specs.Units.{Place, IsUsedPlace}
use Rattle.byte_parts.specs.Parts.{part, ChangesWithin}
use Rattle.byte_parts.proofs.PartLemmas.{length-part, part_stays}
use Rattle.hier_types.specs.declared.counts.PageCounts.{PageCounts}
use Rattle.hier_types.specs.declared.settings.Codec.{Codec}
use Rattle.line_codec.specs.Layout.{cap}
use Rattle.number_set.specs.Numbers.{has}
use Rattle.page_mover.specs.declared.turning.Turn.{Turn}
use Rattle.page_mover.specs.declared.turning.Turn.TheVariants.{Next, Zero, Rewrite, Down, Up, Hoist, Halve}
use Rattle.page_mover.specs.Far.{far_of, is_at_plan}
use Rattle.page_mover.specs.Moves.{MakesTurn, Makes, body}
use Rattle.page_mover.specs.Turns.{turn_of}
use Rattle.page_mover.proofs.FallLemmas.{far_zero, next_far}
use Rattle.page_plan.specs.KeptSizes.{kept_sizes}
use Rattle.page_plan.specs.PagePlan.{plan_of}
use Rattle.page_plan.specs.Pages.{page_of, with_page}
use Rattle.page_plan.specs.declared.least.PagePlan.{PagePlan}
use Rattle.page_plan.specs.declared.least.PagePlan.TheVariants as plan
use Rattle.page_plan.proofs.PageLemmas.{three_parts}
use Rattle.page_slots.specs.declared.desc.Desc.{Desc}
use Rattle.page_slots.specs.declared.desc.Desc.TheVariants as descs
use Rattle.page_slots.specs.declared.desc.Shape.{Shape}
use Rattle.page_slots.specs.declared.desc.Shape.TheVariants as shapes
use Rattle.page_slots.specs.declared.desc.Slots.{Slots}
use Rattle.page_slots.specs.declared.desc.Slots.TheVariants.{Packed, Mid}
use Rattle.page_slots.specs.Descs.{block_of, content_of, shape_of, size_of}
use Rattle.page_slots.specs.Forms.{order_of}
use Rattle.page_slots.specs.Sound.{IsSound as IsSoundPage}
use Rattle.page_slots.proofs.ContentLemmas.{size_sound}
use Rattle.page_slots.proofs.FormLemmas.{chunks_are}
use Rattle.page_store.specs.declared.room.Held.{Held}
use Rattle.page_store.specs.Lays.{KeepsLines, plan_at}
use Rattle.page_store.specs.Noted.{noted}
use Rattle.page_store.specs.PageBlocks.{AreSound, IsAtPlan, IsNewBlock, block_at}
use Rattle.page_store.specs.Rooms.{IsShaped, IsWithin, ShareNone, bytes_at, bytes_of, held_at, held_of, helds, start_of}
use Rattle.page_store.specs.Store.{AreStrays, HasZero, IsKept, IsSound, Store, desc_at, shape_at, store_in}
use Rattle.page_store.specs.Turns.{CanTrim, ComesToShape, MakesTurnOn, far_at, turn_at}
use Rattle.page_store.proofs.BlockLemmas.{block_at-same, block_live}
use Rattle.page_store.proofs.BlockRoomLemmas.{block_there, block_within, desc_there, page_within, pages_share_none}
use Rattle.page_store.proofs.ListLemmas.{get-set_other}
use Rattle.page_store.proofs.PagesLemmas.{own_bytes, own_held, own_lines, own_shape, own_sound, own_within}
use Rattle.page_store.proofs.RoomLemmas.{helds_at, length-helds, page_of_all}
use Rattle.page_store.proofs.StoreLemmas as change
use Rattle.page_store.proofs.StoreLemmas.{noted_ways}
use Rattle.recency.specs.Kept.{Kept}

-- the shape of a page that came to it
pub new_shape : (ds : List Desc) (used : List ℕ) (page : ℕ) (shape : Shape) (ds' : List Desc) (used' : List ℕ) → page < length ds → ComesToShape ds used page shape ds' used' → shape_of (desc_at ds' page) ≡ shape
new_shape ds used page shape ds' used' within comes =
    ap shape_of (ap (λ (xs : List Desc). desc_at xs page) comes.descriptors_are ∙ get_or-set_same ds page comes.desc descs.Zero within) ∙ comes.shape_is

-- a page is at its plan by its shape exactly where it is by its block
pub at_plan_is : (p : PagePlan) (d : Desc) → IsShaped d → (is_at_plan (shape_of d) p ≡ true ↔ IsAtPlan p d)
at_plan_is plan.Zero descs.Zero shaped = (λ e. tt, λ at. refl)
at_plan_is plan.Zero (descs.Packed block target) shaped = (λ e. absurd (true≢false (sym e)), λ at. absurd at)
at_plan_is plan.Zero (descs.Mid block small large i) shaped = (λ e. absurd (true≢false (sym e)), λ at. absurd at)
at_plan_is plan.Zero (descs.Raw block) shaped = (λ e. absurd (true≢false (sym e)), λ at. absurd at)
at_plan_is (plan.Packed order goal exceptions) descs.Zero shaped = (λ e. absurd (true≢false (sym e)), λ at. absurd at)
at_plan_is (plan.Packed order goal exceptions) (descs.Packed block target) shaped = (
  λ e. let parts = and_parts (target == goal) (block.order == order) e in (eqb-true block.order order parts.1, eqb-true target goal parts.0),
  λ at. and_from (target == goal) (block.order == order) (eq-eqb target goal at.1) (eq-eqb block.order order at.0),
)
at_plan_is (plan.Packed order goal exceptions) (descs.Mid block small large i) shaped = (λ e. absurd (true≢false (sym e)), λ at. absurd at)
at_plan_is (plan.Packed order goal exceptions) (descs.Raw block) shaped = (λ e. absurd (true≢false (sym e)), λ at. absurd at)
at_plan_is plan.Raw descs.Zero shaped = (λ e. absurd (true≢false (sym e)), λ at. absurd at)
at_plan_is plan.Raw (descs.Packed block target) shaped = (λ e. absurd (true≢false (sym e)), λ at. absurd at)
at_plan_is plan.Raw (descs.Mid block small large i) shaped = (λ e. absurd (true≢false (sym e)), λ at. absurd at)
at_plan_is plan.Raw (descs.Raw block) shaped = (λ e. shaped, λ at. refl)

-- a page that a turn leaves does not stand line after line
no_raw : (codec : Codec) (shape : Shape) (old : List ℕ) (turn : Turn) (next : Shape) (new : List ℕ) → Makes codec shape old turn next new → turn ≢ Next → next ≢ shapes.Raw
no_raw codec shape old Next next new makes off is = off refl
no_raw codec shape old Zero next new makes off is = let e = makes.0 in cc
no_raw codec shape old (Rewrite order target) next new makes off is = let e = makes.0 in cc
no_raw codec shapes.Zero old (Down small) next new makes off is = makes
no_raw codec shapes.Raw old (Down small) next new makes off is = makes
no_raw codec (shapes.Slotted slots) old (Down small) next new makes off is = let e = makes.0 in cc
no_raw codec shapes.Zero old (Up large) next new makes off is = makes
no_raw codec shapes.Raw old (Up large) next new makes off is = makes
no_raw codec (shapes.Slotted slots) old (Up large) next new makes off is = let e = makes.0 in cc
no_raw codec shapes.Zero old (Hoist low high above) next new makes off is = makes
no_raw codec shapes.Raw old (Hoist low high above) next new makes off is = makes
no_raw codec (shapes.Slotted slots) old (Hoist low high above) next new makes off is = let e = makes.0 in cc
no_raw codec shapes.Zero old Halve next new makes off is = makes.0
no_raw codec shapes.Raw old Halve next new makes off is = makes.0
no_raw codec (shapes.Slotted (Packed order target)) old Halve next new makes off is = let e = makes.0 in cc
no_raw codec (shapes.Slotted (Mid order small large at)) old Halve next new makes off is = makes.0

-- a list has no more bytes in its first part than in all
few_first : (n : ℕ) (bytes : List ℕ) → length (part 0 n bytes) ≤ length bytes
unfolding part
few_first n bytes = omega (arith, length-take n bytes)

-- a sound page that is left has no more bytes than the block in which it is
size_left : (codec : Codec) (next : Shape) (new : List ℕ) → IsSoundPage codec next (body next new) → size_of next ≤ length new
size_left codec next new sound = omega (arith, size_sound codec next (body next new) sound, few_first (size_of next) new)

-- a block of no more bytes is of no higher order
order_le : (j k : ℕ) → j ≤ 2 → k ≤ 2 → cap j ≤ cap k → j ≤ k
order_le j k j_in k_in le = grind (arith, nat_tests)

slots_le : (codec : Codec) (slots : Slots) (order : ℕ) (new : List ℕ) → order ≤ 2 → length new ≡ 64 * cap order → IsSoundPage codec (shapes.Slotted slots) (body (shapes.Slotted slots) new) → order_of slots ≤ order
slots_le codec slots order new order_in long sound =
    order_le (order_of slots) order sound.holds.order_in order_in (omega (arith, size_left codec (shapes.Slotted slots) new sound, chunks_are slots))

-- the block that a page has can be trimmed to the page that a turn leaves
pub can_trim : (codec : Codec) (d : Desc) (old : List ℕ) (turn : Turn) (next : Shape) (new : List ℕ) → IsShaped d → IsSoundPage codec (shape_of d) old → length new ≡ length old → turn ≢ Next
    → MakesTurn codec (shape_of d) old turn next new → CanTrim (block_of d) next
can_trim codec d old turn shapes.Zero new shaped sound same off makes = tt
can_trim codec d old turn shapes.Raw new shaped sound same off makes = absurd (no_raw codec (shape_of d) old turn shapes.Raw new makes.makes off refl)
can_trim codec descs.Zero old turn (shapes.Slotted slots) new shaped sound same off makes = absurd (off makes.row)
can_trim codec (descs.Raw block) old turn (shapes.Slotted slots) new shaped sound same off makes = let small = makes.keeps.sound.holds.order_in in omega arith
can_trim codec (descs.Packed block target) old turn (shapes.Slotted slots) new shaped sound same off makes =
    slots_le codec slots block.order new shaped (same ∙ sound.holds.is_size) makes.keeps.sound
can_trim codec (descs.Mid block small large at) old turn (shapes.Slotted slots) new shaped sound same off makes =
    slots_le codec slots block.order new shaped (same ∙ sound.holds.is_size) makes.keeps.sound

-- the order of a block is one of its shape, where the page is sound and does not stand line after line
shaped_left : (codec : Codec) (d : Desc) (own : List ℕ) → shape_of d ≢ shapes.Raw → IsSoundPage codec (shape_of d) own → IsShaped d
shaped_left codec descs.Zero own slotted sound = tt
shaped_left codec (descs.Raw block) own slotted sound = absurd (slotted refl)
shaped_left codec (descs.Packed block target) own slotted sound = sound.holds.order_in
shaped_left codec (descs.Mid block small large at) own slotted sound = sound.holds.order_in

-- no bytes are the same anywhere, and the first bytes of a block are a part of it
part_none : (at other : ℕ) (bytes bytes' : List ℕ) → part at 0 bytes ≡ part other 0 bytes'
unfolding part
part_none at other bytes bytes' = refl

part_front : (at unit n size : ℕ) (memory : List ℕ) → at ≡ 512 * unit → n ≤ size → part at n memory ≡ part 0 n (part (512 * unit) size memory)
unfolding part
part_front at unit n size memory is few = ap (λ (i : ℕ). take n (drop i memory)) is ∙ sym (take-take n size (drop (512 * unit) memory) few)

-- a page in slots that lies in the first units of a block has the first bytes of it
slots_front : (d : Desc) (block : Place) (n : ℕ) (memory : List ℕ) → IsSomeAnd (block_of d) (λ b. block.order ≤ b.order) → ((b : Place) → block_of d ≡ Some b → block.order ≤ b.order → block.unit ≡ b.unit)
    → n ≤ size_of (shape_of d) → part (512 * block.unit) n memory ≡ part 0 n (bytes_of memory (held_of d))
slots_front descs.Zero block n memory can new few = absurd can
slots_front (descs.Raw b) block n memory can new few = part_front (512 * block.unit) b.unit n 4096 memory (ap (λ (u : ℕ). 512 * u) (new b refl can)) few
slots_front (descs.Packed b t) block n memory can new few = part_front (512 * block.unit) b.unit n (64 * cap b.order) memory (ap (λ (u : ℕ). 512 * u) (new b refl can)) few
slots_front (descs.Mid b small large at) block n memory can new few = part_front (512 * block.unit) b.unit n (64 * cap b.order) memory (ap (λ (u : ℕ). 512 * u) (new b refl can)) few

-- a new block that is no larger begins where the old one does
new_unit : (used : List ℕ) (held : Option Place) (block b : Place) → IsNewBlock used held (Some block) → held ≡ Some b → block.order ≤ b.order → block.unit ≡ b.unit
new_unit used held block b new is le = (subst (λ (o : Option Place). IsNewBlock used o (Some block)) is new).0 le

-- the page that is left has the first bytes of the block that it had
front_there : (used memory : List ℕ) (d e : Desc) → CanTrim (block_of d) (shape_of e) → IsNewBlock used (block_of d) (block_of e) → size_of (shape_of e) ≤ size_of (shape_of d)
    → bytes_of memory (held_of e) ≡ body (shape_of e) (bytes_of memory (held_of d))
front_there used memory d descs.Zero can new few = part_none 0 0 memory (bytes_of memory (held_of d))
front_there used memory d (descs.Raw block) can new few = absurd can
front_there used memory d (descs.Packed block t) can new few = slots_front d block (64 * cap block.order) memory can (λ b is le. new_unit used (block_of d) block b new is le) few
front_there used memory d (descs.Mid block small large at) can new few = slots_front d block (64 * cap block.order) memory can (λ b is le. new_unit used (block_of d) block b new is le) few

-- the shape that a page has, and its lines
shape_is : (s : Store) (page : ℕ) → page < length s.descriptors → shape_at s page ≡ shape_of (desc_at s.descriptors page)
shape_is s page within = ap (λ (h : Held). h.shape) (helds_at s.descriptors page within)

pub lines_are : (s : Store) (page : ℕ) → IsSound s → page < length s.descriptors → page_of s.lines page ≡ content_of (shape_at s page) (bytes_at s.bytes page)
lines_are s page sound within =
    ap (λ (ls : List (List ℕ)). page_of ls page) sound.says ∙ page_of_all (helds s.descriptors) s.bytes page (omega (arith, length-helds s.descriptors))

-- the next turn of a page is none exactly at its plan
pub next_at_plan : (s : Store) (page : ℕ) → IsSound s → page < length s.descriptors → (turn_at s page ≡ Next ↔ IsAtPlan (plan_at s page) (desc_at s.descriptors page))
next_at_plan s page sound within =
    let far = next_far s.codec (shape_at s page) (bytes_at s.bytes page) (sound.pages_are page within) in
    let zero = far_zero s.codec (shape_at s page) (bytes_at s.bytes page) (sound.pages_are page within) in
    let at = at_plan_is (plan_at s page) (desc_at s.descriptors page) (sound.shaped page within) in
    let same : is_at_plan (shape_of (desc_at s.descriptors page)) (plan_at s page) ≡ is_at_plan (shape_at s page) (plan_of s.codec (content_of (shape_at s page) (bytes_at s.bytes page))) =
    ap (λ (f : Shape). is_at_plan f (plan_at s page)) (sym (shape_is s page within)) ∙ ap (λ (ls : List (List ℕ)). is_at_plan (shape_at s page) (plan_of s.codec ls)) (lines_are s page sound within) in
    (λ e. at.0 (same ∙ zero.0 (far.0 e)), λ p. far.1 (zero.1 (sym same ∙ at.1 p)))

-- A turn was made on a page.
module _ (s t : Store) (page : ℕ) (turn : Turn) (sound : IsSound s) (within : page < length s.descriptors) (makes : MakesTurnOn s page turn t) where
  pages_are : length t.descriptors ≡ length s.descriptors
  pages_are = ap length makes.comes.descriptors_are ∙ length-set s.descriptors page makes.comes.desc

  pub desc_left : desc_at t.descriptors page ≡ makes.comes.desc
  desc_left = ap (λ (ds : List Desc). desc_at ds page) makes.comes.descriptors_are ∙ get_or-set_same s.descriptors page makes.comes.desc descs.Zero within

  -- the shape and the bytes that it leaves
  pub shape_left : shape_at t page ≡ makes.shape
  shape_left = shape_is t page (omega (arith, pages_are)) ∙ ap shape_of desc_left ∙ makes.comes.shape_is

  pub bytes_left : bytes_at t.bytes page ≡ body makes.shape makes.front
  bytes_left = ap (λ (x : Store). bytes_at x.bytes page) makes.is ∙ get_or-set_same s.bytes page (body makes.shape makes.front) [] (omega (arith, sound.paged))

  -- how far it is then
  pub far_left : far_at t page ≡ far_of s.codec makes.shape (body makes.shape makes.front)
  far_left =
      ap (λ (k : Codec). far_of k (shape_at t page) (bytes_at t.bytes page)) (ap (λ (x : Store). x.codec) makes.is)
      ∙ ap (λ (f : Shape). far_of s.codec f (bytes_at t.bytes page)) shape_left ∙ ap (far_of s.codec makes.shape) bytes_left

  -- every other page is kept as it was
  pub other_left : (q : ℕ) → q ≢ page → slice_get t.descriptors q ≡ slice_get s.descriptors q
  other_left q ne = ap (λ (ds : List Desc). slice_get ds q) makes.comes.descriptors_are ∙ get-set_other s.descriptors page q makes.comes.desc ne

  -- no turn is made on a page of zeros
  not_zero : turn ≢ Next → HasZero s page → ⊥
  not_zero off is_zero =
      let zero : shape_at s page ≡ shapes.Zero = shape_is s page within ∙ ap shape_of (get_or_from_slice_get s.descriptors page descs.Zero descs.Zero is_zero) in
      off (makes.makes.row ∙ ap (λ (f : Shape). turn_of s.codec f (bytes_at s.bytes page)) zero)

  -- what stays
  pub turn_keeps : turn ≢ Next → length t.used ≡ length s.used → KeepsLines s t
  turn_keeps off frames =
      let counts : t.counts ≡ s.counts = ap (λ (x : Store). x.counts) makes.is in
      record {
        lines_are = ap (λ (x : Store). x.lines) makes.is;
        codec_is = ap (λ (x : Store). x.codec) makes.is;
        counts_are = counts ∙ sym (ap (λ (n : ℕ). record s.counts { tidy_turns = n }) (ap (λ (k : PageCounts). k.tidy_turns) counts));
        cursor_is = ap (λ (x : Store). x.cursor) makes.is;
        stops_are = ap (λ (x : Store). x.stops) makes.is;
        ways_stay = ap (λ (x : Store). x.meta.ways) makes.is ∙ noted_ways s.meta page makes.shape (body makes.shape makes.front);
        frames_stay = frames;
        pages_stay = pages_are;
        zeros_stay = λ q is_zero. elim (cases_eq q page) [
          | inl same ↦ absurd (not_zero off (subst (HasZero s) same is_zero))
          | inr ne ↦ other_left q ne ∙ is_zero
        ];
      }

  -- the strays stay what they are: the page is one
  pub turn_strays : (strays : List ℕ) → turn ≢ Next → AreStrays s strays → AreStrays t strays
  turn_strays strays off are q desc there lacks = elim (cases_eq q page) [
    | inl same ↦
        let at = are page (desc_at s.descriptors page) (desc_there s.descriptors page within) (sym (ap (has strays) same) ∙ lacks) in
        absurd (off (makes.makes.row ∙ (next_at_plan s page sound within).1 at))
    | inr ne ↦
        let plans : plan_at s q ≡ plan_at t q =
        ap (λ (k : Codec). plan_of k (page_of s.lines q)) (sym (ap (λ (x : Store). x.codec) makes.is)) ∙ ap (λ (ls : List (List ℕ)). plan_of t.codec (page_of ls q)) (sym (ap (λ (x : Store). x.lines) makes.is)) in
        subst (λ (p : PagePlan). IsAtPlan p desc) plans (are q desc (sym (other_left q ne) ∙ there) lacks)
  ]

-- A turn is made in the memory.
module _ (s : Store) (memory : List ℕ) (sizes : List (List ℕ)) (kept : IsKept s memory sizes) (page : ℕ) (within : page < length s.descriptors) (turn : Turn) (off : turn ≢ Next) (next : Shape)
    (held : Held) (held_is : held ≡ held_of (desc_at s.descriptors page)) (m m' : List ℕ) (m_is : m ≡ memory) (changes : ChangesWithin (start_of held) (size_of held.shape) m m')
    (makes : MakesTurn s.codec held.shape (bytes_of m held) turn next (bytes_of m' held)) where
  abbrev old : Desc
  old = desc_at s.descriptors page

  abbrev front : List ℕ
  front = bytes_of m' (held_of old)

  changes_here : ChangesWithin (start_of (held_of old)) (size_of (shape_of old)) memory m'
  changes_here = subst (λ (h : Held). ChangesWithin (start_of h) (size_of h.shape) memory m') held_is (subst (λ (x : List ℕ). ChangesWithin (start_of held) (size_of held.shape) x m') m_is changes)

  makes_here : MakesTurn s.codec (shape_of old) (bytes_of memory (held_of old)) turn next front
  makes_here =
      subst (λ (h : Held). MakesTurn s.codec h.shape (bytes_of memory h) turn next (bytes_of m' h)) held_is
      (subst (λ (x : List ℕ). MakesTurn s.codec held.shape (bytes_of x held) turn next (bytes_of m' held)) m_is makes)

  long_front : length front ≡ size_of (shape_of old)
  long_front = length-part (start_of (held_of old)) (size_of (shape_of old)) m' (omega (arith, changes_here.same_length, own_within s memory sizes kept page within))

  pub can : CanTrim (block_at s.descriptors page) next
  can =
      subst (λ (o : Option Place). CanTrim o next) (sym (block_there s.descriptors page within))
      (can_trim s.codec old (bytes_of memory (held_of old)) turn next front (kept.sound.shaped page within) (own_sound s memory sizes kept page within)
      (long_front ∙ sym (size_sound s.codec (shape_of old) (bytes_of memory (held_of old)) (own_sound s memory sizes kept page within))) off makes_here)

  stay : (q : ℕ) → q < length (helds s.descriptors) → q ≢ page → bytes_of m' (held_at (helds s.descriptors) q) ≡ bytes_of memory (held_at (helds s.descriptors) q)
  stay q q_in ne =
      let pages = length-helds s.descriptors in
      let sound = kept.sound in
      part_stays (start_of (held_of old)) (size_of (shape_of old)) (start_of (held_at (helds s.descriptors) q)) (size_of (held_at (helds s.descriptors) q).shape) memory m' changes_here
      (page_within s.descriptors s.used memory sound.blocks_are sound.shaped kept.in_memory q (omega arith))
      (subst (ShareNone (held_at (helds s.descriptors) q)) (own_held s memory sizes kept page within)
      (pages_share_none s.descriptors s.used memory sound.blocks_are sound.shaped kept.in_memory q page (omega arith) within ne))

  -- and the block is trimmed
  module _ (ds : List Desc) (used : List ℕ) (comes : ComesToShape s.descriptors s.used page next ds used) (sound : AreSound ds used) (frames : length used ≡ length s.used) where
    abbrev new : Desc
    new = comes.desc

    abbrev own : List ℕ
    own = body (shape_of new) front

    makes_new : MakesTurn s.codec (shape_of old) (bytes_of memory (held_of old)) turn (shape_of new) front
    makes_new = subst (λ (f : Shape). MakesTurn s.codec (shape_of old) (bytes_of memory (held_of old)) turn f front) (sym comes.shape_is) makes_here

    blocks : AreSound (set s.descriptors page new) used
    blocks = subst (λ (xs : List Desc). AreSound xs used) comes.descriptors_are sound

    shaped : IsShaped new
    shaped = shaped_left s.codec new own (no_raw s.codec (shape_of old) (bytes_of memory (held_of old)) turn (shape_of new) front makes_new.makes off) makes_new.keeps.sound

    there : bytes_of m' (held_of new) ≡ own
    there =
        front_there s.used m' old new
        (subst (CanTrim (block_of old)) (sym comes.shape_is) (subst (λ (o : Option Place). CanTrim o next) (block_there s.descriptors page within) can))
        (subst (λ (o : Option Place). IsNewBlock s.used o (block_of new)) (block_there s.descriptors page within) comes.new_block)
        (omega (arith, size_left s.codec (shape_of new) front makes_new.keeps.sound, long_front))

    content : content_of (shape_of new) own ≡ page_of s.lines page
    content = makes_new.keeps.content ∙ sym (own_lines s memory sizes kept page within)

    lines_stay : with_page s.lines page (content_of (shape_of new) own) ≡ s.lines
    lines_stay = ap (with_page s.lines page) content ∙ three_parts s.lines (64 * page) 64

    desc_new : desc_at ds page ≡ new
    desc_new = ap (λ (xs : List Desc). desc_at xs page) comes.descriptors_are ∙ get_or-set_same s.descriptors page new descs.Zero within

    pub within_new : IsWithin m' (held_of (desc_at ds page))
    within_new =
        rw desc_new
        (block_within new used m' shaped (subst (λ o. IfSome o (IsUsedPlace used)) (block_at-same s.descriptors page new within) (block_live (set s.descriptors page new) used page blocks))
        (changes_here.same_length ∙ kept.in_memory ∙ ap (λ (n : ℕ). 4096 * n) (sym frames)))

    seen : store_in s.codec m' (set s.descriptors page new) used (noted s.meta page (shape_of new) own) s.counts s.stops s.cursor
        ≡ record s { descriptors = set s.descriptors page new; bytes = set s.bytes page own; used = used; meta = noted s.meta page (shape_of new) own }
    seen =
        change.seen_with s memory sizes kept page within new own used s.counts s.stops shaped makes_new.keeps.sound blocks frames m' changes_here.same_length there stay
        ∙ ap (λ (ls : List (List ℕ)). record s {
          lines = ls;
          descriptors = set s.descriptors page new;
          bytes = set s.bytes page own;
          used = used;
          meta = noted s.meta page (shape_of new) own;
        }) lines_stay

    made : MakesTurnOn s page turn (store_in s.codec m' (set s.descriptors page new) used (noted s.meta page (shape_of new) own) s.counts s.stops s.cursor)
    made = record {
      was = kept.sound.pages_are page within;
      shape = shape_of new;
      front = front;
      makes = subst (λ (f : Shape). MakesTurn s.codec f (bytes_at s.bytes page) turn (shape_of new) front) (sym (own_shape s memory sizes kept page within))
          (subst (λ (b : List ℕ). MakesTurn s.codec (shape_of old) b turn (shape_of new) front) (sym (own_bytes s memory sizes kept page within)) makes_new);
      comes = record { desc = new; shape_is = refl; new_block = comes.new_block; descriptors_are = refl; used_is = comes.used_is };
      is = seen;
    }

    same_sizes : set sizes page (kept_sizes s.codec (page_of s.lines page)) ≡ sizes
    same_sizes =
        let counted : length sizes ≡ length s.descriptors = kept.counted in
        ap (set sizes page) (sym (get_or_from_slice_get sizes page (kept_sizes s.codec (page_of s.lines page)) [] (kept.sized page (omega arith)))) ∙ set-get_or sizes page []

    kept_made : IsKept (store_in s.codec m' (set s.descriptors page new) used (noted s.meta page (shape_of new) own) s.counts s.stops s.cursor) m' sizes
    kept_made =
        subst (IsKept (store_in s.codec m' (set s.descriptors page new) used (noted s.meta page (shape_of new) own) s.counts s.stops s.cursor) m') same_sizes
        (subst (λ (t : Store). IsKept t m' (set sizes page (kept_sizes s.codec (page_of s.lines page))))
        (sym (change.seen_with s memory sizes kept page within new own used s.counts s.stops shaped makes_new.keeps.sound blocks frames m' changes_here.same_length there stay))
        (change.kept_with s memory sizes kept page within new own used s.counts s.stops shaped makes_new.keeps.sound blocks frames m' changes_here.same_length there stay
        (kept_sizes s.codec (page_of s.lines page)) (ap (kept_sizes s.codec) (sym content))))

    -- what a body finds: `kept_memory` is the memory that came back
    module _ (after : Held) (after_is : after ≡ held_of (desc_at ds page)) (kept_memory read : List ℕ) (back : kept_memory ≡ m') (read_is : read ≡ kept_memory)
        (meta : Kept) (notes : meta ≡ noted s.meta page after.shape (bytes_of read after)) where
      notes_here : meta ≡ noted s.meta page (shape_of new) own
      notes_here =
          notes ∙ ap (λ (x : List ℕ). noted s.meta page after.shape (bytes_of x after)) (read_is ∙ back) ∙ ap (λ (h : Held). noted s.meta page h.shape (bytes_of m' h)) (after_is ∙ ap held_of desc_new)
          ∙ ap (noted s.meta page (shape_of new)) there

      abbrev left : Store
      left = store_in s.codec m' (set s.descriptors page new) used (noted s.meta page (shape_of new) own) s.counts s.stops s.cursor

      left_is : store_in s.codec kept_memory ds used meta s.counts s.stops s.cursor ≡ left
      left_is =
          ap (λ (x : List ℕ). store_in s.codec x ds used meta s.counts s.stops s.cursor) back ∙ ap (λ (k : Kept). store_in s.codec m' ds used k s.counts s.stops s.cursor) notes_here
          ∙ ap (λ (xs : List Desc). store_in s.codec m' xs used (noted s.meta page (shape_of new) own) s.counts s.stops s.cursor) comes.descriptors_are

      pub made_by : MakesTurnOn s page turn (store_in s.codec kept_memory ds used meta s.counts s.stops s.cursor)
      made_by = subst (MakesTurnOn s page turn) (sym left_is) made

      pub kept_by : IsKept (store_in s.codec kept_memory ds used meta s.counts s.stops s.cursor) kept_memory sizes
      kept_by = subst (λ (t : Store). IsKept t kept_memory sizes) (sym left_is) (subst (λ (x : List ℕ). IsKept left x sizes) (sym back) kept_made)

      -- the page is nearer its plan
      falls_here : far_of s.codec (shape_of new) own < far_of s.codec (shape_of old) (bytes_of memory (held_of old)) → far_at left page < far_at s page
      unfolding made
      falls_here less =
          let far : far_at s page ≡ far_of s.codec (shape_of old) (bytes_of memory (held_of old)) =
          ap (λ (f : Shape). far_of s.codec f (bytes_at s.bytes page)) (own_shape s memory sizes kept page within) ∙ ap (far_of s.codec (shape_of old)) (own_bytes s memory sizes kept page within) in
          let after : far_at left page ≡ far_of s.codec (shape_of new) own = far_left s left page turn kept.sound within made in
          subst (λ (n : ℕ). n < far_at s page) (sym after) (subst (λ (n : ℕ). far_of s.codec (shape_of new) own < n) (sym far) less)

      pub falls_by : (turn ≢ Next → far_of s.codec next (body next (bytes_of m' held)) < far_of s.codec held.shape (bytes_of m held))
          → far_at (store_in s.codec kept_memory ds used meta s.counts s.stops s.cursor) page < far_at s page
      falls_by falls =
          let less : far_of s.codec next (body next front) < far_of s.codec (shape_of old) (bytes_of memory (held_of old)) =
          subst (λ (h : Held). far_of s.codec next (body next (bytes_of m' h)) < far_of s.codec h.shape (bytes_of memory h)) held_is
          (subst (λ (x : List ℕ). far_of s.codec next (body next (bytes_of m' held)) < far_of s.codec held.shape (bytes_of x held)) m_is (falls off)) in
          subst (λ (t : Store). far_at t page < far_at s page) (sym left_is)
          (falls_here (subst (λ (f : Shape). far_of s.codec f (body f front) < far_of s.codec (shape_of old) (bytes_of memory (held_of old))) (sym comes.shape_is) less))
