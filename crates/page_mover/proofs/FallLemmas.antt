-- Each turn brings a page nearer to its plan.
use Rattle.std.proofs.Common.{◌≡◌, ◌≢◌, ◌↔◌, ℕ, ◌+◌, ◌-◌, ◌*◌, ◌<◌, ◌≤◌, ◌==◌, ◌&&◌, Bool, true, false, cond, refl, ap, ◌∙◌, sym, subst, arith, List, Option, length, inl, inr}
use Rattle.std.proofs.lemmas.Bool.{cases_eq, false≢true}
use Rattle.std.proofs.lemmas.Bool.Decides.{nat_tests}
use Rattle.std.proofs.lemmas.List.{length-append, length-drop, length-set, length-take}
use Rattle.byte_parts.specs.Parts.{written}
use Rattle.hier_types.specs.declared.settings.Codec.{Codec}
use Rattle.hier_types.proofs.TableLemmas.{length-tabulate, get_or-tabulate}
use Rattle.line_codec.specs.Layout.{IsTarget, cap, stored_sizes, exceptions_of}
use Rattle.page_plan.specs.declared.least.PagePlan.{PagePlan}
use Rattle.page_plan.specs.declared.least.PagePlan.TheVariants as plans
use Rattle.page_plan.specs.PagePlan.{IsZeroPage, plan_of}
use Rattle.page_slots.specs.declared.desc.Shape.{Shape}
use Rattle.page_slots.specs.declared.desc.Shape.TheVariants as shapes
use Rattle.page_slots.specs.declared.desc.Slots.{Slots}
use Rattle.page_slots.specs.declared.desc.Slots.TheVariants.{Packed, Mid}
use Rattle.page_slots.specs.Chunks.{count_in}
use Rattle.page_slots.specs.Descs.{line_of, content_of, size_of}
use Rattle.page_slots.specs.Forms.{form_of}
use Rattle.page_slots.specs.Lines.{chunk_of, content_at, mark, meta}
use Rattle.page_slots.specs.Moves.{Hoists, moved_down, moved_up}
use Rattle.page_slots.specs.Sound.{IsSlotted, IsSound}
use Rattle.page_slots.proofs.ChunkLemmas.{count_add, count_few, count_leaves, count_same}
use Rattle.page_slots.proofs.ContentLemmas.{size_sound}
use Rattle.page_slots.proofs.FormLemmas.{form_is}
use Rattle.page_slots.proofs.FrontLemmas.{byte_of_front}
use Rattle.page_slots.proofs.MarkLemmas.{MarksHoist, marks_hoist}
use Rattle.page_mover.specs.declared.turning.Turn.{Turn}
use Rattle.page_mover.specs.declared.turning.Turn.TheVariants.{Next, Zero, Rewrite, Down, Up, Hoist, Halve}
use Rattle.page_mover.specs.Far.{is_at_plan, rest, mid_far, slots_far, far_by, far_of}
use Rattle.page_mover.specs.Moves.{body, Halves, Makes, Keeps}
use Rattle.page_mover.specs.Turns.{goes_down, slots_turn, turn_by, turn_of}
use Rattle.page_mover.proofs.KeepLemmas.{part_all}
use Rattle.page_mover.proofs.PlanLemmas.{least_of, not_raw, sizes_of, zeros_plan}
use Rattle.page_mover.proofs.RowLemmas.{HasPlan, own_sizes, not_zero_row, cap_le, plan_le, row_of, none_low, lands_inside, rooms_down, down_is, up_is, rewrite_is}
use Rattle.page_mover.proofs.TableLemmas.{next_row, outer_row, halve_row, rewrite_row, inner_row, up_row, down_row, mid_down, mid_up, mid_row}

-- How far a page can be.

outside_few : (j k : ℕ) → j ≤ k → k ≤ 2 → cap k - cap j + (k - j) ≤ 26
outside_few j k le few = grind (arith, nat_tests)

outside_le : (codec : Codec) (order target plan_order : ℕ) (bytes : List ℕ) → IsSlotted codec (Packed order target) bytes → plan_order ≤ order
    → count_in (cap plan_order) (cap order) bytes 64 + (order - plan_order) ≤ 26
outside_le codec order target plan_order bytes sound le =
    let few = count_few (cap order - cap plan_order) (cap plan_order) (cap order) bytes (omega (arith, cap_le plan_order order le)) sound.lines.apart in
    omega (arith, outside_few plan_order order le sound.holds.order_in)

below_le : (codec : Codec) (order target goal : ℕ) (bytes : List ℕ) → IsSlotted codec (Packed order target) bytes → IsTarget goal → target < goal → count_in 0 (1 + goal) bytes 64 ≤ 24
below_le codec order target goal bytes sound is less =
    let few = count_few (goal - target) (1 + target) (1 + goal) bytes (omega arith) sound.lines.apart in
    let own : IsTarget target = sound.holds.targets in
    omega (arith, none_low codec (Packed order target) bytes 0 sound, count_add 0 (1 + target) (1 + goal) bytes 64 (omega arith) (omega arith), own.1, is.2)

packed_near : (codec : Codec) (sizes : List (Option ℕ)) (order target : ℕ) (bytes : List ℕ) (plan_order goal : ℕ) → HasPlan codec sizes (Packed order target) bytes plan_order goal
    → (slots_far sizes (Packed order target) bytes plan_order goal ≤ 117) × (target ≡ goal → slots_far sizes (Packed order target) bytes plan_order goal ≤ 26)
packed_near codec sizes order target bytes plan_order goal has =
    let le = plan_le codec sizes (Packed order target) bytes plan_order goal has in
    let few = outside_le codec order target plan_order bytes has.sound le in
    elim (row_of codec sizes order target bytes plan_order goal has) [
      | next_row a b turn far ↦ (omega arith, λ e. omega arith)
      | outer_row a b turn far ↦ (omega (arith, few), λ e. omega (arith, few))
      | halve_row a b d turn far ↦ (omega (arith, few), λ e. omega (arith, few))
      | rewrite_row a turn far ↦ (omega arith, λ e. omega arith)
      | inner_row less need some turn far ↦ (omega (arith, below_le codec order target goal bytes has.sound has.least.is_target less), λ e. absurd (omega arith))
      | up_row less a b turn far ↦ (omega arith, λ e. absurd (omega arith))
      | down_row less a turn far ↦ (omega arith, λ e. absurd (omega arith))
    ]

rest_near : (goal target : ℕ) → (rest goal target ≤ 120) × (29 ≤ rest goal target) × (goal ≢ target → rest goal target ≡ 120)
rest_near goal target = (grind (arith, nat_tests), grind (arith, nat_tests), λ ne. grind (arith, nat_tests))

slots_near : (codec : Codec) (sizes : List (Option ℕ)) (slots : Slots) (bytes : List ℕ) (order goal : ℕ) → HasPlan codec sizes slots bytes order goal → slots_far sizes slots bytes order goal ≤ 183
slots_near codec sizes (Packed own target) bytes order goal has = omega (arith, (packed_near codec sizes own target bytes order goal has).0)
slots_near codec sizes (Mid own small large at) bytes order goal has =
    let line = has.sound.holds.targets.1.1.1 in
    elim (mid_row own small large at (exceptions_of sizes small) goal) [
      | mid_down a b turn far ↦ omega (arith, far, (rest_near goal small).0, line.0)
      | mid_up a turn far ↦ omega (arith, far, (rest_near goal large).0, line.1)
    ]

-- nothing is left to do exactly where nothing is far
slots_next : (codec : Codec) (sizes : List (Option ℕ)) (slots : Slots) (bytes : List ℕ) (order goal : ℕ) → HasPlan codec sizes slots bytes order goal
    → (slots_turn sizes slots bytes order goal ≡ Next → slots_far sizes slots bytes order goal ≡ 0) × (slots_far sizes slots bytes order goal ≡ 0 → slots_turn sizes slots bytes order goal ≡ Next)
slots_next codec sizes (Packed own target) bytes order goal has = elim (row_of codec sizes own target bytes order goal has) [
  | next_row a b turn far ↦ (λ e. far, λ z. turn)
  | outer_row a b turn far ↦ (λ e. cc, λ z. absurd (omega arith))
  | halve_row a b d turn far ↦ (λ e. cc, λ z. absurd (omega arith))
  | rewrite_row a turn far ↦ (λ e. cc, λ z. absurd (omega arith))
  | inner_row a b d turn far ↦ (λ e. cc, λ z. absurd (omega arith))
  | up_row a b d turn far ↦ (λ e. cc, λ z. absurd (omega arith))
  | down_row a b turn far ↦ (λ e. cc, λ z. absurd (omega arith))
]
slots_next codec sizes (Mid own small large at) bytes order goal has =
    elim (mid_row own small large at (exceptions_of sizes small) goal) [
      | mid_down a b turn far ↦ (λ e. cc, λ z. absurd (omega (arith, far, z, (rest_near goal small).1)))
      | mid_up a turn far ↦ (λ e. cc, λ z. absurd (omega (arith, far, z, (rest_near goal large).1)))
    ]

-- The turns of a page in slots whose plan is packed.

abbrev Falls : List (Option ℕ) → Slots → List ℕ → Slots → List ℕ → ℕ → ℕ → Type 0
Falls sizes slots old next new order goal = slots_far sizes next new order goal < slots_far sizes slots old order goal

-- the numbers of a half-moved page before and after a shift

down_far : (order small large at outgrown goal : ℕ) → goal ≤ small → 1 + large + outgrown ≤ cap order → mid_far order small large at outgrown goal ≡ 64 - at + rest goal small
down_far order small large at outgrown goal le rooms =
    let now : goes_down order small large outgrown goal ≡ true = grind (arith, nat_tests) in
    rw now refl

first_down : (order small large outgrown goal : ℕ) → goal ≡ small → 1 + large + outgrown ≤ cap order → mid_far order small large 1 outgrown goal ≡ 92
first_down order small large outgrown goal e rooms = grind (arith, nat_tests)

-- where the last line moves the page is packed
last_near : (codec : Codec) (sizes : List (Option ℕ)) (order target : ℕ) (bytes : List ℕ) (plan_order goal most : ℕ) → HasPlan codec sizes (Packed order target) bytes plan_order goal
    → most ≡ 1 + rest goal target → slots_far sizes (Packed order target) bytes plan_order goal < most
last_near codec sizes order target bytes plan_order goal most has is =
    let bound = packed_near codec sizes order target bytes plan_order goal has in
    let left = rest_near goal target in
    elim (cases_eq goal target) [ inl same ↦ omega (arith, is, left.1, bound.1 (sym same)) | inr other ↦ omega (arith, is, bound.0, left.2 other) ]

down_by : (codec : Codec) (sizes : List (Option ℕ)) (own small large at order goal : ℕ) (old new : List ℕ) (last : Bool) → (at == 63) ≡ last → goal ≤ small → 1 + large + exceptions_of sizes small ≤ cap own
    → HasPlan codec sizes (Mid own small large at) old order goal → slots_far sizes (Mid own small large at) old order goal ≡ 64 - at + rest goal small
    → HasPlan codec sizes (cond last (Packed own small) (Mid own small large (at + 1))) new order goal
    → Falls sizes (Mid own small large at) old (cond last (Packed own small) (Mid own small large (at + 1))) new order goal
down_by codec sizes own small large at order goal old new true is le rooms has far has' =
    let at_is : at ≡ 63 = grind (arith, nat_tests) in
    last_near codec sizes own small new order goal (slots_far sizes (Mid own small large at) old order goal) has' (omega arith)
down_by codec sizes own small large at order goal old new false is le rooms has far has' =
    let ne : at ≢ 63 = grind (arith, nat_tests) in
    let line = has.sound.holds.targets.1.1.1 in
    let now : slots_far sizes (Mid own small large (at + 1)) new order goal ≡ 64 - (at + 1) + rest goal small = down_far own small large (at + 1) (exceptions_of sizes small) goal le rooms in
    omega (arith, now, far, line.0, line.1)

down_falls : (codec : Codec) (sizes : List (Option ℕ)) (slots : Slots) (old new : List ℕ) (order goal small : ℕ) → HasPlan codec sizes slots old order goal
    → Down small ≡ slots_turn sizes slots old order goal → HasPlan codec sizes (moved_down slots small) new order goal → Falls sizes slots old (moved_down slots small) new order goal
down_falls codec sizes (Packed own target) old new order goal small has is has' = elim (row_of codec sizes own target old order goal has) [
  | next_row a b turn far ↦ cc
  | outer_row a b turn far ↦ cc
  | halve_row a b d turn far ↦ cc
  | rewrite_row a turn far ↦ cc
  | inner_row a b d turn far ↦ cc
  | up_row a b d turn far ↦ cc
  | down_row less need turn far ↦
      let e : goal ≡ small = down_is _ _ (sym turn ∙ sym is) in
      let count : exceptions_of sizes goal ≡ exceptions_of sizes small = ap (exceptions_of sizes) e in
      let now : slots_far sizes (Mid own small target 1) new order goal ≡ 92 = first_down own small target (exceptions_of sizes small) goal e (omega (arith, count, rooms_down sizes own target goal less need)) in
      omega (arith, far, now)
]
down_falls codec sizes (Mid own least large at) old new order goal small has is has' =
    elim (mid_row own least large at (exceptions_of sizes least) goal) [
      | mid_down le rooms turn far ↦
          let e : least ≡ small = down_is _ _ (sym turn ∙ sym is) in
          subst (λ (s : ℕ). HasPlan codec sizes (moved_down (Mid own least large at) s) new order goal → Falls sizes (Mid own least large at) old (moved_down (Mid own least large at) s) new order goal) e
          (λ has_. down_by codec sizes own least large at order goal old new (at == 63) refl le rooms has far has_) has'
      | mid_up a turn far ↦ cc
    ]

up_far : (order small large at outgrown goal : ℕ) → goes_down order small large outgrown goal ≡ false → mid_far order small large at outgrown goal ≡ at + rest goal large
up_far order small large at outgrown goal now = rw now refl

first_up : (order small large outgrown goal : ℕ) → goal ≡ large → small < goal → mid_far order small large 63 outgrown goal ≡ 92
first_up order small large outgrown goal e less =
    let now : goes_down order small large outgrown goal ≡ false = grind (arith, nat_tests) in
    rw (now, e) (grind (arith, nat_tests))

up_by : (codec : Codec) (sizes : List (Option ℕ)) (own small large at order goal : ℕ) (old new : List ℕ) (last : Bool) → (at == 1) ≡ last → goes_down own small large (exceptions_of sizes small) goal ≡ false
    → HasPlan codec sizes (Mid own small large at) old order goal → slots_far sizes (Mid own small large at) old order goal ≡ at + rest goal large
    → HasPlan codec sizes (cond last (Packed own large) (Mid own small large (at - 1))) new order goal
    → Falls sizes (Mid own small large at) old (cond last (Packed own large) (Mid own small large (at - 1))) new order goal
up_by codec sizes own small large at order goal old new true is up has far has' =
    let at_is : at ≡ 1 = grind (arith, nat_tests) in
    last_near codec sizes own large new order goal (slots_far sizes (Mid own small large at) old order goal) has' (omega arith)
up_by codec sizes own small large at order goal old new false is up has far has' =
    let ne : at ≢ 1 = grind (arith, nat_tests) in
    let line = has.sound.holds.targets.1.1.1 in
    let now : slots_far sizes (Mid own small large (at - 1)) new order goal ≡ at - 1 + rest goal large = up_far own small large (at - 1) (exceptions_of sizes small) goal up in
    omega (arith, now, far, line.0, line.1)

up_falls : (codec : Codec) (sizes : List (Option ℕ)) (slots : Slots) (old new : List ℕ) (order goal large : ℕ) → HasPlan codec sizes slots old order goal
    → Up large ≡ slots_turn sizes slots old order goal → HasPlan codec sizes (moved_up slots large) new order goal → Falls sizes slots old (moved_up slots large) new order goal
up_falls codec sizes (Packed own target) old new order goal large has is has' = elim (row_of codec sizes own target old order goal has) [
  | next_row a b turn far ↦ cc
  | outer_row a b turn far ↦ cc
  | halve_row a b d turn far ↦ cc
  | rewrite_row a turn far ↦ cc
  | inner_row a b d turn far ↦ cc
  | up_row less need none turn far ↦
      let now : slots_far sizes (Mid own target large 63) new order goal ≡ 92 = first_up own target large (exceptions_of sizes target) goal (up_is _ _ (sym turn ∙ sym is)) less in
      omega (arith, far, now)
  | down_row a b turn far ↦ cc
]
up_falls codec sizes (Mid own small most at) old new order goal large has is has' =
    elim (mid_row own small most at (exceptions_of sizes small) goal) [
      | mid_down a b turn far ↦ cc
      | mid_up up turn far ↦
          let e : most ≡ large = up_is _ _ (sym turn ∙ sym is) in
          subst (λ (l : ℕ). HasPlan codec sizes (moved_up (Mid own small most at) l) new order goal → Falls sizes (Mid own small most at) old (moved_up (Mid own small most at) l) new order goal) e
          (λ has_. up_by codec sizes own small most at order goal old new (at == 1) refl up has far has_) has'
    ]

-- a hoist: an exception left the chunks that are counted

outer_falls : (codec : Codec) (sizes : List (Option ℕ)) (order target : ℕ) (old new : List ℕ) (plan_order goal : ℕ) → HasPlan codec sizes (Packed order target) old plan_order goal
    → HasPlan codec sizes (Packed order target) new plan_order goal → target ≡ goal → 0 < count_in (cap plan_order) (cap order) old 64
    → slots_far sizes (Packed order target) old plan_order goal ≡ count_in (cap plan_order) (cap order) old 64 + (order - plan_order)
    → MarksHoist (form_of (Packed order target)) (cap plan_order) (cap order) target old new → Falls sizes (Packed order target) old (Packed order target) new plan_order goal
outer_falls codec sizes order target old new plan_order goal has has' e some far marks =
    let inside = lands_inside codec sizes order target old plan_order goal (chunk_of (meta new marks.line)) has e some marks.to.lowest in
    let leaves = count_leaves (cap plan_order) (cap order) old new marks.line marks.taken.line_in marks.taken.is_exception marks.taken.from marks.taken.below (λ from below. omega arith) marks.others in
    elim (row_of codec sizes order target new plan_order goal has') [
      | next_row a b turn far' ↦ omega arith
      | outer_row a b turn far' ↦ omega arith
      | halve_row a b d turn far' ↦ omega arith
      | rewrite_row other turn far' ↦ absurd (other e)
      | inner_row less a b turn far' ↦ absurd (omega arith)
      | up_row less a b turn far' ↦ absurd (omega arith)
      | down_row less a turn far' ↦ absurd (omega arith)
    ]

inner_falls : (codec : Codec) (sizes : List (Option ℕ)) (order target : ℕ) (old new : List ℕ) (plan_order goal : ℕ) → HasPlan codec sizes (Packed order target) new plan_order goal
    → target < goal → 0 < count_in 0 (1 + goal) old 64 → slots_far sizes (Packed order target) old plan_order goal ≡ 93 + count_in 0 (1 + goal) old 64
    → MarksHoist (form_of (Packed order target)) 0 (1 + goal) goal old new → Falls sizes (Packed order target) old (Packed order target) new plan_order goal
inner_falls codec sizes order target old new plan_order goal has' less some far marks =
    let above : goal < chunk_of (meta new marks.line) = marks.to.above in
    let leaves = count_leaves 0 (1 + goal) old new marks.line marks.taken.line_in marks.taken.is_exception marks.taken.from marks.taken.below (λ from below. omega arith) marks.others in
    elim (row_of codec sizes order target new plan_order goal has') [
      | next_row a b turn far' ↦ absurd (omega arith)
      | outer_row a b turn far' ↦ absurd (omega arith)
      | halve_row a b d turn far' ↦ absurd (omega arith)
      | rewrite_row other turn far' ↦ omega arith
      | inner_row a b d turn far' ↦ omega arith
      | up_row a b d turn far' ↦ omega arith
      | down_row more a turn far' ↦ absurd (omega arith)
    ]

at_marks : (slots : Slots) (old new : List ℕ) (low high above low' high' above' : ℕ) → Hoist low high above ≡ Hoist low' high' above' → MarksHoist (form_of slots) low high above old new
    → MarksHoist (form_of slots) low' high' above' old new
at_marks slots old new low high above low' high' above' e marks =
    let a : low ≡ low' = cc in
    let b : high ≡ high' = cc in
    let d : above ≡ above' = cc in
    subst (λ (n : ℕ). MarksHoist (form_of slots) low' high' n old new) d (subst (λ (n : ℕ). MarksHoist (form_of slots) low' n above old new) b (subst (λ (n : ℕ). MarksHoist (form_of slots) n high above old new) a marks))

hoist_falls : (codec : Codec) (sizes : List (Option ℕ)) (slots : Slots) (old new : List ℕ) (order goal low high above : ℕ) → HasPlan codec sizes slots old order goal
    → Hoist low high above ≡ slots_turn sizes slots old order goal → HasPlan codec sizes slots new order goal → MarksHoist (form_of slots) low high above old new → Falls sizes slots old slots new order goal
hoist_falls codec sizes (Packed own target) old new order goal low high above has is has' marks = elim (row_of codec sizes own target old order goal has) [
  | next_row a b turn far ↦ cc
  | outer_row same some turn far ↦ outer_falls codec sizes own target old new order goal has has' same some far (at_marks (Packed own target) old new low high above _ _ _ (is ∙ turn) marks)
  | halve_row a b d turn far ↦ cc
  | rewrite_row a turn far ↦ cc
  | inner_row less need some turn far ↦ inner_falls codec sizes own target old new order goal has' less some far (at_marks (Packed own target) old new low high above _ _ _ (is ∙ turn) marks)
  | up_row a b d turn far ↦ cc
  | down_row a b turn far ↦ cc
]
hoist_falls codec sizes (Mid own small large at) old new order goal low high above has is has' marks =
    elim (mid_row own small large at (exceptions_of sizes small) goal) [ mid_down a b turn far ↦ cc | mid_up a turn far ↦ cc ]

-- the second half is given back where no exception stands in it
halve_falls : (codec : Codec) (sizes : List (Option ℕ)) (own target : ℕ) (old new : List ℕ) (order goal : ℕ) → HasPlan codec sizes (Packed own target) old order goal
    → Halve ≡ slots_turn sizes (Packed own target) old order goal → HasPlan codec sizes (Packed (own - 1) target) new order goal → ((i : ℕ) → i < 64 → meta new i ≡ meta old i)
    → Falls sizes (Packed own target) old (Packed (own - 1) target) new order goal
halve_falls codec sizes own target old new order goal has is has' stay = elim (row_of codec sizes own target old order goal has) [
  | next_row a b turn far ↦ cc
  | outer_row a b turn far ↦ cc
  | halve_row same none less turn far ↦
      let le = cap_le order (own - 1) (omega arith) in
      let le' = cap_le (own - 1) own (omega arith) in
      let none' : count_in (cap order) (cap (own - 1)) new 64 ≡ 0 = omega (arith, count_same (cap order) (cap (own - 1)) old new 64 stay, count_add (cap order) (cap (own - 1)) (cap own) old 64 le le') in
      elim (row_of codec sizes (own - 1) target new order goal has') [
        | next_row a b turn' far' ↦ omega arith
        | outer_row a some turn' far' ↦ absurd (omega arith)
        | halve_row a b d turn' far' ↦ omega arith
        | rewrite_row other turn' far' ↦ absurd (other same)
        | inner_row more a b turn' far' ↦ absurd (omega arith)
        | up_row more a b turn' far' ↦ absurd (omega arith)
        | down_row more a turn' far' ↦ absurd (omega arith)
      ]
  | rewrite_row a turn far ↦ cc
  | inner_row a b d turn far ↦ cc
  | up_row a b d turn far ↦ cc
  | down_row a b turn far ↦ cc
]

-- a page that was laid at its plan
laid_far : (sizes : List (Option ℕ)) (order target : ℕ) (new : List ℕ) → slots_far sizes (Packed order target) new order target ≡ 0
laid_far sizes order target new = grind (arith, nat_tests)

rewrite_falls : (codec : Codec) (sizes : List (Option ℕ)) (slots : Slots) (old new : List ℕ) (order goal plan_order target : ℕ) → HasPlan codec sizes slots old order goal
    → Rewrite plan_order target ≡ slots_turn sizes slots old order goal → Falls sizes slots old (Packed plan_order target) new order goal
rewrite_falls codec sizes (Packed own slot) old new order goal plan_order target has is = elim (row_of codec sizes own slot old order goal has) [
  | next_row a b turn far ↦ cc
  | outer_row a b turn far ↦ cc
  | halve_row a b d turn far ↦ cc
  | rewrite_row a turn far ↦
      let parts = rewrite_is order goal plan_order target (sym turn ∙ sym is) in
      let now : slots_far sizes (Packed plan_order target) new order goal ≡ 0 = rw (parts.0, parts.1) (laid_far sizes plan_order target new) in
      omega (arith, now, far)
  | inner_row a b d turn far ↦ cc
  | up_row a b d turn far ↦ cc
  | down_row a b turn far ↦ cc
]
rewrite_falls codec sizes (Mid own small large at) old new order goal plan_order target has is =
    elim (mid_row own small large at (exceptions_of sizes small) goal) [ mid_down a b turn far ↦ cc | mid_up a turn far ↦ cc ]

-- Pages of any shape.

-- a page in slots takes its whole block
whole_body : (codec : Codec) (slots : Slots) (old new : List ℕ) → IsSlotted codec slots old → length new ≡ length old → body (shapes.Slotted slots) new ≡ new
whole_body codec slots old new sound same = part_all (size_of (shapes.Slotted slots)) new (same ∙ size_sound codec (shapes.Slotted slots) old sound)

slots_plan : (codec : Codec) (slots : Slots) (bytes : List ℕ) (order goal exceptions : ℕ) → IsSlotted codec slots bytes
    → plan_of codec (content_of (shapes.Slotted slots) bytes) ≡ plans.Packed order goal exceptions → HasPlan codec (sizes_of codec slots bytes) slots bytes order goal
slots_plan codec slots bytes order goal exceptions sound e =
    own_sizes codec slots bytes order goal sound (least_of codec (content_of (shapes.Slotted slots) bytes) order goal exceptions e)

near_by : (codec : Codec) (shape : Shape) (bytes : List ℕ) (plan : PagePlan) → IsSound codec shape bytes → plan_of codec (content_of shape bytes) ≡ plan
    → far_by (stored_sizes codec (content_of shape bytes)) shape bytes plan ≤ 183
near_by codec shapes.Zero bytes plan sound e = omega arith
near_by codec shapes.Raw bytes plans.Zero sound e = omega arith
near_by codec shapes.Raw bytes (plans.Packed order goal exceptions) sound e = omega arith
near_by codec shapes.Raw bytes plans.Raw sound e = omega arith
near_by codec (shapes.Slotted slots) bytes plans.Zero sound e = omega arith
near_by codec (shapes.Slotted slots) bytes (plans.Packed order goal exceptions) sound e =
    slots_near codec (sizes_of codec slots bytes) slots bytes order goal (slots_plan codec slots bytes order goal exceptions sound e)
near_by codec (shapes.Slotted slots) bytes plans.Raw sound e = omega arith

-- no page is farther than this
pub near : (codec : Codec) (shape : Shape) (bytes : List ℕ) → IsSound codec shape bytes → far_of codec shape bytes ≤ 183
near codec shape bytes sound = near_by codec shape bytes (plan_of codec (content_of shape bytes)) sound refl

next_by : (codec : Codec) (shape : Shape) (bytes : List ℕ) (plan : PagePlan) → IsSound codec shape bytes → plan_of codec (content_of shape bytes) ≡ plan
    → turn_by (stored_sizes codec (content_of shape bytes)) shape bytes plan ≡ Next ↔ (far_by (stored_sizes codec (content_of shape bytes)) shape bytes plan ≡ 0)
next_by codec shapes.Zero bytes plan sound e = (λ n. refl, λ z. refl)
next_by codec shapes.Raw bytes plans.Zero sound e = (λ n. cc, λ z. absurd (omega arith))
next_by codec shapes.Raw bytes (plans.Packed order goal exceptions) sound e = (λ n. cc, λ z. absurd (omega arith))
next_by codec shapes.Raw bytes plans.Raw sound e = (λ n. refl, λ z. refl)
next_by codec (shapes.Slotted slots) bytes plans.Zero sound e = (λ n. cc, λ z. absurd (omega arith))
next_by codec (shapes.Slotted slots) bytes (plans.Packed order goal exceptions) sound e =
    slots_next codec (sizes_of codec slots bytes) slots bytes order goal (slots_plan codec slots bytes order goal exceptions sound e)
next_by codec (shapes.Slotted slots) bytes plans.Raw sound e = (λ n. refl, λ z. refl)

-- nothing is left to do exactly where nothing is far
pub next_far : (codec : Codec) (shape : Shape) (bytes : List ℕ) → IsSound codec shape bytes → turn_of codec shape bytes ≡ Next ↔ (far_of codec shape bytes ≡ 0)
next_far codec shape bytes sound = next_by codec shape bytes (plan_of codec (content_of shape bytes)) sound refl

-- the page that is left has the same plan and sizes
pub next_plan : (codec : Codec) (slots next : Slots) (old new : List ℕ) (order goal : ℕ) → HasPlan codec (sizes_of codec slots old) slots old order goal
    → Keeps codec (content_of (shapes.Slotted slots) old) (shapes.Slotted next) new → HasPlan codec (sizes_of codec slots old) next (body (shapes.Slotted next) new) order goal
next_plan codec slots next old new order goal has keeps = record { sound = keeps.sound; sizes_are = ap (stored_sizes codec) (sym keeps.content); least = has.least }

-- the page that a turn leaves is nearer to a packed plan
abbrev pub IsNearer : List (Option ℕ) → Slots → List ℕ → Shape → List ℕ → ℕ → ℕ → ℕ → Type 0
IsNearer sizes slots old next new order goal exceptions = far_by sizes next (body next new) (plans.Packed order goal exceptions) < slots_far sizes slots old order goal

at_next : (codec : Codec) (lines : List (List ℕ)) (next shape : Shape) (new : List ℕ) → next ≡ shape → Keeps codec lines next new → Keeps codec lines shape new
at_next codec lines next shape new e keeps = subst (λ (s : Shape). Keeps codec lines s new) e keeps

pub rewrite_nearer : (codec : Codec) (slots : Slots) (old : List ℕ) (next : Shape) (new : List ℕ) (order goal exceptions plan_order target : ℕ) → HasPlan codec (sizes_of codec slots old) slots old order goal
    → Rewrite plan_order target ≡ slots_turn (sizes_of codec slots old) slots old order goal → next ≡ shapes.Slotted (Packed plan_order target)
    → IsNearer (sizes_of codec slots old) slots old next new order goal exceptions
rewrite_nearer codec slots old next new order goal exceptions plan_order target has is e =
    subst (λ (s : Shape). IsNearer (sizes_of codec slots old) slots old s new order goal exceptions) (sym e)
    (rewrite_falls codec (sizes_of codec slots old) slots old (body (shapes.Slotted (Packed plan_order target)) new) order goal plan_order target has is)

pub down_nearer : (codec : Codec) (slots : Slots) (old : List ℕ) (next : Shape) (new : List ℕ) (order goal exceptions small : ℕ) → HasPlan codec (sizes_of codec slots old) slots old order goal
    → Down small ≡ slots_turn (sizes_of codec slots old) slots old order goal → next ≡ shapes.Slotted (moved_down slots small) → Keeps codec (content_of (shapes.Slotted slots) old) next new
    → IsNearer (sizes_of codec slots old) slots old next new order goal exceptions
down_nearer codec slots old next new order goal exceptions small has is e keeps =
    let keeps' = at_next codec (content_of (shapes.Slotted slots) old) next (shapes.Slotted (moved_down slots small)) new e keeps in
    subst (λ (s : Shape). IsNearer (sizes_of codec slots old) slots old s new order goal exceptions) (sym e)
    (down_falls codec (sizes_of codec slots old) slots old (body (shapes.Slotted (moved_down slots small)) new) order goal small has is
    (next_plan codec slots (moved_down slots small) old new order goal has keeps'))

pub up_nearer : (codec : Codec) (slots : Slots) (old : List ℕ) (next : Shape) (new : List ℕ) (order goal exceptions large : ℕ) → HasPlan codec (sizes_of codec slots old) slots old order goal
    → Up large ≡ slots_turn (sizes_of codec slots old) slots old order goal → next ≡ shapes.Slotted (moved_up slots large) → Keeps codec (content_of (shapes.Slotted slots) old) next new
    → IsNearer (sizes_of codec slots old) slots old next new order goal exceptions
up_nearer codec slots old next new order goal exceptions large has is e keeps =
    let keeps' = at_next codec (content_of (shapes.Slotted slots) old) next (shapes.Slotted (moved_up slots large)) new e keeps in
    subst (λ (s : Shape). IsNearer (sizes_of codec slots old) slots old s new order goal exceptions) (sym e)
    (up_falls codec (sizes_of codec slots old) slots old (body (shapes.Slotted (moved_up slots large)) new) order goal large has is
    (next_plan codec slots (moved_up slots large) old new order goal has keeps'))

pub hoist_nearer : (codec : Codec) (slots : Slots) (old : List ℕ) (next : Shape) (new : List ℕ) (order goal exceptions low high above : ℕ) → HasPlan codec (sizes_of codec slots old) slots old order goal
    → Hoist low high above ≡ slots_turn (sizes_of codec slots old) slots old order goal → length new ≡ length old → next ≡ shapes.Slotted slots → Keeps codec (content_of (shapes.Slotted slots) old) next new
    → MarksHoist (form_of slots) low high above old new → IsNearer (sizes_of codec slots old) slots old next new order goal exceptions
hoist_nearer codec slots old next new order goal exceptions low high above has is same e keeps marks =
    let keeps' = at_next codec (content_of (shapes.Slotted slots) old) next (shapes.Slotted slots) new e keeps in
    subst (λ (s : Shape). IsNearer (sizes_of codec slots old) slots old s new order goal exceptions) (sym e)
    (hoist_falls codec (sizes_of codec slots old) slots old (body (shapes.Slotted slots) new) order goal low high above has is
    (next_plan codec slots slots old new order goal has keeps')
    (subst (MarksHoist (form_of slots) low high above old) (sym (whole_body codec slots old new has.sound same)) marks))

cap_least : (order : ℕ) → 8 ≤ cap order
cap_least order = grind (arith, nat_tests)

pub halve_nearer : (codec : Codec) (slots : Slots) (old : List ℕ) (next : Shape) (new : List ℕ) (order goal exceptions : ℕ) → HasPlan codec (sizes_of codec slots old) slots old order goal
    → Halve ≡ slots_turn (sizes_of codec slots old) slots old order goal → Halves (shapes.Slotted slots) next → new ≡ old → Keeps codec (content_of (shapes.Slotted slots) old) next new
    → IsNearer (sizes_of codec slots old) slots old next new order goal exceptions
halve_nearer codec (Packed own target) old next new order goal exceptions has is e stay keeps =
    let keeps' = at_next codec (content_of (shapes.Slotted (Packed own target)) old) next (shapes.Slotted (Packed (own - 1) target)) new e keeps in
    subst (λ (s : Shape). IsNearer (sizes_of codec (Packed own target) old) (Packed own target) old s new order goal exceptions) (sym e)
    (halve_falls codec (sizes_of codec (Packed own target) old) own target old (body (shapes.Slotted (Packed (own - 1) target)) new) order goal has is
    (next_plan codec (Packed own target) (Packed (own - 1) target) old new order goal has keeps')
    (λ i i_in. byte_of_front i (64 * cap (own - 1)) new (omega (arith, cap_least (own - 1))) ∙ ap (λ (b : List ℕ). meta b i) stay))
halve_nearer codec (Mid own small large at) old next new order goal exceptions has is e stay keeps = absurd e

-- an exception that moves to another chunk leaves the block as long as it was
hoist_length : (codec : Codec) (slots : Slots) (low high above : ℕ) (old new : List ℕ) → IsSlotted codec slots old → Hoists (form_of slots) low high above old new → length new ≡ length old
hoist_length codec slots low high above old new sound hoists =
    let from = content_at (form_of slots) old hoists.line in
    let at = 64 * hoists.number in
    let whole : length from ≡ 64 = (sound.lines.has hoists.line hoists.taken.line_in).whole in
    let within : at + length from ≤ length old = omega (arith, size_sound codec (shapes.Slotted slots) old sound, hoists.to.below) in
    ap length hoists.value ∙ length-set (written at from old) hoists.line (128 + mark from + hoists.number) ∙ simp (length-append, length-take, length-drop) (omega arith)

slots_nearer : (codec : Codec) (slots : Slots) (old : List ℕ) (turn : Turn) (next : Shape) (new : List ℕ) (order goal exceptions : ℕ) → HasPlan codec (sizes_of codec slots old) slots old order goal
    → turn ≡ slots_turn (sizes_of codec slots old) slots old order goal → turn ≢ Next → Makes codec (shapes.Slotted slots) old turn next new
    → Keeps codec (content_of (shapes.Slotted slots) old) next new → IsNearer (sizes_of codec slots old) slots old next new order goal exceptions
slots_nearer codec slots old Next next new order goal exceptions has is some makes keeps = absurd (some refl)
slots_nearer codec slots old Zero next new order goal exceptions has is some makes keeps =
    absurd (not_zero_row codec (sizes_of codec slots old) slots old order goal has is)
slots_nearer codec slots old (Rewrite plan_order target) next new order goal exceptions has is some makes keeps =
    rewrite_nearer codec slots old next new order goal exceptions plan_order target has is makes.0
slots_nearer codec slots old (Down small) next new order goal exceptions has is some makes keeps =
    down_nearer codec slots old next new order goal exceptions small has is makes.0 keeps
slots_nearer codec slots old (Up large) next new order goal exceptions has is some makes keeps =
    up_nearer codec slots old next new order goal exceptions large has is makes.0 keeps
slots_nearer codec slots old (Hoist low high above) next new order goal exceptions has is some makes keeps =
    hoist_nearer codec slots old next new order goal exceptions low high above has is (hoist_length codec slots low high above old new has.sound makes.1) makes.0 keeps
    (marks_hoist (form_of slots) low high above old new (form_is slots (length old) has.sound.holds) (hoist_length codec slots low high above old new has.sound makes.1) makes.1)
slots_nearer codec slots old Halve next new order goal exceptions has is some makes keeps =
    halve_nearer codec slots old next new order goal exceptions has is makes.0 makes.1 keeps

-- a page that gives its block back
zero_nearer : (codec : Codec) (shape : Shape) (old : List ℕ) (turn : Turn) (next : Shape) (new : List ℕ) (sizes : List (Option ℕ)) (plan : PagePlan) → turn ≡ Zero → Makes codec shape old turn next new
    → far_by sizes next (body next new) plan < 1
zero_nearer codec shape old turn next new sizes plan e makes =
    let makes' : Makes codec shape old Zero next new = subst (λ (t : Turn). Makes codec shape old t next new) e makes in
    subst (λ (s : Shape). far_by sizes s (body s new) plan < 1) (sym makes'.0) (omega arith)

raw_nearer : (codec : Codec) (old : List ℕ) (turn : Turn) (next : Shape) (new : List ℕ) (sizes : List (Option ℕ)) (order goal exceptions : ℕ) → turn ≡ Rewrite order goal → Makes codec shapes.Raw old turn next new
    → far_by sizes next (body next new) (plans.Packed order goal exceptions) < 1
raw_nearer codec old turn next new sizes order goal exceptions e makes =
    let makes' : Makes codec shapes.Raw old (Rewrite order goal) next new = subst (λ (t : Turn). Makes codec shapes.Raw old t next new) e makes in
    subst (λ (s : Shape). far_by sizes s (body s new) (plans.Packed order goal exceptions) < 1) (sym makes'.0)
    (omega (arith, laid_far sizes order goal (body (shapes.Slotted (Packed order goal)) new)))

falls_by : (codec : Codec) (shape : Shape) (old : List ℕ) (turn : Turn) (next : Shape) (new : List ℕ) (plan : PagePlan) → plan_of codec (content_of shape old) ≡ plan
    → turn ≡ turn_by (stored_sizes codec (content_of shape old)) shape old plan → turn ≢ Next → IsSound codec shape old
    → Makes codec shape old turn next new → Keeps codec (content_of shape old) next new
    → far_by (stored_sizes codec (content_of shape old)) next (body next new) plan < far_by (stored_sizes codec (content_of shape old)) shape old plan
falls_by codec shapes.Zero old turn next new plan e is some sound makes keeps = absurd (some is)
falls_by codec shapes.Raw old turn next new plans.Raw e is some sound makes keeps = absurd (some is)
falls_by codec shapes.Raw old turn next new plans.Zero e is some sound makes keeps =
    zero_nearer codec shapes.Raw old turn next new (stored_sizes codec (content_of shapes.Raw old)) plans.Zero is makes
falls_by codec shapes.Raw old turn next new (plans.Packed order goal exceptions) e is some sound makes keeps =
    raw_nearer codec old turn next new (stored_sizes codec (content_of shapes.Raw old)) order goal exceptions is makes
falls_by codec (shapes.Slotted slots) old turn next new plans.Raw e is some sound makes keeps = absurd (some is)
falls_by codec (shapes.Slotted slots) old turn next new plans.Zero e is some sound makes keeps =
    zero_nearer codec (shapes.Slotted slots) old turn next new (sizes_of codec slots old) plans.Zero is makes
falls_by codec (shapes.Slotted slots) old turn next new (plans.Packed order goal exceptions) e is some sound makes keeps =
    slots_nearer codec slots old turn next new order goal exceptions (slots_plan codec slots old order goal exceptions sound e) is some makes keeps

-- a page that keeps its lines is as far from their plan as it says
pub far_kept : (codec : Codec) (lines : List (List ℕ)) (next : Shape) (new : List ℕ) → Keeps codec lines next new
    → far_of codec next (body next new) ≡ far_by (stored_sizes codec lines) next (body next new) (plan_of codec lines)
far_kept codec lines next new keeps = ap (λ (own : List (List ℕ)). far_by (stored_sizes codec own) next (body next new) (plan_of codec own)) keeps.content

-- each turn that is made brings the page nearer
pub falls : (codec : Codec) (shape : Shape) (old : List ℕ) (turn : Turn) (next : Shape) (new : List ℕ) → turn ≡ turn_of codec shape old → turn ≢ Next → IsSound codec shape old
    → Makes codec shape old turn next new → Keeps codec (content_of shape old) next new
    → far_of codec next (body next new) < far_of codec shape old
falls codec shape old turn next new is some sound makes keeps =
    let nearer = falls_by codec shape old turn next new (plan_of codec (content_of shape old)) refl is some sound makes keeps in
    subst (λ (n : ℕ). n < far_of codec shape old) (sym (far_kept codec (content_of shape old) next new keeps)) nearer

-- Nothing is far exactly at the plan.

at_plan_parts : (a b c d : ℕ) → ((a == b) && (c == d)) ≡ true → (a ≡ b) × (c ≡ d)
at_plan_parts a b c d e = (grind (arith, nat_tests), grind (arith, nat_tests))

slots_zero : (codec : Codec) (sizes : List (Option ℕ)) (slots : Slots) (bytes : List ℕ) (order goal exceptions : ℕ) → HasPlan codec sizes slots bytes order goal
    → slots_far sizes slots bytes order goal ≡ 0 ↔ (is_at_plan (shapes.Slotted slots) (plans.Packed order goal exceptions) ≡ true)
slots_zero codec sizes (Packed own target) bytes order goal exceptions has = (
  λ z. elim (row_of codec sizes own target bytes order goal has) [
    | next_row a b turn far ↦ grind (arith, nat_tests)
    | outer_row a b turn far ↦ absurd (omega arith)
    | halve_row a b d turn far ↦ absurd (omega arith)
    | rewrite_row a turn far ↦ absurd (omega arith)
    | inner_row a b d turn far ↦ absurd (omega arith)
    | up_row a b d turn far ↦ absurd (omega arith)
    | down_row a b turn far ↦ absurd (omega arith)
  ],
  λ e. let parts = at_plan_parts target goal own order e in rw (parts.0, parts.1) (laid_far sizes order goal bytes),
)
slots_zero codec sizes (Mid own small large at) bytes order goal exceptions has = (
  λ z. elim (mid_row own small large at (exceptions_of sizes small) goal) [
    | mid_down a b turn far ↦ absurd (omega (arith, far, z, (rest_near goal small).1))
    | mid_up a turn far ↦ absurd (omega (arith, far, z, (rest_near goal large).1))
  ],
  λ e. absurd (false≢true e),
)

not_zero_plan : (slots : Slots) → is_at_plan (shapes.Slotted slots) plans.Zero ≡ true → ⊥
not_zero_plan (Packed order target) e = false≢true e
not_zero_plan (Mid order small large at) e = false≢true e

-- the lines of a page of zeros
zero_page : (bytes : List ℕ) → IsZeroPage (content_of shapes.Zero bytes)
zero_page bytes i d within = get_or-tabulate d (line_of shapes.Zero bytes) 64 i (omega (arith, length-tabulate (line_of shapes.Zero bytes) 64))

zero_by : (codec : Codec) (shape : Shape) (bytes : List ℕ) (plan : PagePlan) → IsSound codec shape bytes → plan_of codec (content_of shape bytes) ≡ plan
    → far_by (stored_sizes codec (content_of shape bytes)) shape bytes plan ≡ 0 ↔ (is_at_plan shape plan ≡ true)
zero_by codec shapes.Zero bytes plan sound e = (λ z. ap (is_at_plan shapes.Zero) (sym e ∙ zeros_plan codec (content_of shapes.Zero bytes) (zero_page bytes)), λ at. refl)
zero_by codec shapes.Raw bytes plans.Zero sound e = (λ z. absurd (omega arith), λ at. absurd (false≢true at))
zero_by codec shapes.Raw bytes (plans.Packed order goal exceptions) sound e = (λ z. absurd (omega arith), λ at. absurd (false≢true at))
zero_by codec shapes.Raw bytes plans.Raw sound e = (λ z. refl, λ at. refl)
zero_by codec (shapes.Slotted slots) bytes plans.Zero sound e = (λ z. absurd (omega arith), λ at. absurd (not_zero_plan slots at))
zero_by codec (shapes.Slotted slots) bytes (plans.Packed order goal exceptions) sound e =
    slots_zero codec (sizes_of codec slots bytes) slots bytes order goal exceptions (slots_plan codec slots bytes order goal exceptions sound e)
zero_by codec (shapes.Slotted slots) bytes plans.Raw sound e = absurd (not_raw codec slots bytes sound e)

pub far_zero : (codec : Codec) (shape : Shape) (bytes : List ℕ) → IsSound codec shape bytes → far_of codec shape bytes ≡ 0 ↔ (is_at_plan shape (plan_of codec (content_of shape bytes)) ≡ true)
far_zero codec shape bytes sound = zero_by codec shape bytes (plan_of codec (content_of shape bytes)) sound refl
