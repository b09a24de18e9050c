-- What each row of the table has at hand: its turn can be made.
use Rattle.std.proofs.Common.{◌≡◌, ℕ, ◌+◌, ◌-◌, ◌*◌, ◌<◌, ◌≤◌, refl, ap, ◌∙◌, sym, subst, arith, List, Option, length, inl, inr, min, max}
use Rattle.std.proofs.lemmas.Bool.{cases_lt}
use Rattle.std.proofs.lemmas.Bool.Decides.{nat_tests}
use Rattle.hier_types.specs.declared.settings.Codec.{Codec}
use Rattle.line_codec.specs.Layout.{IsTarget, cap, exceptions_of, chunks_of}
use Rattle.page_slots.specs.declared.desc.Slots.{Slots}
use Rattle.page_slots.specs.declared.desc.Slots.TheVariants.{Packed, Mid}
use Rattle.page_slots.specs.Chunks.{count_in}
use Rattle.page_slots.specs.Forms.{form_of, order_of}
use Rattle.page_slots.specs.Lines.{meta, chunk_of, content_at}
use Rattle.page_slots.specs.Moves.{CanMoveDown, CanMoveUp, CanHoist, NoneIn}
use Rattle.page_slots.specs.Puts.{IsTaken}
use Rattle.page_slots.specs.Sound.{IsSlotted}
use Rattle.page_slots.proofs.ChunkLemmas.{count_add, count_none, count_some, count_full}
use Rattle.page_slots.proofs.CountLemmas.{count_all}
use Rattle.page_slots.proofs.FormLemmas.{packed_room}
use Rattle.page_slots.proofs.LineLemmas.{exception_of}
use Rattle.page_mover.specs.declared.turning.Turn.TheVariants.{Zero, Rewrite, Down, Up, Hoist, Halve}
use Rattle.page_mover.specs.Far.{slots_far}
use Rattle.page_mover.specs.Moves.{CanHalve}
use Rattle.page_mover.specs.Turns.{slots_turn}
use Rattle.page_mover.proofs.PlanLemmas.{IsLeast, order_le, own_room, sizes_of}
use Rattle.page_mover.proofs.TableLemmas.{PackedRow, next_row, outer_row, halve_row, rewrite_row, inner_row, up_row, down_row, packed_row, mid_down, mid_up, mid_row}

-- a sound page in slots, the sizes of its lines, and the order and target of a packed plan
pub record HasPlan (codec : Codec) (sizes : List (Option ℕ)) (slots : Slots) (bytes : List ℕ) (order goal : ℕ) : Type 0 where
  pub sound : IsSlotted codec slots bytes
  pub sizes_are : sizes ≡ sizes_of codec slots bytes
  pub least : IsLeast sizes order goal

pub own_sizes : (codec : Codec) (slots : Slots) (bytes : List ℕ) (order goal : ℕ) → IsSlotted codec slots bytes → IsLeast (sizes_of codec slots bytes) order goal
    → HasPlan codec (sizes_of codec slots bytes) slots bytes order goal
own_sizes codec slots bytes order goal sound least = record { sound = sound; sizes_are = refl; least = least }

-- the chunks that a packed page needs while it moves
abbrev pub need_of : List (Option ℕ) → ℕ → ℕ → ℕ
need_of sizes target goal = 1 + max target goal + exceptions_of sizes (min target goal)

pub cap_le : (j k : ℕ) → j ≤ k → cap j ≤ cap k
cap_le j k le = grind (arith, nat_tests)

pub plan_le : (codec : Codec) (sizes : List (Option ℕ)) (slots : Slots) (bytes : List ℕ) (order goal : ℕ) → HasPlan codec sizes slots bytes order goal → order ≤ order_of slots
plan_le codec sizes slots bytes order goal has =
    order_le codec slots bytes order goal has.sound (subst (λ (own : List (Option ℕ)). IsLeast own order goal) has.sizes_are has.least)

large_fits : (codec : Codec) (sizes : List (Option ℕ)) (slots : Slots) (bytes : List ℕ) (order goal : ℕ) → HasPlan codec sizes slots bytes order goal
    → chunks_of sizes (form_of slots).large ≤ cap (order_of slots)
large_fits codec sizes slots bytes order goal has =
    subst (λ (own : List (Option ℕ)). chunks_of own (form_of slots).large ≤ cap (order_of slots)) (sym has.sizes_are) (own_room codec slots bytes has.sound)

need_same : (sizes : List (Option ℕ)) (target goal : ℕ) → target ≡ goal → need_of sizes target goal ≡ chunks_of sizes target
need_same sizes target goal same =
    let count : exceptions_of sizes (min target goal) ≡ exceptions_of sizes target = ap (exceptions_of sizes) (omega arith) in
    omega arith

-- the row of a sound packed page
pub row_of : (codec : Codec) (sizes : List (Option ℕ)) (order target : ℕ) (bytes : List ℕ) (plan_order goal : ℕ) → HasPlan codec sizes (Packed order target) bytes plan_order goal
    → PackedRow order target plan_order goal (need_of sizes target goal) (count_in (cap plan_order) (cap order) bytes 64) (count_in 0 (1 + goal) bytes 64)
    (slots_turn sizes (Packed order target) bytes plan_order goal) (slots_far sizes (Packed order target) bytes plan_order goal)
row_of codec sizes order target bytes plan_order goal has =
    packed_row order target plan_order goal (need_of sizes target goal) (count_in (cap plan_order) (cap order) bytes 64) (count_in 0 (1 + goal) bytes 64)
    (plan_le codec sizes (Packed order target) bytes plan_order goal has)
    (λ same. omega (arith, need_same sizes target goal same, large_fits codec sizes (Packed order target) bytes plan_order goal has))

pub own_chunk : (codec : Codec) (slots : Slots) (bytes : List ℕ) (i : ℕ) → IsSlotted codec slots bytes → i < 64 → 128 ≤ meta bytes i
    → ((form_of slots).large < chunk_of (meta bytes i)) × (chunk_of (meta bytes i) < (form_of slots).chunks)
own_chunk codec slots bytes i sound i_in high = exception_of codec (form_of slots) bytes i (content_at (form_of slots) bytes i) (sound.lines.has i i_in) high

-- no exception of a sound page stands in its slots
pub none_low : (codec : Codec) (slots : Slots) (bytes : List ℕ) (low : ℕ) → IsSlotted codec slots bytes → count_in low (1 + (form_of slots).large) bytes 64 ≡ 0
none_low codec slots bytes low sound =
    count_none low (1 + (form_of slots).large) bytes 64 (λ i i_in high from below. omega (arith, (own_chunk codec slots bytes i sound i_in high).0))

-- all exceptions of a packed page
all_of : (codec : Codec) (sizes : List (Option ℕ)) (order target : ℕ) (bytes : List ℕ) (low : ℕ) → sizes ≡ sizes_of codec (Packed order target) bytes → IsSlotted codec (Packed order target) bytes → low ≤ 1 + target
    → count_in low (cap order) bytes 64 ≡ exceptions_of sizes target
all_of codec sizes order target bytes low e sound le =
    let all : count_in (1 + target) (cap order) bytes 64 ≡ exceptions_of (sizes_of codec (Packed order target) bytes) target =
    count_all codec (form_of (Packed order target)) target bytes (content_at (form_of (Packed order target)) bytes) (packed_room order target) sound.lines in
    let own : exceptions_of sizes target ≡ exceptions_of (sizes_of codec (Packed order target) bytes) target = ap (λ (s : List (Option ℕ)). exceptions_of s target) e in
    omega (arith, all, own, none_low codec (Packed order target) bytes low sound, count_add low (1 + target) (cap order) bytes 64 le sound.holds.slots_in)

some_of : (low high : ℕ) (bytes : List ℕ) → 0 < count_in low high bytes 64 → NoneIn bytes low high → ⊥
some_of low high bytes some none = omega (arith, count_none low high bytes 64 (λ i l is from below. none (chunk_of (meta bytes i)) from below i l is refl))

-- the exceptions that stand outside leave a chunk free inside
pub lands_inside : (codec : Codec) (sizes : List (Option ℕ)) (order target : ℕ) (bytes : List ℕ) (plan_order goal to : ℕ) → HasPlan codec sizes (Packed order target) bytes plan_order goal
    → target ≡ goal → 0 < count_in (cap plan_order) (cap order) bytes 64
    → ((number : ℕ) → target < number → number < to → IsTaken bytes number) → to < cap plan_order
lands_inside codec sizes order target bytes plan_order goal to has same some taken =
    elim (cases_lt to (cap plan_order)) [
      | inl below ↦ below
      | inr over ↦
          let count : exceptions_of sizes target ≡ exceptions_of sizes goal = ap (exceptions_of sizes) same in
          let rooms = has.least.rooms in
          let inside = count_full (cap plan_order - (1 + target)) (1 + target) (cap plan_order) bytes (omega arith) (λ number from below. taken number (omega arith) (omega arith)) in
          let le = cap_le plan_order order (plan_le codec sizes (Packed order target) bytes plan_order goal has) in
          let all = all_of codec sizes order target bytes (1 + target) has.sizes_are has.sound (omega arith) in
          absurd (omega (arith, all, count_add (1 + target) (cap plan_order) (cap order) bytes 64 (omega arith) le))
    ]

can_outer : (codec : Codec) (sizes : List (Option ℕ)) (order target : ℕ) (bytes : List ℕ) (plan_order goal : ℕ) → HasPlan codec sizes (Packed order target) bytes plan_order goal
    → target ≡ goal → 0 < count_in (cap plan_order) (cap order) bytes 64 → CanHoist (form_of (Packed order target)) (cap plan_order) (cap order) target bytes
can_outer codec sizes order target bytes plan_order goal has same some = record {
  some = some_of (cap plan_order) (cap order) bytes some;
  large_in = omega arith;
  above_in = has.sound.holds.slots_in;
  place = λ taken.
      let le = cap_le plan_order order (plan_le codec sizes (Packed order target) bytes plan_order goal has) in
      omega (arith, lands_inside codec sizes order target bytes plan_order goal (cap order) has same some taken);
}

-- in a chunk that the plan's slots will not reach
can_inner : (codec : Codec) (sizes : List (Option ℕ)) (order target : ℕ) (bytes : List ℕ) (plan_order goal : ℕ) → HasPlan codec sizes (Packed order target) bytes plan_order goal
    → target < goal → need_of sizes target goal ≤ cap order → 0 < count_in 0 (1 + goal) bytes 64 → CanHoist (form_of (Packed order target)) 0 (1 + goal) goal bytes
can_inner codec sizes order target bytes plan_order goal has less need some =
    let count : exceptions_of sizes (min target goal) ≡ exceptions_of sizes target = ap (exceptions_of sizes) (omega arith) in
    let all = all_of codec sizes order target bytes 0 has.sizes_are has.sound (omega arith) in
    record {
      some = some_of 0 (1 + goal) bytes some;
      large_in = omega arith;
      above_in = omega arith;
      place = λ taken.
          let full = count_full (cap order - (1 + goal)) (1 + goal) (cap order) bytes (omega arith) (λ number from below. taken number (omega arith) below) in
          omega (arith, all, count_add 0 (1 + goal) (cap order) bytes 64 (omega arith) (omega arith));
    }

none_by : (low high i : ℕ) (bytes : List ℕ) → count_in low high bytes 64 ≡ 0 → i < 64 → 128 ≤ meta bytes i → chunk_of (meta bytes i) < high → chunk_of (meta bytes i) < low
none_by low high i bytes none i_in is below = elim (cases_lt (chunk_of (meta bytes i)) low) [
  | inl less ↦ less
  | inr from ↦ absurd (omega (arith, count_some low high bytes 64 i i_in is from below))
]

can_halve : (codec : Codec) (sizes : List (Option ℕ)) (order target : ℕ) (bytes : List ℕ) (plan_order goal : ℕ) → HasPlan codec sizes (Packed order target) bytes plan_order goal
    → target ≡ goal → count_in (cap plan_order) (cap order) bytes 64 ≡ 0 → plan_order < order → CanHalve (Packed order target) bytes
can_halve codec sizes order target bytes plan_order goal has same none less =
    let le = cap_le plan_order (order - 1) (omega arith) in
    let rooms = has.least.rooms in (
      omega arith,
      (omega arith, λ i i_in is. omega (arith, none_by (cap plan_order) (cap order) i bytes none i_in is (own_chunk codec (Packed order target) bytes i has.sound i_in is).1)),
    )

can_up : (codec : Codec) (sizes : List (Option ℕ)) (order target : ℕ) (bytes : List ℕ) (plan_order goal : ℕ) → HasPlan codec sizes (Packed order target) bytes plan_order goal
    → target < goal → need_of sizes target goal ≤ cap order → count_in 0 (1 + goal) bytes 64 ≡ 0 → CanMoveUp (Packed order target) goal bytes
can_up codec sizes order target bytes plan_order goal has less need none = (
  has.least.is_target,
  (
    less,
    (
      omega arith,
      λ i i_in is. elim (cases_lt goal (chunk_of (meta bytes i))) [
        | inl above ↦ above
        | inr le ↦ absurd (omega (arith, none_by 0 (1 + goal) i bytes none i_in is (omega arith)))
      ],
    ),
  ),
)

pub rooms_down : (sizes : List (Option ℕ)) (order target goal : ℕ) → goal < target → need_of sizes target goal ≤ cap order → 1 + target + exceptions_of sizes goal ≤ cap order
rooms_down sizes order target goal less need =
    let count : exceptions_of sizes (min target goal) ≡ exceptions_of sizes goal = ap (exceptions_of sizes) (omega arith) in
    omega arith

-- the numbers of the turn that was told

at_hoist : (slots : Slots) (bytes : List ℕ) (low high above low' high' above' : ℕ) → Hoist low high above ≡ Hoist low' high' above' → CanHoist (form_of slots) low high above bytes → CanHoist (form_of slots) low' high' above' bytes
at_hoist slots bytes low high above low' high' above' e can =
    let a : low ≡ low' = cc in
    let b : high ≡ high' = cc in
    let d : above ≡ above' = cc in
    subst (λ (n : ℕ). CanHoist (form_of slots) low' high' n bytes) d (subst (λ (n : ℕ). CanHoist (form_of slots) low' n above bytes) b (subst (λ (n : ℕ). CanHoist (form_of slots) n high above bytes) a can))

pub down_is : (a b : ℕ) → Down a ≡ Down b → a ≡ b
down_is a b e = cc

pub up_is : (a b : ℕ) → Up a ≡ Up b → a ≡ b
up_is a b e = cc

pub rewrite_is : (a b d e : ℕ) → Rewrite a b ≡ Rewrite d e → (a ≡ d) × (b ≡ e)
rewrite_is a b d e same = (cc, cc)

-- a hoist can be made
pub hoist_can : (codec : Codec) (sizes : List (Option ℕ)) (slots : Slots) (bytes : List ℕ) (order goal low high above : ℕ) → HasPlan codec sizes slots bytes order goal
    → Hoist low high above ≡ slots_turn sizes slots bytes order goal → CanHoist (form_of slots) low high above bytes
hoist_can codec sizes (Packed own target) bytes order goal low high above has is = elim (row_of codec sizes own target bytes order goal has) [
  | next_row a b turn far ↦ cc
  | outer_row same some turn far ↦ at_hoist (Packed own target) bytes _ _ _ low high above (sym turn ∙ sym is) (can_outer codec sizes own target bytes order goal has same some)
  | halve_row a b d turn far ↦ cc
  | rewrite_row a turn far ↦ cc
  | inner_row less need some turn far ↦ at_hoist (Packed own target) bytes _ _ _ low high above (sym turn ∙ sym is) (can_inner codec sizes own target bytes order goal has less need some)
  | up_row a b d turn far ↦ cc
  | down_row a b turn far ↦ cc
]
hoist_can codec sizes (Mid own small large at) bytes order goal low high above has is =
    elim (mid_row own small large at (exceptions_of sizes small) goal) [ mid_down a b turn far ↦ cc | mid_up a turn far ↦ cc ]

-- a line can move to a smaller slot
pub down_can : (codec : Codec) (sizes : List (Option ℕ)) (slots : Slots) (bytes : List ℕ) (order goal small : ℕ) → HasPlan codec sizes slots bytes order goal
    → Down small ≡ slots_turn sizes slots bytes order goal
    → CanMoveDown slots small × (1 + (form_of slots).large + exceptions_of sizes small ≤ cap (order_of slots))
down_can codec sizes (Packed own target) bytes order goal small has is = elim (row_of codec sizes own target bytes order goal has) [
  | next_row a b turn far ↦ cc
  | outer_row a b turn far ↦ cc
  | halve_row a b d turn far ↦ cc
  | rewrite_row a turn far ↦ cc
  | inner_row a b d turn far ↦ cc
  | up_row a b d turn far ↦ cc
  | down_row less need turn far ↦
      let e : goal ≡ small = down_is _ _ (sym turn ∙ sym is) in (
        (subst IsTarget e has.least.is_target, omega arith),
        subst (λ (s : ℕ). 1 + target + exceptions_of sizes s ≤ cap own) e (rooms_down sizes own target goal less need),
      )
]
down_can codec sizes (Mid own least large at) bytes order goal small has is =
    elim (mid_row own least large at (exceptions_of sizes least) goal) [
      | mid_down a rooms turn far ↦
          let e : least ≡ small = down_is _ _ (sym turn ∙ sym is) in
          (sym e, subst (λ (n : ℕ). 1 + large + exceptions_of sizes n ≤ cap own) e rooms)
      | mid_up a turn far ↦ cc
    ]

-- a line can move to a larger slot
pub up_can : (codec : Codec) (sizes : List (Option ℕ)) (slots : Slots) (bytes : List ℕ) (order goal large : ℕ) → HasPlan codec sizes slots bytes order goal
    → Up large ≡ slots_turn sizes slots bytes order goal → CanMoveUp slots large bytes
up_can codec sizes (Packed own target) bytes order goal large has is = elim (row_of codec sizes own target bytes order goal has) [
  | next_row a b turn far ↦ cc
  | outer_row a b turn far ↦ cc
  | halve_row a b d turn far ↦ cc
  | rewrite_row a turn far ↦ cc
  | inner_row a b d turn far ↦ cc
  | up_row less need none turn far ↦
      let e : goal ≡ large = up_is _ _ (sym turn ∙ sym is) in
      subst (λ (l : ℕ). CanMoveUp (Packed own target) l bytes) e (can_up codec sizes own target bytes order goal has less need none)
  | down_row a b turn far ↦ cc
]
up_can codec sizes (Mid own small most at) bytes order goal large has is =
    elim (mid_row own small most at (exceptions_of sizes small) goal) [
      | mid_down a b turn far ↦ cc
      | mid_up a turn far ↦ let e : most ≡ large = up_is _ _ (sym turn ∙ sym is) in sym e
    ]

-- the block can be cut to its first half
pub halve_can : (codec : Codec) (sizes : List (Option ℕ)) (slots : Slots) (bytes : List ℕ) (order goal : ℕ) → HasPlan codec sizes slots bytes order goal
    → Halve ≡ slots_turn sizes slots bytes order goal → CanHalve slots bytes
halve_can codec sizes (Packed own target) bytes order goal has is = elim (row_of codec sizes own target bytes order goal has) [
  | next_row a b turn far ↦ cc
  | outer_row a b turn far ↦ cc
  | halve_row same none less turn far ↦ can_halve codec sizes own target bytes order goal has same none less
  | rewrite_row a turn far ↦ cc
  | inner_row a b d turn far ↦ cc
  | up_row a b d turn far ↦ cc
  | down_row a b turn far ↦ cc
]
halve_can codec sizes (Mid own small large at) bytes order goal has is =
    elim (mid_row own small large at (exceptions_of sizes small) goal) [ mid_down a b turn far ↦ cc | mid_up a turn far ↦ cc ]

-- lines of these sizes can be laid anew in the front of so many bytes
pub record CanRewrite (sizes : List (Option ℕ)) (order target size : ℕ) : Type 0 where
  pub order_in : order ≤ 2
  pub is_target : IsTarget target
  pub room : chunks_of sizes target ≤ cap order
  pub size_in : 64 * cap order ≤ size

rewrite_by : (sizes : List (Option ℕ)) (order goal plan_order target size : ℕ) → IsLeast sizes order goal → 64 * cap order ≤ size → Rewrite order goal ≡ Rewrite plan_order target
    → CanRewrite sizes plan_order target size
rewrite_by sizes order goal plan_order target size least within e =
    let parts = rewrite_is order goal plan_order target e in
    let at_goal : CanRewrite sizes order goal size = record { order_in = least.order_in; is_target = least.is_target; room = least.rooms; size_in = within } in
    subst (λ (t : ℕ). CanRewrite sizes plan_order t size) parts.1 (subst (λ (k : ℕ). CanRewrite sizes k goal size) parts.0 at_goal)

pub rewrite_can : (codec : Codec) (sizes : List (Option ℕ)) (slots : Slots) (bytes : List ℕ) (order goal plan_order target : ℕ) → HasPlan codec sizes slots bytes order goal
    → Rewrite plan_order target ≡ slots_turn sizes slots bytes order goal → CanRewrite sizes plan_order target (length bytes)
rewrite_can codec sizes (Packed own slot) bytes order goal plan_order target has is = elim (row_of codec sizes own slot bytes order goal has) [
  | next_row a b turn far ↦ cc
  | outer_row a b turn far ↦ cc
  | halve_row a b d turn far ↦ cc
  | rewrite_row a turn far ↦
      let le = cap_le order own (plan_le codec sizes (Packed own slot) bytes order goal has) in
      rewrite_by sizes order goal plan_order target (length bytes) has.least (omega (arith, le, has.sound.holds.is_size)) (sym turn ∙ sym is)
  | inner_row a b d turn far ↦ cc
  | up_row a b d turn far ↦ cc
  | down_row a b turn far ↦ cc
]
rewrite_can codec sizes (Mid own small large at) bytes order goal plan_order target has is =
    elim (mid_row own small large at (exceptions_of sizes small) goal) [ mid_down a b turn far ↦ cc | mid_up a turn far ↦ cc ]

-- a page in slots is not given back where its plan is packed
pub not_zero_row : (codec : Codec) (sizes : List (Option ℕ)) (slots : Slots) (bytes : List ℕ) (order goal : ℕ) → HasPlan codec sizes slots bytes order goal
    → Zero ≡ slots_turn sizes slots bytes order goal → ⊥
not_zero_row codec sizes (Packed own target) bytes order goal has is = elim (row_of codec sizes own target bytes order goal has) [
  | next_row a b turn far ↦ cc
  | outer_row a b turn far ↦ cc
  | halve_row a b d turn far ↦ cc
  | rewrite_row a turn far ↦ cc
  | inner_row a b d turn far ↦ cc
  | up_row a b d turn far ↦ cc
  | down_row a b turn far ↦ cc
]
not_zero_row codec sizes (Mid own small large at) bytes order goal has is =
    elim (mid_row own small large at (exceptions_of sizes small) goal) [ mid_down a b turn far ↦ cc | mid_up a turn far ↦ cc ]
