-- A turn leaves a page, and a store, in one state.
use Rattle.std.proofs.Common.{◌≡◌, ◌≢◌, ◌<◌, ◌≤◌, ◌-◌, ◌∙◌, ℕ, zero, suc, Option, Some, None, List, set, inl, inr, refl, sym, ap, subst, arith}
use Rattle.std.proofs.lemmas.Bool.{cases_Bool, cases_eq, cases_lt}
use Rattle.buddy_frames.specs.Units.{Place, place_at, IsChoice, IsFreeBlock, given}
use Rattle.hier_types.specs.declared.settings.Codec.{Codec}
use Rattle.line_codec.specs.Slots.{fits}
use Rattle.page_mover.specs.declared.turning.Turn.{Turn}
use Rattle.page_mover.specs.declared.turning.Turn.TheVariants.{Next, Zero, Rewrite, Down, Up, Hoist, Halve}
use Rattle.page_mover.specs.declared.turning.TurnKind.{TurnKind}
use Rattle.page_mover.specs.Moves.{Makes, body}
use Rattle.page_mover.specs.Turns.{kind_of}
use Rattle.page_slots.specs.declared.desc.Desc.{Desc}
use Rattle.page_slots.specs.declared.desc.Desc.TheVariants as descs
use Rattle.page_slots.specs.declared.desc.Shape.{Shape}
use Rattle.page_slots.specs.declared.desc.Shape.TheVariants as shapes
use Rattle.page_slots.specs.declared.desc.Slots.TheVariants.{Packed, Mid}
use Rattle.page_slots.specs.Descs.{block_of, content_of, shape_of}
use Rattle.page_slots.specs.Forms.{form_of, room}
use Rattle.page_slots.specs.Laid.{bytes_for}
use Rattle.page_slots.specs.Lines.{AreApart, content_at, meta}
use Rattle.page_slots.specs.Moves.{Hoists, IsLowestIn, above_form, form_down, form_up, next_down, next_up}
use Rattle.page_slots.specs.Puts.{GoesToPlace, IsLowestFree, in_chunk}
use Rattle.page_slots.specs.Sound.{IsSound as IsSoundPage}
use Rattle.page_store.specs.Noted.{noted}
use Rattle.page_store.specs.PageBlocks.{IsNewBlock, block_at, moved}
use Rattle.page_store.specs.Rooms.{bytes_at}
use Rattle.page_store.specs.Store.{Store, shape_at}
use Rattle.page_store.specs.Turns.{MakesTurnOn, MoverTurns, TidyTurn, TidyTurns, TurnsPage, cursor_after, moved_more, tidied_more, turn_at}

-- a place, by its parts
same_place : (a b : Place) → a.order ≡ b.order → a.unit ≡ b.unit → a ≡ b
same_place a b order unit =
    let same : place_at a.order a.unit ≡ place_at b.order b.unit = cc in
    same

-- two choices of an order
choice_one : (used : List ℕ) (order : ℕ) (a b : Place) → IsChoice used order a → IsChoice used order b → a ≡ b
choice_one used order a b one two =
    let below : one.from ≤ two.from = one.least (place_at two.from b.unit) two.block two.enough in
    let above : two.from ≤ one.from = two.least (place_at one.from a.unit) one.block one.enough in
    let from : one.from ≡ two.from = omega arith in
    let first : a.unit ≤ b.unit = one.lowest b.unit (subst (λ (k : ℕ). IsFreeBlock used (place_at k b.unit)) (sym from) two.block) in
    let second : b.unit ≤ a.unit = two.lowest a.unit (subst (λ (k : ℕ). IsFreeBlock used (place_at k a.unit)) from one.block) in
    same_place a b (one.order_is ∙ sym two.order_is) (omega arith)

-- two new blocks of a page of one order
pub block_one : (used : List ℕ) (before : Option Place) (a b : Place) → a.order ≡ b.order → IsNewBlock used before (Some a) → IsNewBlock used before (Some b) → a ≡ b
block_one used None a b same one two = choice_one used a.order a b one (subst (λ (k : ℕ). IsChoice used k b) (sym same) two)
block_one used (Some old) a b same one two = elim (cases_lt old.order a.order) [
  | inl more ↦ choice_one (given used old) a.order a b (one.1 more) (subst (λ (k : ℕ). IsChoice (given used old) k b) (sym same) (two.1 (omega arith)))
  | inr room ↦ same_place a b same (one.0 room ∙ sym (two.0 (omega arith)))
]

-- a free chunk is not below the lowest one
lowest_least : (form : _) (bytes : List ℕ) (a b : ℕ) → IsLowestFree form bytes a → IsLowestFree form bytes b → a < b → ⊥
lowest_least form bytes a b one two lt =
    let taken = two.lowest a one.above lt in
    one.free taken.by taken.by_in taken.is_exception taken.is_chunk

-- the lowest free chunk
lowest_one : (form : _) (bytes : List ℕ) (a b : ℕ) → IsLowestFree form bytes a → IsLowestFree form bytes b → a ≡ b
lowest_one form bytes a b one two = elim (cases_lt a b) [
  | inl lt ↦ absurd (lowest_least form bytes a b one two lt)
  | inr le ↦ elim (cases_lt b a) [ inl gt ↦ absurd (lowest_least form bytes b a two one gt) | inr ge ↦ omega arith ]
]

-- a line that goes to its place
pub place_one : (codec : Codec) (form : _) (i : ℕ) (from old a b : List ℕ) → GoesToPlace codec form i from old a → GoesToPlace codec form i from old b → a ≡ b
place_one codec form i from old a b one two = elim (cases_Bool (fits codec (room form i) from)) [
  | inl fit ↦ one.where_it_fits fit ∙ sym (two.where_it_fits fit)
  | inr unfit ↦ elim (cases_lt (meta old i) 128) [
    | inl none ↦
        let p = one.in_lowest unfit none in
        let q = two.in_lowest unfit none in
        p.1.1 ∙ ap (λ number. in_chunk i from number old) (lowest_one form old p.0 q.0 p.1.0 q.1.0) ∙ sym q.1.1
    | inr some ↦ one.in_its_chunk unfit some ∙ sym (two.in_its_chunk unfit some)
  ]
]

-- two ways to keep a page in one shape that fixes the order of its block
kept_one : (used : List ℕ) (before : Option Place) (d e : Desc) → shape_of d ≡ shape_of e → shape_of e ≢ shapes.Raw → IsNewBlock used before (block_of d) → IsNewBlock used before (block_of e) → d ≡ e
kept_one used before descs.Zero descs.Zero same small one two = refl
kept_one used before descs.Zero (descs.Packed b t) same small one two = cc
kept_one used before descs.Zero (descs.Mid b l h j) same small one two = cc
kept_one used before d (descs.Raw b) same small one two = absurd (small refl)
kept_one used before (descs.Raw a) descs.Zero same small one two = cc
kept_one used before (descs.Raw a) (descs.Packed b t) same small one two = cc
kept_one used before (descs.Raw a) (descs.Mid b l h j) same small one two = cc
kept_one used before (descs.Packed a s) descs.Zero same small one two = cc
kept_one used before (descs.Packed a s) (descs.Mid b l h j) same small one two = cc
kept_one used before (descs.Packed a s) (descs.Packed b t) same small one two =
    let order : a.order ≡ b.order = cc in
    let target : s ≡ t = cc in
    let block : a ≡ b = block_one used before a b order one two in
    cc
kept_one used before (descs.Mid a k g i) descs.Zero same small one two = cc
kept_one used before (descs.Mid a k g i) (descs.Packed b t) same small one two = cc
kept_one used before (descs.Mid a k g i) (descs.Mid b l h j) same small one two =
    let order : a.order ≡ b.order = cc in
    let lower : k ≡ l = cc in
    let upper : g ≡ h = cc in
    let line : i ≡ j = cc in
    let block : a ≡ b = block_one used before a b order one two in
    cc

-- of the exceptions in these chunks one line has the lowest
lowest_in_one : (bytes : List ℕ) (low high a b : ℕ) → AreApart bytes → IsLowestIn bytes low high a → IsLowestIn bytes low high b → a ≡ b
lowest_in_one bytes low high a b apart one two = elim (cases_eq b a) [
  | inl same ↦ sym same
  | inr ne ↦
      let below = one.lowest b two.line_in two.is_exception two.from in
      let above = two.lowest a one.line_in one.is_exception one.from in
      absurd (apart a one.line_in one.is_exception b two.line_in ne two.is_exception (omega arith))
]

-- an exception that moves to another chunk
hoists_one : (form : _) (low high above : ℕ) (old a b : List ℕ) → AreApart old → Hoists form low high above old a → Hoists form low high above old b → a ≡ b
hoists_one form low high above old a b apart one two =
    let line : one.line ≡ two.line = lowest_in_one old low high one.line two.line apart one.taken two.taken in
    let number : one.number ≡ two.number = lowest_one (above_form form above) old one.number two.number one.to two.to in
    one.value ∙ ap (λ k. in_chunk k (content_at form old k) one.number old) line ∙ ap (λ n. in_chunk two.line (content_at form old two.line) n old) number ∙ sym two.value

-- a shape and bytes of it
both_one : (p q : Shape) (a b : List ℕ) → p ≡ q → a ≡ b → (p ≡ q) × (body p a ≡ body q b)
both_one p q a b shape bytes = (shape, ap (λ (s : Shape). body s a) shape ∙ ap (body q) bytes)

-- what a turn makes of a sound page
makes_one : (codec : Codec) (shape : Shape) (old : List ℕ) (turn : Turn) (p q : Shape) (a b : List ℕ) → IsSoundPage codec shape old → Makes codec shape old turn p a → Makes codec shape old turn q b
    → (p ≡ q) × (body p a ≡ body q b)
makes_one codec shape old Next p q a b sound one two = both_one p q a b (one.0 ∙ sym two.0) (one.1 ∙ sym two.1)
makes_one codec shape old Zero p q a b sound one two = both_one p q a b (one.0 ∙ sym two.0) (one.1 ∙ sym two.1)
makes_one codec shape old (Rewrite order target) p q a b sound one two =
    let same : p ≡ q = one.0 ∙ sym two.0 in
    (same, one.1 ∙ ap (λ (s : Shape). bytes_for codec s (content_of shape old)) same ∙ sym two.1)
makes_one codec (shapes.Slotted slots) old (Down small) p q a b sound one two =
    both_one p q a b (one.0 ∙ sym two.0) (place_one codec (form_down slots small) (next_down slots) (content_at (form_of slots) old (next_down slots)) old a b one.1 two.1)
makes_one codec (shapes.Slotted slots) old (Up large) p q a b sound one two =
    both_one p q a b (one.0 ∙ sym two.0) (place_one codec (form_up slots large) (next_up slots) (content_at (form_of slots) old (next_up slots)) old a b one.1 two.1)
makes_one codec (shapes.Slotted slots) old (Hoist low high above) p q a b sound one two =
    both_one p q a b (one.0 ∙ sym two.0) (hoists_one (form_of slots) low high above old a b sound.lines.apart one.1 two.1)
makes_one codec (shapes.Slotted (Packed order target)) old Halve p q a b sound one two = both_one p q a b (one.0 ∙ sym two.0) (one.1 ∙ sym two.1)
makes_one codec (shapes.Slotted (Mid order small large at)) old Halve p q a b sound one two = absurd one.0
makes_one codec shapes.Zero old (Down small) p q a b sound one two = absurd one
makes_one codec shapes.Zero old (Up large) p q a b sound one two = absurd one
makes_one codec shapes.Zero old (Hoist low high above) p q a b sound one two = absurd one
makes_one codec shapes.Zero old Halve p q a b sound one two = absurd one.0
makes_one codec shapes.Raw old (Down small) p q a b sound one two = absurd one
makes_one codec shapes.Raw old (Up large) p q a b sound one two = absurd one
makes_one codec shapes.Raw old (Hoist low high above) p q a b sound one two = absurd one
makes_one codec shapes.Raw old Halve p q a b sound one two = absurd one.0

-- no turn that is made leaves the lines one after another
leaves_no_raw : (codec : Codec) (shape : Shape) (old : List ℕ) (turn : Turn) (next : Shape) (new : List ℕ) → turn ≢ Next → Makes codec shape old turn next new → next ≢ shapes.Raw
leaves_no_raw codec shape old Next next new some makes raw = some refl
leaves_no_raw codec shape old Zero next new some makes raw = let is = makes.0 in cc
leaves_no_raw codec shape old (Rewrite order target) next new some makes raw = let is = makes.0 in cc
leaves_no_raw codec (shapes.Slotted slots) old (Down small) next new some makes raw = let is = makes.0 in cc
leaves_no_raw codec (shapes.Slotted slots) old (Up large) next new some makes raw = let is = makes.0 in cc
leaves_no_raw codec (shapes.Slotted slots) old (Hoist low high above) next new some makes raw = let is = makes.0 in cc
leaves_no_raw codec (shapes.Slotted (Packed order target)) old Halve next new some makes raw = let is = makes.0 in cc
leaves_no_raw codec (shapes.Slotted (Mid order small large at)) old Halve next new some makes raw = makes.0
leaves_no_raw codec shapes.Zero old (Down small) next new some makes raw = makes
leaves_no_raw codec shapes.Zero old (Up large) next new some makes raw = makes
leaves_no_raw codec shapes.Zero old (Hoist low high above) next new some makes raw = makes
leaves_no_raw codec shapes.Zero old Halve next new some makes raw = makes.0
leaves_no_raw codec shapes.Raw old (Down small) next new some makes raw = makes
leaves_no_raw codec shapes.Raw old (Up large) next new some makes raw = makes
leaves_no_raw codec shapes.Raw old (Hoist low high above) next new some makes raw = makes
leaves_no_raw codec shapes.Raw old Halve next new some makes raw = makes.0

-- the store after one page has become these bytes
abbrev after_turn : Store → ℕ → List Desc → List ℕ → Shape → List ℕ → Store
after_turn s page descriptors used shape own =
    record s { descriptors = descriptors; bytes = set s.bytes page own; used = used; meta = noted s.meta page shape own }

-- a turn that is made on a page
pub turn_on_one : (s : Store) (page : ℕ) (turn other : Turn) (t u : Store) → turn ≢ Next → MakesTurnOn s page turn t → MakesTurnOn s page other u → t ≡ u
turn_on_one s page turn other t u some one two =
    let own = bytes_at s.bytes page in
    let held = block_at s.descriptors page in
    let same : other ≡ turn = two.makes.row ∙ sym one.makes.row in
    let makes : Makes s.codec (shape_at s page) own turn two.shape two.front = subst (λ (k : Turn). Makes s.codec (shape_at s page) own k two.shape two.front) same two.makes.makes in
    let both = makes_one s.codec (shape_at s page) own turn one.shape two.shape one.front two.front one.was one.makes.makes makes in
    let shape : shape_of one.comes.desc ≡ shape_of two.comes.desc = one.comes.shape_is ∙ both.0 ∙ sym two.comes.shape_is in
    let small : shape_of two.comes.desc ≢ shapes.Raw = λ raw. leaves_no_raw s.codec (shape_at s page) own turn two.shape two.front some makes (sym two.comes.shape_is ∙ raw) in
    let desc : one.comes.desc ≡ two.comes.desc = kept_one s.used held one.comes.desc two.comes.desc shape small one.comes.new_block two.comes.new_block in
    let descriptors : t.descriptors ≡ u.descriptors = one.comes.descriptors_are ∙ ap (set s.descriptors page) desc ∙ sym two.comes.descriptors_are in
    let used : t.used ≡ u.used = one.comes.used_is ∙ ap (λ (d : Desc). moved s.used held (block_of d)) desc ∙ sym two.comes.used_is in
    let front = body one.shape one.front in
    one.is
    ∙ ap (λ (ds : List Desc). after_turn s page ds t.used one.shape front) descriptors
    ∙ ap (λ (us : List ℕ). after_turn s page u.descriptors us one.shape front) used
    ∙ ap (λ (k : Shape). after_turn s page u.descriptors u.used k front) both.0
    ∙ ap (after_turn s page u.descriptors u.used two.shape) both.1 ∙ sym two.is

-- the turn that is made is the page's next one
turn_is : (s : Store) (page : ℕ) (turn : Turn) (t : Store) → TurnsPage s page turn t → turn ≡ turn_at s page
turn_is s page turn t (inl none) = none.0 ∙ sym none.1.0
turn_is s page turn t (inr made) = made.1.makes.row

-- the next turn of a page, where it has one or none
turns_one : (s : Store) (page : ℕ) (turn other : Turn) (t u : Store) → turn ≡ other → TurnsPage s page turn t → TurnsPage s page other u → t ≡ u
turns_one s page turn other t u same (inl one) (inl two) = one.1.1 ∙ sym two.1.1
turns_one s page turn other t u same (inl one) (inr two) = absurd (two.0 (sym same ∙ one.0))
turns_one s page turn other t u same (inr one) (inl two) = absurd (one.0 (same ∙ two.0))
turns_one s page turn other t u same (inr one) (inr two) = turn_on_one s page turn other t u one.0 one.1 two.1

-- a turn of the mover
pub mover_one : (s : Store) (kind other : TurnKind) (t u : Store) → MoverTurns s kind t → MoverTurns s other u → (kind ≡ other) × (t ≡ u)
mover_one s kind other t u one two =
    let turn : one.turn ≡ two.turn = turn_is s s.cursor one.turn one.mid one.turns ∙ sym (turn_is s s.cursor two.turn two.mid two.turns) in
    let mid : one.mid ≡ two.mid = turns_one s s.cursor one.turn two.turn one.mid two.mid turn one.turns two.turns in (
      one.kind_is ∙ ap kind_of turn ∙ sym two.kind_is,
      one.is ∙ ap (λ (m : Store). record m { counts = moved_more m.counts; cursor = cursor_after one.turn s }) mid
          ∙ ap (λ (k : Turn). record two.mid { counts = moved_more two.mid.counts; cursor = cursor_after k s }) turn ∙ sym two.is,
    )

-- a turn for tidying
tidy_turn_one : (s : Store) (page : ℕ) (t u : Store) → TidyTurn s page t → TidyTurn s page u → t ≡ u
tidy_turn_one s page t u one two =
    one.is ∙ ap (λ (m : Store). record m { counts = tidied_more m.counts }) (turn_on_one s page one.turn two.turn one.mid two.mid one.off one.makes two.makes) ∙ sym two.is

-- as many of them
same_count_one : (s : Store) (page n : ℕ) (t u : Store) → TidyTurns s page n t → TidyTurns s page n u → t ≡ u
unfolding TidyTurns
same_count_one s page zero t u one two = one ∙ sym two
same_count_one s page (suc n) t u one two =
    let mid : one.0 ≡ two.0 = same_count_one s page n one.0 two.0 one.1 two.1 in
    tidy_turn_one two.0 page t u (subst (λ (m : Store). TidyTurn m page t) mid one.2) two.2

-- where more of them are made, one is made after the fewer
goes_on : (s : Store) (page n m : ℕ) (t u : Store) → n < m → TidyTurns s page n t → TidyTurns s page m u → (v : Store) × TidyTurn t page v
unfolding TidyTurns
goes_on s page n zero t u lt one two = absurd (omega arith)
goes_on s page n (suc m) t u lt one two = elim (cases_eq n m) [
  | inl same ↦
      let mid : t ≡ two.0 = same_count_one s page m t two.0 (subst (λ (k : ℕ). TidyTurns s page k t) same one) two.1 in
      (u, subst (λ (x : Store). TidyTurn x page u) (sym mid) two.2)
  | inr ne ↦ goes_on s page n m t two.0 (omega arith) one two.1
]

-- no turn for tidying is made on the page
abbrev pub IsSettled : Store → ℕ → Type 0
IsSettled s page = (v : Store) → TidyTurn s page v → ⊥

-- turns until none is left to make
pub tidy_turns_one : (s : Store) (page n m : ℕ) (t u : Store) → TidyTurns s page n t → TidyTurns s page m u → IsSettled t page → IsSettled u page → t ≡ u
tidy_turns_one s page n m t u one two at to = elim (cases_lt n m) [
  | inl lt ↦ let more = goes_on s page n m t u lt one two in absurd (at more.0 more.1)
  | inr le ↦ elim (cases_eq n m) [
    | inl same ↦ same_count_one s page m t u (subst (λ (k : ℕ). TidyTurns s page k t) same one) two
    | inr ne ↦ let more = goes_on s page m n u t (omega arith) two one in absurd (to more.0 more.1)
  ]
]
