-- A call of the store has one answer, and leaves it in one state.
use Rattle.std.proofs.Common.{◌≡◌, ◌+◌, ◌*◌, ◌/◌, ◌%◌, ◌∙◌, ℕ, zero, suc, Bool, true, false, Option, List, length, Result, Ok, Err, set, inl, inr, refl, sym, ap, subst, eqb, arith}
use Rattle.std.specs.Prelude.{MatchBool}
use Rattle.std.proofs.lemmas.Option.{same_Some}
use Rattle.buddy_frames.specs.Units.{Place}
use Rattle.hier_types.specs.Calls.{Answer}
use Rattle.hier_types.specs.Causes.{raised}
use Rattle.hier_types.specs.declared.faults.NoSpace.{NoSpace}
use Rattle.hier_types.specs.declared.settings.Codec.{Codec}
use Rattle.page_mover.specs.declared.turning.Turn.TheVariants.{Next}
use Rattle.page_plan.specs.declared.least.PagePlan.{PagePlan}
use Rattle.page_plan.specs.declared.least.PagePlan.TheVariants as plan
use Rattle.page_plan.specs.PagePlan.{plan_of}
use Rattle.page_plan.specs.Pages.{page_of}
use Rattle.page_slots.specs.declared.desc.Desc.{Desc}
use Rattle.page_slots.specs.declared.desc.Desc.TheVariants.{Zero, Packed, Mid, Raw}
use Rattle.page_slots.specs.declared.desc.Shape.{Shape}
use Rattle.page_slots.specs.declared.desc.Shape.TheVariants as shapes
use Rattle.page_slots.specs.Descs.{block_of}
use Rattle.page_slots.specs.Forms.{form_of}
use Rattle.page_slots.specs.Puts.{GoesRight}
use Rattle.page_store.specs.Calls.{GoesIn, HasNoPlace, IsRefused, PutsIn, Refused, StaysZero, StoreRead, StoreWrite, Writes, looked_by, looked_up, written_more}
use Rattle.page_store.specs.Lays.{BringsToPlan, GoesAnew, Lays, MakesWay, TidiedUpTo, TidyStep}
use Rattle.page_store.specs.PageBlocks.{block_at, moved, HasRoom, IsAtPlan, IsNewBlock, LacksRoom}
use Rattle.page_store.specs.Rooms.{bytes_at}
use Rattle.page_store.specs.Store.{Store, shape_at}
use Rattle.page_store.specs.Turns.{turn_at}
use Rattle.page_store.proofs.OneTurnLemmas.{IsSettled, block_one, place_one, tidy_turns_one}

-- two ways to keep a page at its plan
desc_one : (used : List ℕ) (before : Option Place) (p : PagePlan) (d e : Desc) → IsAtPlan p d → IsAtPlan p e → IsNewBlock used before (block_of d) → IsNewBlock used before (block_of e) → d ≡ e
desc_one used before plan.Zero Zero Zero at to one two = refl
desc_one used before plan.Zero Zero (Packed block target) at to one two = absurd to
desc_one used before plan.Zero Zero (Mid block small large i) at to one two = absurd to
desc_one used before plan.Zero Zero (Raw block) at to one two = absurd to
desc_one used before plan.Zero (Packed block target) e at to one two = absurd at
desc_one used before plan.Zero (Mid block small large i) e at to one two = absurd at
desc_one used before plan.Zero (Raw block) e at to one two = absurd at
desc_one used before (plan.Packed order target exceptions) Zero e at to one two = absurd at
desc_one used before (plan.Packed order target exceptions) (Packed a s) Zero at to one two = absurd to
desc_one used before (plan.Packed order target exceptions) (Packed a s) (Packed b t) at to one two =
    let block : a ≡ b = block_one used before a b (at.0 ∙ sym to.0) one two in
    let slots : s ≡ t = at.1 ∙ sym to.1 in
    cc
desc_one used before (plan.Packed order target exceptions) (Packed a s) (Mid b small large i) at to one two = absurd to
desc_one used before (plan.Packed order target exceptions) (Packed a s) (Raw b) at to one two = absurd to
desc_one used before (plan.Packed order target exceptions) (Mid a small large i) e at to one two = absurd at
desc_one used before (plan.Packed order target exceptions) (Raw a) e at to one two = absurd at
desc_one used before plan.Raw Zero e at to one two = absurd at
desc_one used before plan.Raw (Packed a s) e at to one two = absurd at
desc_one used before plan.Raw (Mid a small large i) e at to one two = absurd at
desc_one used before plan.Raw (Raw a) Zero at to one two = absurd to
desc_one used before plan.Raw (Raw a) (Packed b t) at to one two = absurd to
desc_one used before plan.Raw (Raw a) (Mid b small large i) at to one two = absurd to
desc_one used before plan.Raw (Raw a) (Raw b) at to one two = ap Raw (block_one used before a b (at ∙ sym to) one two)

-- a page that is laid
lays_one : (s : Store) (page : ℕ) (lines : List (List ℕ)) (t u : Store) → Lays s page lines t → Lays s page lines u → t ≡ u
lays_one s page lines t u one two =
    let held = block_at s.descriptors page in
    let desc : one.comes.desc ≡ two.comes.desc =
    desc_one s.used held (plan_of s.codec (page_of lines page)) one.comes.desc two.comes.desc one.comes.at_plan two.comes.at_plan one.comes.new_block two.comes.new_block in
    let descriptors : t.descriptors ≡ u.descriptors = one.comes.descriptors_are ∙ ap (set s.descriptors page) desc ∙ sym two.comes.descriptors_are in
    let used : t.used ≡ u.used = one.comes.used_is ∙ ap (λ d. moved s.used held (block_of d)) desc ∙ sym two.comes.used_is in
    one.is ∙ rw (desc, descriptors, used) refl ∙ sym two.is

-- where no turn is left, none is made
no_turn : (s : Store) (page : ℕ) → turn_at s page ≡ Next → IsSettled s page
no_turn s page none v made = made.off (made.makes.makes.row ∙ none)

-- a page that comes to its plan
brings_one : (s : Store) (page : ℕ) (t u : Store) → BringsToPlan s page t → BringsToPlan s page u → t ≡ u
brings_one s page t u one two =
    tidy_turns_one s page one.count two.count t u one.turns two.turns (no_turn t page one.settled) (no_turn u page two.settled)

-- a page in its turn
step_one : (s : Store) (but page : ℕ) (t u : Store) → TidyStep s but page t → TidyStep s but page u → t ≡ u
step_one s but page t u = by_test (eqb page but)
  where
    by_test : (d : Bool) → MatchBool d (t ≡ s) (BringsToPlan s page t) → MatchBool d (u ≡ s) (BringsToPlan s page u) → t ≡ u
    by_test true one two = one ∙ sym two
    by_test false one two = brings_one s page t u one two

-- the pages that are tidied
tidied_one : (s : Store) (but n : ℕ) (t u : Store) → TidiedUpTo s but n t → TidiedUpTo s but n u → t ≡ u
unfolding TidiedUpTo
tidied_one s but zero t u one two = one ∙ sym two
tidied_one s but (suc n) t u one two =
    let mid : one.0 ≡ two.0 = tidied_one s but n one.0 two.0 one.1 two.1 in
    step_one two.0 but n t u (subst (λ (m : Store). TidyStep m but n t) mid one.2) two.2

-- a page has room or lacks it
room_lacks : (ds : List Desc) (used : List ℕ) (page : ℕ) (p : PagePlan) (order : ℕ) → HasRoom ds used page p → LacksRoom ds used page p order → ⊥
room_lacks ds used page p order room lacks =
    let place = room order lacks.order_is in
    lacks.none place.0 place.1

-- the way that is made
way_one : (s : Store) (page : ℕ) (p : PagePlan) (t u : Store) → MakesWay s page p t → MakesWay s page p u → t ≡ u
way_one s page p t u (inl one) (inl two) = one.1 ∙ sym two.1
way_one s page p t u (inl one) (inr two) = absurd (room_lacks s.descriptors s.used page p two.0 one.0 two.1.0)
way_one s page p t u (inr one) (inl two) = absurd (room_lacks s.descriptors s.used page p one.0 two.0 one.1.0)
way_one s page p t u (inr one) (inr two) = tidied_one s page (length s.descriptors) t u one.1.1 two.1.1

-- a page that is laid where way was made
goes_anew_one : (s : Store) (page : ℕ) (lines : List (List ℕ)) (t u : Store) → GoesAnew s page lines t → GoesAnew s page lines u → t ≡ u
goes_anew_one s page lines t u one two =
    let mid : one.mid ≡ two.mid = way_one s page (plan_of s.codec (page_of lines page)) one.mid two.mid one.way two.way in
    lays_one two.mid page lines t u (subst (λ (m : Store). Lays m page lines t) mid one.lays) two.lays

-- a line that goes where it belongs
right_one : (codec : Codec) (shape : Shape) (i : ℕ) (from old a b : List ℕ) → GoesRight codec shape i from old a → GoesRight codec shape i from old b → a ≡ b
right_one codec shapes.Zero i from old a b one two = absurd one
right_one codec shapes.Raw i from old a b one two = one ∙ sym two
right_one codec (shapes.Slotted slots) i from old a b one two = place_one codec (form_of slots) i from old a b one two

-- a line that is put into its page
puts_one : (s : Store) (page i : ℕ) (bytes : List ℕ) (t u : Store) → PutsIn s page i bytes t → PutsIn s page i bytes u → t ≡ u
puts_one s page i bytes t u one two =
    let own : one.own ≡ two.own = right_one s.codec (shape_at s page) i bytes (bytes_at s.bytes page) one.own two.own one.right two.right in
    one.is ∙ rw own refl ∙ sym two.is

-- a line stays zero only where it has a place
stays_has_place : (s : Store) (page i : ℕ) (bytes : List ℕ) (t : Store) → StaysZero s page bytes t → HasNoPlace s page i bytes → ⊥
stays_has_place s page i bytes t stays (inl none) = none.1 stays.zeros
stays_has_place s page i bytes t stays (inr none) = none.0 stays.is_zero

-- a line is put only where it has a place
puts_has_place : (s : Store) (page i : ℕ) (bytes : List ℕ) (t : Store) → PutsIn s page i bytes t → HasNoPlace s page i bytes → ⊥
puts_has_place s page i bytes t puts (inl none) = puts.not_zero none.0
puts_has_place s page i bytes t puts (inr none) = puts.has_place none.1

-- a line that goes in
goes_in_one : (s : Store) (page i : ℕ) (bytes : List ℕ) (t u : Store) → GoesIn s page i bytes t → GoesIn s page i bytes u → t ≡ u
goes_in_one s page i bytes t u (inl one) (inl two) = one.stays ∙ sym two.stays
goes_in_one s page i bytes t u (inl one) (inr (inl two)) = absurd (two.not_zero one.is_zero)
goes_in_one s page i bytes t u (inl one) (inr (inr two)) = absurd (stays_has_place s page i bytes t one two.0)
goes_in_one s page i bytes t u (inr (inl one)) (inl two) = absurd (one.not_zero two.is_zero)
goes_in_one s page i bytes t u (inr (inl one)) (inr (inl two)) = puts_one s page i bytes t u one two
goes_in_one s page i bytes t u (inr (inl one)) (inr (inr two)) = absurd (puts_has_place s page i bytes t one two.0)
goes_in_one s page i bytes t u (inr (inr one)) (inl two) = absurd (stays_has_place s page i bytes u two one.0)
goes_in_one s page i bytes t u (inr (inr one)) (inr (inl two)) = absurd (puts_has_place s page i bytes u two one.0)
goes_in_one s page i bytes t u (inr (inr one)) (inr (inr two)) = goes_anew_one s page (set s.lines (64 * page + i) bytes) t u one.1 two.1

-- a write that is granted
writes_one : (s : Store) (line : ℕ) (bytes : List ℕ) (t u : Store) → Writes s line bytes t → Writes s line bytes u → t ≡ u
writes_one s line bytes t u one two =
    let after : one.after ≡ two.after = goes_in_one (looked_up s (line / 64)) (line / 64) (line % 64) bytes one.after two.after one.goes two.goes in
    one.is ∙ ap (λ (m : Store). record m { counts = written_more m.counts }) after ∙ sym two.is

-- two refusals of lines
refused_one : (s l : Store) (page : ℕ) (lines : List (List ℕ)) (Why : Type 0) (a c : NoSpace) (t u : Store) → Refused s l page lines Why a t → Refused s l page lines Why c u → (a ≡ c) × (t ≡ u)
refused_one s l page lines Why a c t u one two =
    let page_same : a.page.0 ≡ c.page.0 = one.cause.page_is ∙ sym two.cause.page_is in
    let order : a.order ≡ c.order = same_Some a.order c.order (sym one.cause.order_is ∙ two.cause.order_is) in
    let left : NoSpace = record { page = record { 0 = a.page.0 }; order = a.order } in
    let right : NoSpace = record { page = record { 0 = c.page.0 }; order = c.order } in
    let same : left ≡ right = cc in
    let mid : one.inside.mid ≡ two.inside.mid = tidied_one l page (length l.descriptors) one.inside.mid two.inside.mid one.inside.tidied two.inside.tidied in
    (same, one.inside.is ∙ ap (λ (m : Store). record m { stops = raised m.stops }) mid ∙ sym two.inside.is)

-- a page is not both laid anew and refused
anew_refused : (s : Store) (page : ℕ) (lines : List (List ℕ)) (order : ℕ) (t u : Store) → GoesAnew s page lines t → IsRefused s page lines order u → ⊥
anew_refused s page lines order t u one two = by_way one.way
  where
    p : PagePlan
    p = plan_of s.codec (page_of lines page)

    by_way : MakesWay s page p one.mid → ⊥
    by_way (inl way) = room_lacks s.descriptors s.used page p order way.0 two.first
    by_way (inr way) =
        let mid : one.mid ≡ two.mid = tidied_one s page (length s.descriptors) one.mid two.mid way.1.1 two.tidied in
        room_lacks two.mid.descriptors two.mid.used page p order (subst (λ (m : Store). HasRoom m.descriptors m.used page p) mid one.room) two.again

-- a look-up changes no line
looked_lines : (shape : Shape) (s : Store) (page : ℕ) → (looked_by shape s page).lines ≡ s.lines
looked_lines shapes.Zero s page = refl
looked_lines shapes.Raw s page = refl
looked_lines (shapes.Slotted slots) s page = refl

-- a write is not both granted and refused
granted_refused : (s : Store) (line : ℕ) (bytes : List ℕ) (refusal : NoSpace) (t u : Store) → StoreWrite s line bytes (Ok tt) t → StoreWrite s line bytes (Err refusal) u → ⊥
granted_refused s line bytes refusal t u one two = by_place one.goes
  where
    page : ℕ
    page = line / 64

    l : Store
    l = looked_up s page

    by_place : GoesIn l page (line % 64) bytes one.after → ⊥
    by_place (inl stays) = stays_has_place l page (line % 64) bytes one.after stays two.why
    by_place (inr (inl puts)) = puts_has_place l page (line % 64) bytes one.after puts two.why
    by_place (inr (inr anew)) =
        let at : 64 * page + line % 64 ≡ line = omega arith in
        let lines : set l.lines (64 * page + line % 64) bytes ≡ set s.lines line bytes = rw (at, looked_lines (shape_at s page) s page) refl in
        anew_refused l page (set s.lines line bytes) refusal.order one.after u (subst (λ (ls : List (List ℕ)). GoesAnew l page ls one.after) lines anew.1) two.inside

-- a read
pub store_read_one : (s : Store) (line : ℕ) (a c : Result (List ℕ) NoSpace) (t u : Store) → StoreRead s line a t → StoreRead s line c u → (a ≡ c) × (t ≡ u)
store_read_one s line (Ok bytes) (Ok others) t u one two = (ap Ok (same_Some bytes others (sym one.bytes_are ∙ two.bytes_are)), one.rest ∙ sym two.rest)
store_read_one s line (Ok bytes) (Err refusal) t u one two = absurd two
store_read_one s line (Err refusal) c t u one two = absurd one

-- a write
pub store_write_one : (s : Store) (line : ℕ) (bytes : List ℕ) (a c : Answer) (t u : Store) → StoreWrite s line bytes a t → StoreWrite s line bytes c u → (a ≡ c) × (t ≡ u)
store_write_one s line bytes (Ok v) (Ok w) t u one two = (refl, writes_one s line bytes t u one two)
store_write_one s line bytes (Ok v) (Err c) t u one two = absurd (granted_refused s line bytes c t u one two)
store_write_one s line bytes (Err a) (Ok w) t u one two = absurd (granted_refused s line bytes a u t two one)
store_write_one s line bytes (Err a) (Err c) t u one two =
    let l = looked_up s (line / 64) in
    let both = refused_one s l (line / 64) (set s.lines line bytes) (HasNoPlace l (line / 64) (line % 64) bytes) a c t u one two in
    (ap Err both.0, both.1)
