use Rattle.std.proofs.Common.{rules, ◌≡◌, ◌<◌, ◌↔◌, ◌∙◌, List, ℕ, length, sym, ap, subst, inl, refl}
use Rattle.page_mover.specs.Turns.{IsMeasured, turn_of}
use Rattle.hier_types.specs.declared.settings.Codec.{Codec}
use Rattle.page_mover.specs.declared.turning.Turn.{Turn}
use Rattle.page_mover.specs.declared.turning.Turn.TheVariants.{Next}
use Rattle.page_plan.specs.KeptSizes.{kept_sizes}
use Rattle.page_plan.specs.Pages.{page_of}
use Rattle.page_slots.specs.declared.desc.Shape.{Shape}
use Rattle.page_store.specs.Lays.{plan_at}
use Rattle.page_store.specs.PageBlocks.{IsAtPlan}
use Rattle.page_store.specs.Rooms.{IsWithin, bytes_at, bytes_of}
use Rattle.page_store.specs.Store.{IsSound, Store, desc_at, shape_at, store_in}
use Rattle.page_store.specs.Turns.{turn_at}
use Rattle.page_store.proofs.FarLemmas.{far_at_plan, far_most, measured_at, next_is_far}
use Rattle.page_store.proofs.PagesLemmas as own
use Rattle.page_store.proofs.StoreLemmas.{lines_of_one}
use Rattle.page_store.proofs.StrayLemmas.{no_stray, strays_found}
use Rattle.page_store.proofs.TurnLemmas.{next_at_plan}
use Rattle.page_store.proofs.pages.Pages.turn.Goals as goal
use Rattle.page_store.proofs.pages.Pages.turn.Goals.{After-plan, Then-not-has}

-- a page that is no stray
sound_now : (c : Then-not-has) → IsSound c.args.self.now
sound_now c = rw (← c.self.view_is) c.self.invariant.kept.sound

at_now : (c : Then-not-has) → IsAtPlan (plan_at c.args.self.now c.args.page) (desc_at c.args.self.now.descriptors c.args.page)
at_now c =
    let within : c.args.page < length c.self.inside.blocks.descriptors = rw (← c.self.view_is) at c.requires in
    let p = c.self.inside in
    rw (← c.self.view_is) (no_stray (store_in p.codec p.memory.items p.blocks.descriptors p.blocks.used p.meta p.counts p.stops p.cursor) c.self.inside.strays c.args.page c.self.invariant.strays_are within c.if-not-has.ensures)

pub returns-then-not-has-clause-turns : goal.returns-then-not-has-clause-turns
returns-then-not-has-clause-turns c = inl (refl, ((next_at_plan c.args.self.now c.args.page (sound_now c) c.requires).1 (at_now c), refl))

pub returns-then-not-has-clause-at_plan : goal.returns-then-not-has-clause-at_plan
returns-then-not-has-clause-at_plan c = (λ e. at_now c, λ at. refl)

pub returns-then-not-has-clause-far : goal.returns-then-not-has-clause-far
returns-then-not-has-clause-far c = (λ e. (far_at_plan c.args.self.now c.args.page (sound_now c) c.requires).1 (at_now c), λ far. refl)

pub returns-then-not-has-clause-most : goal.returns-then-not-has-clause-most
returns-then-not-has-clause-most c = far_most c.args.self.now c.args.page (sound_now c) c.requires

pub bytes-requires : goal.bytes-requires
bytes-requires c =
    let p = c.self.inside in
    let s = store_in p.codec p.memory.items p.blocks.descriptors p.blocks.used p.meta p.counts p.stops p.cursor in
    let page_in : c.args.page < length p.blocks.descriptors = rw (← c.self.view_is) at c.requires in
    subst (λ (m : List ℕ). IsWithin m c.held-held.result) (sym c.deref.ensures.value)
    (subst (IsWithin p.memory.items) (sym c.held-held.ensures) (own.own_within s p.memory.items p.sizes.items c.self.invariant.kept c.args.page page_in))

-- one that is a stray is measured
abbrev seen : After-plan → Store
seen c = store_in c.self.inside.codec c.self.inside.memory.items c.self.inside.blocks.descriptors c.self.inside.blocks.used c.self.inside.meta c.self.inside.counts c.self.inside.stops c.self.inside.cursor

page_in : (c : After-plan) → c.args.page < length c.self.inside.blocks.descriptors
page_in c = rw (← c.self.view_is) at c.requires

shape_is : (c : After-plan) → c.held-held.result.shape ≡ shape_at (seen c) c.args.page
shape_is c = ap (λ h. h.shape) c.held-held.ensures ∙ sym (own.own_shape (seen c) c.self.inside.memory.items c.self.inside.sizes.items c.self.invariant.kept c.args.page (page_in c))

bytes_are : (c : After-plan) → c.bytes.result.now ≡ bytes_at (seen c).bytes c.args.page
bytes_are c =
    c.bytes.ensures ∙ ap (λ (m : List ℕ). bytes_of m c.held-held.result) c.deref.ensures.value ∙ ap (bytes_of c.self.inside.memory.items) c.held-held.ensures
    ∙ sym (own.own_bytes (seen c) c.self.inside.memory.items c.self.inside.sizes.items c.self.invariant.kept c.args.page (page_in c))

measured : (c : After-plan) → IsMeasured c.self.inside.codec c.held-held.result.shape c.bytes.result.now c.plan.result c.index.result.now
measured c =
    let sizes : c.index.result.now ≡ kept_sizes c.self.inside.codec (page_of (seen c).lines c.args.page) =
    own.sizes_at (seen c) c.self.inside.memory.items c.self.inside.sizes.items c.self.invariant.kept c.args.page c.index.result.now (page_in c) c.index.ensures in
    let plan : c.plan.result ≡ plan_at (seen c) c.args.page =
    c.plan.ensures.value c.self.inside.codec (page_of (seen c).lines c.args.page) (lines_of_one (seen c).lines c.args.page c.self.invariant.kept.sound.lines_are) (sym sizes) in
    rw (shape_is c, bytes_are c, plan, sizes) (measured_at (seen c) c.args.page c.self.invariant.kept.sound (page_in c))

pub turn_by-turn-requires : goal.turn_by-turn-requires
turn_by-turn-requires c' =
    let c = (goal.at.turn_by-turn-requires c').After-plan in
    (c.self.inside.codec, measured c)

-- what was found is the next turn of the page
found : (c : After-plan) (turn : Turn) → ((codec : Codec) → IsMeasured codec c.held-held.result.shape c.bytes.result.now c.plan.result c.index.result.now → turn ≡ turn_of codec c.held-held.result.shape c.bytes.result.now)
    → turn ≡ turn_at (seen c) c.args.page
found c turn told =
    told c.self.inside.codec (measured c) ∙ ap (λ (f : Shape). turn_of c.self.inside.codec f c.bytes.result.now) (shape_is c)
    ∙ ap (turn_of c.self.inside.codec (shape_at (seen c) c.args.page)) (bytes_are c)

at_plan : (c : After-plan) → turn_at (seen c) c.args.page ≡ Next ↔ IsAtPlan (plan_at (seen c) c.args.page) (desc_at (seen c).descriptors c.args.page)
at_plan c = next_at_plan (seen c) c.args.page c.self.invariant.kept.sound (page_in c)

pub invariant_of-self : goal.invariant_of-self
invariant_of-self c' =
    let c = (goal.at.invariant_of-self c').After-plan in
    let next : c'.turn_by-turn.result ≡ Next = search rules in
    record {
      kept = c.self.invariant.kept;
      strays_are = strays_found (seen c) c.self.inside.strays c'.put.new.self c.args.page c.self.invariant.kept.sound c.self.invariant.strays_are c'.put.ensures
          ((at_plan c).0 (sym (found c c'.turn_by-turn.result c'.turn_by-turn.ensures) ∙ next));
      totals_are = c.self.invariant.totals_are;
    }

pub returns-then-eq-clause-turns : goal.returns-then-eq-clause-turns
returns-then-eq-clause-turns c' =
    let c = (goal.at.returns-then-eq-clause-turns c').After-plan in
    let next : c'.turn_by-turn.result ≡ Next = search rules in
    rw (← c'.self.view_is) (inl (refl, (sym (found c c'.turn_by-turn.result c'.turn_by-turn.ensures) ∙ next, refl)))

pub returns-then-eq-clause-at_plan : goal.returns-then-eq-clause-at_plan
returns-then-eq-clause-at_plan c' =
    let c = (goal.at.returns-then-eq-clause-at_plan c').After-plan in
    let next : c'.turn_by-turn.result ≡ Next = search rules in
    rw (← c'.self.view_is) (λ e. (at_plan c).0 (sym (found c c'.turn_by-turn.result c'.turn_by-turn.ensures) ∙ next), λ at. refl)

pub returns-then-eq-clause-far : goal.returns-then-eq-clause-far
returns-then-eq-clause-far c' =
    let c = (goal.at.returns-then-eq-clause-far c').After-plan in
    let next : c'.turn_by-turn.result ≡ Next = search rules in
    rw (← c'.self.view_is) (λ e. (next_is_far (seen c) c.args.page c.self.invariant.kept.sound (page_in c)).0 (sym (found c c'.turn_by-turn.result c'.turn_by-turn.ensures) ∙ next), λ far. refl)

pub returns-then-eq-clause-most : goal.returns-then-eq-clause-most
returns-then-eq-clause-most c' =
    let c = (goal.at.returns-then-eq-clause-most c').After-plan in
    rw (← c'.self.view_is) (far_most (seen c) c.args.page c.self.invariant.kept.sound (page_in c))

pub make-requires-clause-turn : goal.make-requires-clause-turn
make-requires-clause-turn c' =
    let c = (goal.at.make-requires-clause-turn c').After-plan in
    rw (← c'.self.view_is) (found c c'.turn_by-turn.result c'.turn_by-turn.ensures)

pub returns-clause-at_plan : goal.returns-clause-at_plan
returns-clause-at_plan c' =
    let c = (goal.at.returns-clause-at_plan c').After-plan in
    let same = found c c'.turn_by-turn.result c'.turn_by-turn.ensures in
    rw (← c'.self.view_is) (λ e. (at_plan c).0 (sym same ∙ e), λ at. same ∙ (at_plan c).1 at)

pub returns-clause-most : goal.returns-clause-most
returns-clause-most c' =
    let c = (goal.at.returns-clause-most c').After-plan in
    rw (← c'.self.view_is) (far_most (seen c) c.args.page c.self.invariant.kept.sound (page_in c))
