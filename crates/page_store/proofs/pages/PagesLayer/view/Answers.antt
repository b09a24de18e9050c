use Rattle.std.proofs.Common.{arith, ◌≡◌, ◌<◌, ◌+◌, ◌*◌, ◌/◌, ◌%◌, ◌∙◌, Some, List, ℕ, length, slice_get, sym, ap, subst}
use Rattle.page_slots.specs.Descs.{line_of}
use Rattle.page_slots.specs.Sound.{IsSound as IsSoundPage}
use Rattle.page_store.specs.declared.room.Held.{Held}
use Rattle.page_store.specs.Rooms.{IsWithin, bytes_of, held_at, helds}
use Rattle.page_store.specs.Store.{Store, store_in}
use Rattle.page_store.proofs.PagesLemmas as own
use Rattle.page_store.proofs.RoomLemmas.{length-helds, line_read}
use Rattle.page_store.proofs.pages.PagesLayer.view.Goals as goal
use Rattle.page_store.proofs.pages.PagesLayer.view.Goals.{After-deref}

abbrev seen : After-deref → Store
seen c = store_in c.self.inside.codec c.self.inside.memory.items c.self.inside.blocks.descriptors c.self.inside.blocks.used c.self.inside.meta c.self.inside.counts c.self.inside.stops c.self.inside.cursor

page_in : (c : After-deref) → c.args.line.0 / 64 < length c.self.inside.blocks.descriptors
page_in c =
    let inside : c.args.line.0 < length (seen c).lines = rw (← c.self.view_is) at c.requires in
    omega (arith, inside, c.self.invariant.kept.sound.whole)

pub line-requires-clause-within : goal.line-requires-clause-within
line-requires-clause-within c' =
    let c = (goal.at.line-requires-clause-within c').After-deref in
    subst (λ (m : List ℕ). IsWithin m c.held-held.result) (sym c.deref.ensures.value)
    (subst (IsWithin c.self.inside.memory.items) (sym c.held-held.ensures) (own.own_within (seen c) c.self.inside.memory.items c.self.inside.sizes.items c.self.invariant.kept (c.args.line.0 / 64) (page_in c)))

pub line-requires-clause-sound : goal.line-requires-clause-sound
line-requires-clause-sound c' =
    let c = (goal.at.line-requires-clause-sound c').After-deref in (
      c.self.inside.codec,
      subst (λ (m : List ℕ). IsSoundPage c.self.inside.codec c.held-held.result.shape (bytes_of m c.held-held.result)) (sym c.deref.ensures.value)
          (subst (λ (h : Held). IsSoundPage c.self.inside.codec h.shape (bytes_of c.self.inside.memory.items h)) (sym c.held-held.ensures)
          (own.own_sound (seen c) c.self.inside.memory.items c.self.inside.sizes.items c.self.invariant.kept (c.args.line.0 / 64) (page_in c))),
    )

pub returns : goal.returns
returns c' =
    let c = (goal.at.returns c').After-deref in
    let memory = c.self.inside.memory.items in
    let pages = helds c.self.inside.blocks.descriptors in
    let page = c.args.line.0 / 64 in
    let i = c.args.line.0 % 64 in
    let split : 64 * (c.args.line.0 / 64) + c.args.line.0 % 64 ≡ c.args.line.0 = omega arith in
    let at : c.held-held.result ≡ held_at pages (c.args.line.0 / 64) = c.held-held.ensures ∙ sym (own.own_held (seen c) memory c.self.inside.sizes.items c.self.invariant.kept (c.args.line.0 / 64) (page_in c)) in
    let read : c'.line.new.into ≡ line_of (held_at pages (c.args.line.0 / 64)).shape (bytes_of memory (held_at pages (c.args.line.0 / 64))) (c.args.line.0 % 64) =
    c'.line.ensures ∙ ap (λ (m : List ℕ). line_of c.held-held.result.shape (bytes_of m c.held-held.result) (c.args.line.0 % 64)) c.deref.ensures.value
    ∙ ap (λ (h : Held). line_of h.shape (bytes_of memory h) (c.args.line.0 % 64)) at in
    rw (← c'.self.view_is) (ap (slice_get (seen c).lines) (sym split) ∙ line_read memory pages (c.args.line.0 / 64) (c.args.line.0 % 64) (omega (arith, page_in c, length-helds c.self.inside.blocks.descriptors)) (omega arith)
    ∙ ap Some (sym read))
