use Rattle.std.proofs.Common.{◌≡◌, ◌<◌, ◌∙◌, List, ℕ, length, sym, ap, subst, arith}
use Rattle.page_slots.specs.declared.desc.Desc.{Desc}
use Rattle.page_slots.specs.Descs.{shape_of}
use Rattle.page_slots.specs.Sound.{IsSound as IsSoundPage}
use Rattle.page_store.specs.Rooms.{IsWithin, bytes_of, held_of}
use Rattle.page_store.specs.Store.{Store, desc_at, store_in}
use Rattle.page_store.proofs.PagesLemmas as own
use Rattle.page_store.proofs.pages.Pages.layout_row.Goals as goal
use Rattle.page_store.proofs.pages.Pages.layout_row.Goals.{After-deref}

abbrev seen : After-deref → Store
seen c = store_in c.self.inside.codec c.self.inside.memory.items c.self.inside.blocks.descriptors c.self.inside.blocks.used c.self.inside.meta c.self.inside.counts c.self.inside.stops c.self.inside.cursor

abbrev desc : After-deref → Desc
desc c = desc_at c.self.inside.blocks.descriptors c.args.page.0

page_in : (c : After-deref) → c.args.page.0 < length c.self.inside.blocks.descriptors
page_in c = omega (arith, c.if-page-len.false, c.len.ensures, c.self.invariant.kept.counted)

pub bytes-requires : goal.bytes-requires
bytes-requires c' =
    let c = (goal.at.bytes-requires c').After-deref in
    subst (λ (m : List ℕ). IsWithin m c.held-held.result) (sym c.deref.ensures.value)
    (subst (IsWithin c.self.inside.memory.items) (sym c.held-held.ensures) (own.own_within (seen c) c.self.inside.memory.items c.self.inside.sizes.items c.self.invariant.kept c.args.page.0 (page_in c)))

pub place-requires : goal.place-requires
place-requires c' =
    let c = (goal.at.place-requires c').After-deref in
    let memory = c.self.inside.memory.items in
    let bytes : c'.bytes.result.now ≡ bytes_of memory (held_of (desc c)) =
    c'.bytes.ensures ∙ ap (λ (m : List ℕ). bytes_of m c.held-held.result) c.deref.ensures.value ∙ ap (bytes_of memory) c.held-held.ensures in (
      c.self.inside.codec,
      subst (λ (b : List ℕ). IsSoundPage c.self.inside.codec (shape_of c.desc.result.now) b) (sym bytes)
          (subst (λ (d : Desc). IsSoundPage c.self.inside.codec (shape_of d) (bytes_of memory (held_of (desc c)))) (sym c.desc.ensures)
          (own.own_sound (seen c) memory c.self.inside.sizes.items c.self.invariant.kept c.args.page.0 (page_in c))),
    )
