use Rattle.std.proofs.Common.{arith, ◌/◌, ◌≡◌, ◌<◌, ◌∙◌, List, ℕ, length, take, sym, ap, subst}
use Rattle.page_store.specs.declared.room.Held.{Held}
use Rattle.page_store.specs.Rooms.{IsWithin, bytes_at, bytes_of}
use Rattle.page_store.specs.Store.{Store, shape_at, store_in}
use Rattle.page_store.proofs.PagesLemmas as own
use Rattle.page_store.proofs.pages.Pages.look.Goals as goal
use Rattle.page_store.proofs.pages.Pages.look.Goals.{After-held-held}

abbrev seen : After-held-held → Store
seen c = store_in c.self.inside.codec c.self.inside.memory.items c.self.inside.blocks.descriptors c.self.inside.blocks.used c.self.inside.meta c.self.inside.counts c.self.inside.stops c.self.inside.cursor

page_in : (c : After-held-held) → (c.args.line.0 / 64) < length c.self.inside.blocks.descriptors
page_in c =
    let inside : c.args.line.0 < length (seen c).lines = rw (← c.self.view_is) at c.requires in
    omega (arith, inside, c.self.invariant.kept.sound.whole)

shape_is : (c : After-held-held) → shape_at (seen c) (c.args.line.0 / 64) ≡ c.held-held.result.shape
shape_is c =
    own.own_shape (seen c) c.self.inside.memory.items c.self.inside.sizes.items c.self.invariant.kept (c.args.line.0 / 64) (page_in c) ∙ sym (ap (λ h. h.shape) c.held-held.ensures)

pub chunk-chunk-requires-clause-within : goal.chunk-chunk-requires-clause-within
chunk-chunk-requires-clause-within c' =
    let c = (goal.at.chunk-chunk-requires-clause-within c').After-held-held in
    subst (λ m. IsWithin m c.held-held.result) (sym c'.deref.ensures.value)
    (subst (IsWithin c.self.inside.memory.items) (sym c.held-held.ensures) (own.own_within (seen c) c.self.inside.memory.items c.self.inside.sizes.items c.self.invariant.kept (c.args.line.0 / 64) (page_in c)))

-- the chunk that was read is the page's own
own_chunk : (c : After-held-held) (m chunk : List ℕ) → m ≡ c.self.inside.memory.items → chunk ≡ take 64 (bytes_of m c.held-held.result) → chunk ≡ take 64 (bytes_at (seen c).bytes (c.args.line.0 / 64))
own_chunk c m chunk is read =
    read ∙ ap (λ (x : List ℕ). take 64 (bytes_of x c.held-held.result)) is ∙ ap (λ (h : Held). take 64 (bytes_of c.self.inside.memory.items h)) c.held-held.ensures
    ∙ ap (take 64) (sym (own.own_bytes (seen c) c.self.inside.memory.items c.self.inside.sizes.items c.self.invariant.kept (c.args.line.0 / 64) (page_in c)))

pub invariant_of-self : goal.invariant_of-self
invariant_of-self c' =
    let c = (goal.at.invariant_of-self c').After-held-held in
    rw c'.look.ensures.after (record {
      kept = own.kept_looked (seen c) c.self.inside.memory.items c.self.inside.sizes.items (c.args.line.0 / 64) c'.in-Slotted.field-0 c'.chunk-chunk.result _ c.self.invariant.kept
          (shape_is c ∙ c'.in-Slotted.is) (own_chunk c c'.deref.result.now c'.chunk-chunk.result c'.deref.ensures.value c'.chunk-chunk.ensures);
      strays_are = c.self.invariant.strays_are;
      totals_are = c.self.invariant.totals_are;
    })

pub invariant_of-self-else-look : goal.invariant_of-self-else-look
invariant_of-self-else-look c' =
    let c = (goal.at.invariant_of-self-else-look c').After-held-held in
    rw c'.look.ensures.after (record {
      kept = own.kept_looked (seen c) c.self.inside.memory.items c.self.inside.sizes.items (c.args.line.0 / 64) c'.in-Slotted.field-0 c'.chunk-chunk.result _ c.self.invariant.kept
          (shape_is c ∙ c'.in-Slotted.is) (own_chunk c c'.deref.result.now c'.chunk-chunk.result c'.deref.ensures.value c'.chunk-chunk.ensures);
      strays_are = c.self.invariant.strays_are;
      totals_are = c.self.invariant.totals_are;
    })
