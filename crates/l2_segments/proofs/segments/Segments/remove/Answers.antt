use Rattle.std.proofs.Common.{◌≡◌, ◌∙◌, sym, ap}
use Rattle.l2_segments.specs.Strings.{without}
use Rattle.l2_segments.specs.Held.{texts_of}
use Rattle.l2_segments.proofs.TextLemmas.{string_of-without, string_of-without_other}
use Rattle.l2_segments.proofs.StoredLemmas.{used, without_at, stored_removed, room_freed}
use Rattle.l2_segments.proofs.segments.Segments.remove.Goals as goal

pub index_of-index-requires : goal.index_of-index-requires
index_of-index-requires c =
    rw c.deref.ensures.0 (used c.self.inside.store.items c.self.inside.held.items c.args.tag (rw (← c.self.view_is) at c.requires))

pub invariant_of-self : goal.invariant_of-self
invariant_of-self c =
    rw c.remove.ensures.items (stored_removed c.self.invariant c.args.tag c.index_of-index.result (rw c.deref.ensures.0 at c.index_of-index.ensures))

-- the strings that are left
left : (c : goal.After-remove) → texts_of c.self.inside.store.items c.remove.new.self.items ≡ without (texts_of c.self.inside.store.items c.self.inside.held.items) c.args.tag
left c =
    ap (texts_of c.self.inside.store.items) c.remove.ensures.items
    ∙ sym (without_at c.self.inside.store.items c.self.inside.held.items c.args.tag c.index_of-index.result c.self.invariant.once (rw c.deref.ensures.0 at c.index_of-index.ensures))

pub returns-clause-after : goal.returns-clause-after
returns-clause-after c = rw (← c.self.view_is) (ap (λ l. record { ways = c.self.inside.ways; texts = l }) (left c))

pub returns-clause-absent : goal.returns-clause-absent
returns-clause-absent c = rw (left c) (string_of-without (texts_of c.self.inside.store.items c.self.inside.held.items) c.args.tag)

pub returns-clause-others : goal.returns-clause-others
returns-clause-others c = λ other ne.
    rw (← c.self.view_is, left c) (string_of-without_other (texts_of c.self.inside.store.items c.self.inside.held.items) c.args.tag other ne)

pub returns-clause-freed : goal.returns-clause-freed
returns-clause-freed c = rw (← c.self.view_is, left c) (room_freed c.self.invariant c.args.tag)
