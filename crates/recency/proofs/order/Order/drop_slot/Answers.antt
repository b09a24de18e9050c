use Rattle.std.proofs.Common.{◌≢◌, ap, sym, ◌∙◌, arith, get_or}
use Rattle.recency.specs.Ring.{slots_of}
use Rattle.recency.proofs.UseLemmas.{has-removed, removed_none}
use Rattle.recency.proofs.RingLemmas.{next_within, prev_within, drop_ring, count_fell, linked_here, slots_are, not_in_use}
use Rattle.recency.proofs.order.Order.drop_slot.Goals as goal

pub unlink-requires-clause-before : goal.unlink-requires-clause-before
unlink-requires-clause-before c = prev_within c.self.invariant c.args.slot (rw (← c.self.view_is) at c.requires) (λ e. c.if-link_of-slot.false (c.link_of.ensures ∙ e))

pub unlink-requires-clause-after : goal.unlink-requires-clause-after
unlink-requires-clause-after c = next_within c.self.invariant c.args.slot (rw (← c.self.view_is) at c.requires) (λ e. c.if-link_of-slot.false (c.link_of.ensures ∙ e))

pub invariant_of-self : goal.invariant_of-self
invariant_of-self c =
    let used : get_or c.self.inside.next.items c.args.slot 0 ≢ c.args.slot = λ e. c.if-link_of-slot.false (c.link_of.ensures ∙ e) in
    let ring = drop_ring c.self.invariant c.args.slot (rw (← c.self.view_is) at c.requires) used in
    let fell = count_fell c.self.invariant c.args.slot (rw (← c.self.view_is) at c.requires) used in
    rw (c.unlink.ensures.next, c.unlink.ensures.prev) (linked_here _ _ _ _ _ _ ring (c.link_of-self-inside.ensures ∙ ap (λ l. get_or l c.self.inside.ways 0) c.unlink.ensures.next) (omega arith))

pub returns-clause-after : goal.returns-clause-after
returns-clause-after c =
    let ring = drop_ring c.self.invariant c.args.slot (rw (← c.self.view_is) at c.requires) (λ e. c.if-link_of-slot.false (c.link_of.ensures ∙ e)) in
    rw (← c.self.view_is) (ap (λ l. record { ways = c.self.inside.ways; slots = l }) (rw c.unlink.ensures.next (slots_are _ _ _ _ ring)))

pub returns-clause-absent : goal.returns-clause-absent
returns-clause-absent c =
    let ring = drop_ring c.self.invariant c.args.slot (rw (← c.self.view_is) at c.requires) (λ e. c.if-link_of-slot.false (c.link_of.ensures ∙ e)) in
    rw (c.unlink.ensures.next, slots_are _ _ _ _ ring) (has-removed (slots_of c.self.inside.next.items c.self.inside.ways) c.args.slot c.self.invariant.ring.distinct)

pub returns-then-link_of-slot-clause-after : goal.returns-then-link_of-slot-clause-after
returns-then-link_of-slot-clause-after c =
    let out = not_in_use c.self.invariant c.args.slot (sym c.link_of.ensures ∙ c.if-link_of-slot.true) in
    rw (← c.self.view_is) (ap (λ l. record { ways = c.self.inside.ways; slots = l }) (sym (removed_none (slots_of c.self.inside.next.items c.self.inside.ways) c.args.slot out)))

pub returns-then-link_of-slot-clause-absent : goal.returns-then-link_of-slot-clause-absent
returns-then-link_of-slot-clause-absent c = rw (← c.self.view_is) (not_in_use c.self.invariant c.args.slot (sym c.link_of.ensures ∙ c.if-link_of-slot.true))
