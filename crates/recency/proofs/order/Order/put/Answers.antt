use Rattle.std.proofs.Common.{◌<◌, ◌+◌, ap, sym, ◌∙◌, arith}
use Rattle.recency.proofs.RingLemmas.{count_room, put_ring, linked_here, slots_are}
use Rattle.recency.proofs.order.Order.put.Goals as goal

pub overflow_add-self : goal.overflow_add-self
overflow_add-self c =
    let room : c.self.inside.count < c.self.inside.ways = count_room c.self.invariant c.args.slot (rw (← c.self.view_is) at c.requires.inside) (rw (← c.self.view_is) at c.requires.absent) in
    omega arith

pub invariant_of-self : goal.invariant_of-self
invariant_of-self c =
    let ring = put_ring c.self.invariant c.args.slot (rw (← c.self.view_is) at c.requires.inside) (rw (← c.self.view_is) at c.requires.absent) in
    rw (c.link_behind.ensures.next, c.link_behind.ensures.prev) (linked_here _ _ _ _ _ _ ring (sym ring.forth.0) (ap (λ n. n + 1) c.self.invariant.count_is ∙ omega arith))

pub returns : goal.returns
returns c =
    let ring = put_ring c.self.invariant c.args.slot (rw (← c.self.view_is) at c.requires.inside) (rw (← c.self.view_is) at c.requires.absent) in
    rw (← c.self.view_is) (ap (λ l. record { ways = c.self.inside.ways; slots = l }) (rw c.link_behind.ensures.next (slots_are _ _ _ _ ring)))
