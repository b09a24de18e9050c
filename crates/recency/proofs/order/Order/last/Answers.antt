use Rattle.std.proofs.Common.{sym, ◌∙◌, ap, Some}
use Rattle.recency.proofs.RingLemmas.{tail_some, tail_none}
use Rattle.recency.proofs.order.Order.last.Goals as goal

pub returns-then-slot-self : goal.returns-then-slot-self
returns-then-slot-self c = rw (← c.self.view_is) (sym (tail_none c.self.invariant (sym c.link_of-slot.ensures ∙ c.if-slot-self.true)))

pub returns-else-slot-self : goal.returns-else-slot-self
returns-else-slot-self c =
    rw (← c.self.view_is) (ap Some c.link_of-slot.ensures ∙ sym (tail_some c.self.invariant (λ e. c.if-slot-self.false (c.link_of-slot.ensures ∙ e))))
