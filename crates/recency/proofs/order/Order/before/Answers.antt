use Rattle.std.proofs.Common.{sym, ◌∙◌, ap, Some}
use Rattle.recency.proofs.RingLemmas.{newer_some, newer_none, newer_absent}
use Rattle.recency.proofs.order.Order.before.Goals as goal

pub returns-then-link_of-slot : goal.returns-then-link_of-slot
returns-then-link_of-slot c = rw (← c.self.view_is) (sym (newer_absent c.self.invariant c.args.slot (sym c.link_of.ensures ∙ c.if-link_of-slot.true)))

pub returns-then-newer-self : goal.returns-then-newer-self
returns-then-newer-self c =
    rw (← c.self.view_is) (sym (newer_none c.self.invariant c.args.slot (rw (← c.self.view_is) at c.requires) (λ e. c.if-link_of-slot.false (c.link_of.ensures ∙ e)) (sym c.link_of-newer.ensures ∙ c.if-newer-self.true)))

pub returns-else-newer-self : goal.returns-else-newer-self
returns-else-newer-self c =
    rw (← c.self.view_is) (ap Some c.link_of-newer.ensures ∙ sym (newer_some c.self.invariant c.args.slot (rw (← c.self.view_is) at c.requires) (λ e. c.if-link_of-slot.false (c.link_of.ensures ∙ e)) (λ e. c.if-newer-self.false (c.link_of-newer.ensures ∙ e))))
