use Rattle.std.proofs.Common.{◌==◌, ap, not, ◌∙◌}
use Rattle.recency.proofs.RingLemmas.{used_test}
use Rattle.recency.proofs.order.Order.has.Goals as goal

pub returns : goal.returns
returns c = rw (← c.self.view_is) (ap (λ n. not (n == c.args.slot)) c.link_of.ensures ∙ used_test c.self.invariant c.args.slot (rw (← c.self.view_is) at c.requires))
