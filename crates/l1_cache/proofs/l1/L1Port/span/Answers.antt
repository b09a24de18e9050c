use Rattle.l1_cache.proofs.BytesLemmas.{sized}
use Rattle.l1_cache.proofs.l1.L1Port.span.Goals as goal

pub returns-clause-sized : goal.returns-clause-sized
returns-clause-sized g c = rw (← c.self.view_is) (sized c.self.invariant)
