use Rattle.hier_types.specs.Span.{line_at}
use Rattle.l1_cache.proofs.BytesLemmas.{held_some, peeked}
use Rattle.l1_cache.proofs.l1.L1Port.peek.Goals as goal

pub first_byte-requires-clause-some : goal.first_byte-requires-clause-some
first_byte-requires-clause-some g c = rw c.first.ensures.first (held_some c.self.invariant (line_at c.self.inside.span c.args.at) (rw (← c.self.view_is) at c.requires.held))

pub returns : goal.returns
returns g c =
    rw (← c.self.view_is) (peeked c.self.invariant c.args.at (rw (← c.self.view_is) at c.requires.has) (rw (← c.self.view_is) at c.requires.held) c.first_byte.result
    (rw c.first.ensures.first at c.first_byte.ensures))
