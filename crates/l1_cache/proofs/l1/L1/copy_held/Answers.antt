use Rattle.recency.proofs.LevelLemmas.{length-overlay}
use Rattle.l1_cache.proofs.BytesLemmas.{held_some, copied, copied_first}
use Rattle.l1_cache.proofs.l1.L1.copy_held.Goals as goal

pub copy_first-requires : goal.copy_first-requires
copy_first-requires g c = held_some c.self.invariant c.args.line.0 (rw (← c.self.view_is) at c.requires.held)

pub returns-clause-bytes : goal.returns-clause-bytes
returns-clause-bytes g c =
    rw (← c.self.view_is) (copied c.self.invariant c.args.line.0 (rw (← c.self.view_is) at c.requires.held) c.copy_first.new.into (rw length-overlay at (rw (← c.self.view_is) at c.requires.inside)) c.copy_first.ensures)

pub returns-clause-first : goal.returns-clause-first
returns-clause-first g c =
    rw (← c.self.view_is) (copied_first c.self.invariant c.args.line.0 (rw (← c.self.view_is) at c.requires.held) c.copy_first.new.into c.copy_first.ensures)
