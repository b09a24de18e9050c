use Rattle.page_mover.specs.Moves.{body}
use Rattle.page_mover.specs.Turns.{IsMeasured}
use Rattle.page_mover.proofs.tests.settle.Given as goal

abbrev pub invariant-loop-turns : goal.invariant-loop-turns
invariant-loop-turns l = IsMeasured l.codec l.shape (body l.shape l.bytes) l.plan l.sizes
