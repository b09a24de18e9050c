use Rattle.page_mover.specs.Moves.{body}
use Rattle.page_mover.specs.Turns.{IsMeasured}
use Rattle.page_mover.proofs.tests.shifts.Given as goal

abbrev pub invariant-loop-turn : goal.invariant-loop-turn
invariant-loop-turn l = IsMeasured l.codec l.shape (body l.shape l.bytes) l.plan l.sizes
