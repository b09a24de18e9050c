use Rattle.page_slots.specs.Moves.{NoneIn}
use Rattle.page_slots.proofs.moving.lowest_in.Given as goal

abbrev pub invariant-loop-number : goal.invariant-loop-number
invariant-loop-number l = NoneIn l.bytes l.low l.number
