use Rattle.page_slots.specs.Puts.{AllTaken}
use Rattle.page_slots.proofs.putting.free_chunk.Given as goal

abbrev pub invariant-loop-number : goal.invariant-loop-number
invariant-loop-number l = AllTaken l.fn.form l.bytes l.number
