use Rattle.number_set.specs.Numbers.{HasBelow}
use Rattle.buddy_frames.proofs.free_index.FreeIndex.full.Given as goal

abbrev pub invariant-loop-frame : goal.invariant-loop-frame
invariant-loop-frame l = HasBelow l.frames l.frame
