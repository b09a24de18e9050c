use Rattle.l2_segments.proofs.SlideLemmas.{IsSlid}
use Rattle.l2_segments.proofs.slide.slide.Given as goal

abbrev pub invariant-loop-string : goal.invariant-loop-string
invariant-loop-string l = IsSlid l.initial.store l.initial.held l.store l.held l.string-index l.end
