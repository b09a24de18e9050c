use Rattle.number_set.proofs.SetLemmas.{summed_zeros, has_zeros}
use Rattle.number_set.proofs.set.NumberSet.new.Goals as goal

pub invariant_of-result : goal.invariant_of-result
invariant_of-result c = summed_zeros _ _ c.in_ok-words.ensures.count c.in_ok-summary.ensures.count c.in_ok-words.ensures.zero c.in_ok-summary.ensures.zero

pub returns : goal.returns
returns c = has_zeros _ c.in_ok-words.ensures.zero
