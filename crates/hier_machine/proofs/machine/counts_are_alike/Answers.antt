use Rattle.hier_machine.proofs.WordLemmas.{machine_counts_are_alike}
use Rattle.hier_machine.proofs.machine.counts_are_alike.Goals as goal

pub returns : goal.returns
returns c = machine_counts_are_alike
