use Rattle.hier_machine.proofs.OneLemmas.{machine_runs_are_one}
use Rattle.hier_machine.proofs.machine.runs_are_one.Goals as goal

pub returns : goal.returns
returns c = machine_runs_are_one
