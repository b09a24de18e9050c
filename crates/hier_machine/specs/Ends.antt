-- The end of a run as the program's.
use Rattle.std.specs.Prelude.{Option, Some, None}
use Rattle.rv_guest.specs.declared.ends.MachineEnd.{MachineEnd}
use Rattle.rv_guest.specs.declared.ends.MachineEnd.TheVariants as machine
use Rattle.run_report.specs.declared.end.End.{End}
use Rattle.run_report.specs.declared.end.End.TheVariants.{Exit, Trap, Budget, InFault, OutFault}

-- the program's end, but for a refused block, whose end tells of a store
abbrev pub told_as : MachineEnd → Option End
told_as (machine.Exit status) = Some (Exit status)
told_as (machine.Trap trap) = Some (Trap trap)
told_as machine.Budget = Some Budget
told_as (machine.Space refusal) = None
told_as machine.InFault = Some InFault
told_as machine.OutFault = Some OutFault
