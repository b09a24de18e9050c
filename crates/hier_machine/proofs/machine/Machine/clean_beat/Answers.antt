use Rattle.std.proofs.Common.{rules, None, refl}
use Rattle.hier_types.specs.declared.beats.Beat.TheVariants.{Cleaner}
use Rattle.hier_types.specs.Causes.{raised}
use Rattle.hier_machine.specs.Beats.{Beats}
use Rattle.hier_machine.specs.contracts.machine.Machine.{the_view}
use Rattle.hier_machine.proofs.ListsLemmas.{lists_clean}
use Rattle.hier_machine.proofs.machine.Machine.clean_beat.Goals as goal

pub returns-clause-lists : goal.returns-clause-lists
returns-clause-lists c streams quiet =
    let old = the_view c.self.inside in
    let new = the_view (record c.self.inside { memory = c.below_do.new.self; cleaner_turns = c.saturating_add-self-inside.result }) in
    let does : Beats Cleaner old None new streams = search rules in
    rw (← c.self.view_is) (lists_clean (raised old.cleaner_turns) old new None streams does refl)
