use Rattle.std.proofs.Common.{rules, None}
use Rattle.hier_types.specs.declared.beats.Beat.TheVariants.{Mover}
use Rattle.hier_machine.specs.Beats.{Beats}
use Rattle.hier_machine.specs.contracts.machine.Machine.{the_view}
use Rattle.hier_machine.proofs.ListsLemmas.{lists_move}
use Rattle.hier_machine.proofs.machine.Machine.move_beat.Goals as goal

pub returns-clause-lists : goal.returns-clause-lists
returns-clause-lists c streams quiet =
    let old = the_view c.self.inside in
    let new = the_view (record c.self.inside { memory = c.below_do.new.self }) in
    let does : Beats Mover old None new streams = search rules in
    rw (← c.self.view_is) (lists_move old.cleaner_turns old new None streams does)
