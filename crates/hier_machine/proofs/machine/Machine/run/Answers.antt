use Rattle.std.proofs.Common.{◌≡◌, ◌∙◌, refl, ap}
use Rattle.std.proofs.lemmas.Result.{MatchResult-at_ok}
use Rattle.hier_machine.specs.Lists.{ShowsBytes, lists_of}
use Rattle.hier_machine.specs.State.{MachineState}
use Rattle.hier_machine.proofs.RunLemmas.{machine_faults, machine_follows, machine_run}
use Rattle.hier_machine.proofs.machine.Machine.run.Goals as goal

pub returns-clause-runs : goal.returns-clause-runs
returns-clause-runs g c =
    let shows : ShowsBytes (lists_of c.args.self.now) = rw (← c.self.view_is) refl in
    let copied : c.unwrap-word.result ≡ c.self.inside.beats = MatchResult-at_ok (λ copy. copy ≡ c.self.inside.beats) _ c.unwrap-word.result c.unwrap-word.ensures c.clone.ensures.cases in
    let word = copied ∙ ap (λ (s : MachineState). s.beats) c.self.view_is in
    let budget = ap (λ (s : MachineState). s.budget) c.self.view_is in
    machine_run c.args.self.now c.run.result c.run.new.runner _ c.unwrap-word.result c.self.inside.budget shows word budget c.run.ensures.runs

pub returns-clause-follows : goal.returns-clause-follows
returns-clause-follows g c = machine_follows c.args.self.now c.run.result c.run.new.runner _ c.requires.within (returns-clause-runs g c)

pub returns-clause-faults : goal.returns-clause-faults
returns-clause-faults g c = machine_faults c.args.self.now c.run.result c.run.new.runner _ (returns-clause-runs g c)
