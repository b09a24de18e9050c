use Rattle.std.proofs.Common.{sym, subst}
use Rattle.hier_types.specs.Streams.{Streams, went}
use Rattle.hier_machine.specs.FileRuns.{RunsToEnd}
use Rattle.hier_machine.specs.Reports.{Reports}
use Rattle.hier_machine.proofs.FileRunLemmas.{runs_to_end}
use Rattle.run_report.specs.declared.end.End.{End}
use Rattle.hier_machine.proofs.machine.Machine.run_to_report.Goals as goal

pub returns-clause-runs : goal.returns-clause-runs
returns-clause-runs g c =
    let first = c.args.self.now in
    let last = c.run-end.new.self in
    let ran = c.run-end.ensures in
    let report = c.report.ensures.reports in
    let own = sym report.end_is in
    let both : Streams = went g.I.Source.left g.I.Source.faults g.O.Sink.written g.O.Sink.faults c.args.input.now c.run-end.new.input c.args.out.now c.run-end.new.out in
    record {
      last = last;
      ran = subst (λ (e : End). RunsToEnd first both e last) own (runs_to_end first c.run-end.result last both c.told-told.result ran.runs ran.follows c.told-told.ensures.told c.told-told.ensures.sound);
      reports = subst (λ (e : End). Reports last e c.report.result c.report.new.self) own report;
    }
