use Rattle.hier_types.specs.Streams.{went}
use Rattle.hier_machine.proofs.FileRunLemmas.{begins_within, reports_file}
use Rattle.hier_cli.proofs.runs.run_file.Goals as goal

pub run_to_report-requires : goal.run_to_report-requires
run_to_report-requires g c =
    let opens = c.in-Ok.ensures.ok in
    record { running = opens.starts.new.running; within = begins_within c.args.settings.now c.args.file.items c.in-Ok.machine opens.starts }

pub returns-clause-ends : goal.returns-clause-ends
returns-clause-ends g c =
    reports_file c.args.settings.now c.args.file.items c.in-Ok.machine (went g.I.Source.left g.I.Source.faults g.O.Sink.written g.O.Sink.faults c.args.input.now c.run_to_report.new.input c.args.out.now c.run_to_report.new.out)
    c.run_to_report.result c.run_to_report.new.self c.in-Ok.ensures.ok c.run_to_report.ensures.runs
