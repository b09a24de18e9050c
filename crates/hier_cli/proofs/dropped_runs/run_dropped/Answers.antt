use Rattle.hier_types.specs.Streams.{Streams, streams, use_of}
use Rattle.hier_machine.specs.FileRuns.{dropped}
use Rattle.hier_machine.proofs.FileRunLemmas.{begins_within, runs_file, runs_to_end}
use Rattle.hier_cli.proofs.dropped_runs.run_dropped.Goals as goal

pub run-end-requires : goal.run-end-requires
run-end-requires g c =
    let opens = c.in-Ok.ensures.ok in
    record { running = opens.starts.new.running; within = begins_within c.args.settings.now c.args.file.items c.in-Ok.machine opens.starts }

pub returns-clause-ok : goal.returns-clause-ok
returns-clause-ok g c =
    let first = c.in-Ok.machine in
    let last = c.run-end.new.self in
    let alone : Streams = streams (use_of g.I.Source.left g.I.Source.faults c.args.input.now c.run-end.new.input) dropped in
    let told = c.told-told.ensures in
    runs_file c.args.settings.now c.args.file.items first alone c.told-told.result last c.in-Ok.ensures.ok
    (runs_to_end first c.run-end.result last alone c.told-told.result c.run-end.ensures.runs c.run-end.ensures.follows told.told told.sound)
