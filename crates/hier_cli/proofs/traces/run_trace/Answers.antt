use Rattle.std.proofs.Common.{◌≡◌, ◌∙◌, None, List, Option, ℕ, ap, subst, sym}
use Rattle.hier_types.specs.declared.beats.Beat.{Beat}
use Rattle.hier_types.specs.Streams.{Streams, went}
use Rattle.beat_runs.specs.Points.{Runs}
use Rattle.page_store.specs.Store.{sizing_of}
use Rattle.trace_reader.specs.Rows.{numbered_rows}
use Rattle.trace_reader.specs.Trace.{first_fault}
use Rattle.hier_machine.specs.declared.ends.TraceEnd.{TraceEnd}
use Rattle.hier_machine.specs.Memory.{store_of}
use Rattle.hier_machine.specs.Traces.{TraceBeats, TraceState, trace_stands}
use Rattle.hier_cli.specs.Traces.{accesses_in, accesses_left, printed, trace_state, with_next}
use Rattle.hier_cli.proofs.TraceLemmas.{reports_trace}
use Rattle.hier_cli.proofs.traces.run_trace.Goals as goal

pub returns-clause-ends : goal.returns-clause-ends
returns-clause-ends g c =
    let settings = c.args.settings.now in
    let file : List ℕ = c.args.file.items in
    let both : Streams = went g.I.Source.left g.I.Source.faults g.O.Sink.written g.O.Sink.faults c.args.input.now c.run-end.new.input c.args.out.now c.run-end.new.out in
    let last : TraceState = trace_state c.trace.inside.machine (with_next c.trace.inside.next (accesses_left c.trace.inside.rows)) in
    let accepted = subst (λ (bytes : List ℕ). first_fault settings.geometry (numbered_rows 1 bytes) ≡ None) c.deref.ensures.value c.in_default.ensures.0 in
    let read : accesses_left c.new-rows.result ≡ accesses_in settings.geometry file = ap accesses_left c.new-rows.ensures ∙ ap (λ bytes. accesses_in settings.geometry bytes) c.deref-2.ensures.value in
    let all : with_next c.next_access-next.result (accesses_left c.next_access-next.new.rows) ≡ accesses_in settings.geometry file = sym c.next_access-next.ensures.left ∙ read in
    let does = λ (beat : Beat) (a : TraceState) (result : Option TraceEnd) (b : TraceState) (s : Streams). TraceBeats printed (sizing_of (store_of a.machine.memory)) beat a result b s in
    let runs = subst (λ left. Runs trace_stands does settings.beats settings.budget (trace_state c.in-Ok.machine left) c.run-end.result last both) all
    (subst (λ t. Runs trace_stands does settings.beats settings.budget (trace_state c.in-Ok.machine (with_next c.next_access-next.result (accesses_left c.next_access-next.new.rows))) c.run-end.result t both) (sym c.trace.view_is) c.run-end.ensures.runs) in
    reports_trace settings file both c.in-Ok.machine c.run-end.result last c.told-told.result c.report.result c.report.new.self accepted c.in-Ok.ensures runs c.told-told.ensures c.report.ensures.reports
