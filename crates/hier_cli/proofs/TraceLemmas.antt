-- From the run of a trace to the report of its file.
use Rattle.std.proofs.Common.{◌≡◌, ◌∙◌, ℕ, List, false, Option, Some, None, IfNone, refl, ap, sym, subst}
use Rattle.std.proofs.lemmas.List.{length-replicate}
use Rattle.hier_types.specs.declared.beats.Beat.TheVariants.{Hart}
use Rattle.hier_types.specs.declared.settings.Settings.{Settings}
use Rattle.hier_types.specs.Span.{Span}
use Rattle.hier_types.specs.Streams.{Streams}
use Rattle.beat_runs.specs.Points.{Runs, retired_by}
use Rattle.page_store.specs.Store.{Sizing, Store, sizing_of}
use Rattle.trace_reader.specs.Rows.{numbered_rows}
use Rattle.trace_reader.specs.Trace.{first_fault}
use Rattle.run_report.specs.declared.end.End.{End}
use Rattle.run_report.specs.declared.report.Report.{Report}
use Rattle.hier_machine.specs.declared.ends.TraceEnd.{TraceEnd}
use Rattle.hier_machine.specs.Memory.{Memory, store_of}
use Rattle.hier_machine.specs.Reports.{Reports}
use Rattle.hier_machine.specs.declared.ends.TraceEnd.TheVariants.{Done, Budget, Space, OutFault}
use Rattle.hier_machine.specs.Spaces.{HasNoneIfSpace}
use Rattle.hier_machine.specs.Start.{StartsEmpty, asked_sizing}
use Rattle.hier_machine.specs.State.{MachineState}
use Rattle.hier_machine.specs.Traces.{IsCrowdedAtEnd, MakesAccess, RunsTrace, TraceBeats, TraceState, trace_stands}
use Rattle.hier_machine.proofs.TraceLemmas.{empty_shows, follows_accesses, trace_crowded, trace_goes_on, trace_run}
use Rattle.hier_cli.specs.Traces.{IsTraceEnd, ReportsTraceFile, accesses_in, printed, trace_state}

-- an access that ends nothing is counted
pub access_goes_on : (sizing : Sizing) (a b : TraceState) (result : Option TraceEnd) (s : Streams) → MakesAccess printed sizing a result b s → b.machine.ended ≡ false
    → IfNone result ((b.machine.ended ≡ false) × (b.machine.guest.retired ≡ retired_by Hart a.machine.guest.retired))
access_goes_on sizing a b None s h running = (running, trace_goes_on printed sizing Hart a b s h)
access_goes_on sizing a b (Some end) s h running = tt

-- the end of a trace over a crowded store tells of no free block from the refused order on
none_free_trace : (span : Span) (store : Store) (end : TraceEnd) (own : End) → IsTraceEnd span store end own → IsCrowdedAtEnd store end → HasNoneIfSpace own
none_free_trace span store Done own told crowded = subst HasNoneIfSpace (sym told) tt
none_free_trace span store Budget own told crowded = subst HasNoneIfSpace (sym told) tt
none_free_trace span store OutFault own told crowded = subst HasNoneIfSpace (sym told) tt
none_free_trace span store (Space refusal) own told crowded = subst HasNoneIfSpace (sym told.told) (told.none_free crowded)

-- the run of a machine of zeros over the accesses in a file, with its report, is one of the file
pub reports_trace : (settings : Settings) (file : List ℕ) (streams : Streams) (first : MachineState) (end : TraceEnd) (last : TraceState) (own : End) (report : Report) (settled : MachineState)
    → first_fault settings.geometry (numbered_rows 1 file) ≡ None → StartsEmpty settings first
    → Runs trace_stands (λ beat a result b s. TraceBeats printed (sizing_of (store_of a.machine.memory)) beat a result b s) settings.beats settings.budget (trace_state first (accesses_in settings.geometry file)) end last streams
    → IsTraceEnd last.machine.memory.span (store_of last.machine.memory) end own → Reports last.machine own report settled → ReportsTraceFile settings file streams report
reports_trace settings file streams first end last own report settled accepted starts runs told reports =
    let all = accesses_in settings.geometry file in
    let old = trace_state first all in
    let sizing = sizing_of (store_of first.memory) in
    let at_span : first.memory.span ≡ settings.geometry = ap (λ (m : Memory). m.span) starts.memory in
    let asked : sizing ≡ asked_sizing settings = ap (λ (m : Memory). sizing_of (store_of m)) starts.memory ∙ ap (λ n. record { codec = settings.codec; frames = n; meta = settings.meta }) (length-replicate {A = ℕ} settings.frames 0) in
    let run : RunsTrace printed settings.budget settings.beats old end last streams = trace_run printed settings.budget settings.beats old end last streams (empty_shows settings first starts) runs in
    let crowded = trace_crowded printed settings.budget settings.beats old end last streams run in
    let told_at = subst (λ span. IsTraceEnd span (store_of last.machine.memory) end own) (run.stays.span ∙ at_span) told in
    record {
      last = last.machine;
      ran = record {
        accepted = accepted;
        first = first;
        starts = starts;
        end = end;
        left = last.left;
        run = run;
        follows = follows_accesses printed settings.budget settings.beats sizing settings.geometry all old end last streams at_span starts.bytes starts.retired refl run.run;
        told = subst (λ e. IsTraceEnd settings.geometry (store_of last.machine.memory) end e) (sym reports.end_is) told_at;
        crowded = crowded;
        none_free = subst HasNoneIfSpace (sym reports.end_is) (none_free_trace settings.geometry (store_of last.machine.memory) end own told_at crowded);
        sound = reports.sound;
        sizing = run.stays.sizing ∙ asked;
      };
      settled = settled;
      reports = subst (λ e. Reports last.machine e report settled) (sym reports.end_is) reports;
    }
