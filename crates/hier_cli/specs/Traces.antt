-- Runs of a trace, and what is printed of them.
use Rattle.std.specs.Prelude.{◌≡◌, ℕ, ◌-◌, ◌*◌, List, [], ◌∷◌, ◌++◌, drop, Option, Some, None}
use Rattle.hier_types.specs.Span.{Span}
use Rattle.hier_types.specs.declared.access.Access.{Access}
use Rattle.hier_types.specs.declared.access.Access.TheVariants.{Load, Store}
use Rattle.hier_types.specs.declared.settings.Settings.{Settings}
use Rattle.hier_types.specs.Streams.{AreUntouched, Streams}
use Rattle.page_store.specs.Store as pages
use Rattle.trace_reader.specs.Rows.{numbered_rows}
use Rattle.trace_reader.specs.Trace.{Reading, accesses_of, first_fault, rows_left}
use Rattle.hier_machine.specs.declared.ends.TraceEnd.{TraceEnd}
use Rattle.hier_machine.specs.declared.ends.TraceEnd.TheVariants as trace
use Rattle.hier_machine.specs.Memory.{store_of}
use Rattle.hier_machine.specs.Reports.{Reports}
use Rattle.hier_machine.specs.Spaces.{HasNoneIfSpace, IsSpaceEnd}
use Rattle.hier_machine.specs.Start.{StartsEmpty, asked_sizing}
use Rattle.hier_machine.specs.State.{MachineState}
use Rattle.hier_machine.specs.Traces.{FollowsAccesses, IsCrowdedAtEnd, RunsTrace, TraceState}
use Rattle.run_report.specs.Texts.{address, line_feed}
use Rattle.run_report.specs.declared.end.End.{End}
use Rattle.run_report.specs.declared.end.End.TheVariants.{Done, BadTrace, Budget, OutFault, NoMemory}
use Rattle.run_report.specs.declared.report.Report.{Report}
use Rattle.hier_cli.specs.declared.notice.Notice.{Notice}
use Rattle.hier_cli.specs.declared.notice.Notice.TheVariants.{Ended, Reported}

-- what is printed of an access: the value of a load in two hexadecimal digits for each of its bytes, in a line of its own
abbrev pub printed : Access → ℕ → List ℕ
printed (Load at width) value = drop (8 - 2 * width) (address value ++ line_feed)
printed (Store at width stored) value = []

-- the accesses of a trace in a file
abbrev pub accesses_in : Span → List ℕ → List Access
accesses_in span file = accesses_of span (numbered_rows 1 file)

-- a machine with the accesses that are left
abbrev pub trace_state : MachineState → List Access → TraceState
trace_state machine left = record { machine = machine; left = left }

-- the end of a trace as the program's; of a refused block it tells what the store then has
abbrev pub IsTraceEnd : Span → pages.Store → TraceEnd → End → Type 0
IsTraceEnd span store trace.Done end = end ≡ Done
IsTraceEnd span store trace.Budget end = end ≡ Budget
IsTraceEnd span store (trace.Space refusal) end = IsSpaceEnd span store refusal end
IsTraceEnd span store trace.OutFault end = end ≡ OutFault

-- The trace has no fault, and its accesses were made up to this end over a machine of zeros, by the loop of every run: over
-- both cache levels and the pages, and so over the lists of both levels above plain contents. What was printed and what is
-- left are those of the accesses alone. The store that is left is sound; after a refusal it is crowded, and no block is free
-- from the refused order on.
pub record RunsTraceFile (settings : Settings) (file : List ℕ) (streams : Streams) (own : End) (last : MachineState) : Type 0 where
  pub accepted : first_fault settings.geometry (numbered_rows 1 file) ≡ None
  pub first : MachineState
  pub starts : StartsEmpty settings first
  pub end : TraceEnd
  pub left : List Access
  pub run : RunsTrace printed settings.budget settings.beats (trace_state first (accesses_in settings.geometry file)) end (trace_state last left) streams
  pub follows : FollowsAccesses printed settings.budget settings.geometry (accesses_in settings.geometry file) end (trace_state last left) streams
  pub told : IsTraceEnd settings.geometry (store_of last.memory) end own
  pub crowded : IsCrowdedAtEnd (store_of last.memory) end
  pub none_free : HasNoneIfSpace own
  pub sound : pages.IsSound (store_of last.memory)
  pub sizing : pages.sizing_of (store_of last.memory) ≡ asked_sizing settings

-- And the machine that it left gave the report.
pub record ReportsTraceFile (settings : Settings) (file : List ℕ) (streams : Streams) (report : Report) : Type 0 where
  pub last : MachineState
  pub ran : RunsTraceFile settings file streams report.end last
  pub settled : MachineState
  pub reports : Reports last report.end report settled

-- how the work on a trace ends
abbrev pub EndsTraceFile : Settings → Streams → List ℕ → Notice → Type 0
EndsTraceFile settings streams file (Ended (BadTrace fault)) = (first_fault settings.geometry (numbered_rows 1 file) ≡ Some fault) × AreUntouched streams
EndsTraceFile settings streams file (Ended NoMemory) = AreUntouched streams
EndsTraceFile settings streams file (Reported report) = ReportsTraceFile settings file streams report
EndsTraceFile settings streams file notice = ⊥

-- the accesses of the rows that are left to a reader
abbrev pub accesses_left : Reading → List Access
accesses_left reading = accesses_of reading.span (rows_left reading)

-- A reader that has found no fault, and will find none.
pub record IsFaultless (reading : Reading) : Type 0 where
  pub found : reading.fault ≡ None
  pub left : first_fault reading.span (rows_left reading) ≡ None

-- an access that was read, and those that are left; none is left where none was read
abbrev pub with_next : Option Access → List Access → List Access
with_next None left = []
with_next (Some access) left = access ∷ left
