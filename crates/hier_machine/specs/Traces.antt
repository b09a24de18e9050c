-- Runs of a trace: its accesses, one after another, over the machine's memory. What is printed of an access is a parameter.
use Rattle.std.specs.Prelude.{◌≡◌, ⊤, ℕ, suc, ◌*◌, ◌≤◌, if◌then◌else◌, nat_lt, List, [], ◌∷◌, ◌++◌, replicate, take, drop, slice_get, Option, Some, None, Result, Ok, Err}
use Rattle.std.specs.Io.KnownBytes.{Appends}
use Rattle.hier_types.specs.Causes.{Rose}
use Rattle.hier_types.specs.Span.{Span}
use Rattle.hier_types.specs.Streams.{FailsToTake, IsUntouched, Stream, Streams}
use Rattle.hier_types.specs.declared.access.Access.{Access}
use Rattle.hier_types.specs.declared.access.Access.TheVariants.{Load, Store}
use Rattle.hier_types.specs.declared.beats.Beat.{Beat}
use Rattle.hier_types.specs.declared.beats.Beat.TheVariants.{Hart, Mover, Cleaner}
use Rattle.hier_types.specs.declared.faults.NoSpace.{NoSpace}
use Rattle.beat_runs.specs.Points.{Runs}
use Rattle.page_store.specs.Crowds.{Crowded}
use Rattle.page_store.specs.Store as pages
use Rattle.page_store.specs.Store.{Sizing, sizing_of}
use Rattle.rv_core.specs.Accesses.{accessed, value_of}
use Rattle.hier_machine.specs.declared.ends.TraceEnd.{TraceEnd}
use Rattle.hier_machine.specs.declared.ends.TraceEnd.TheVariants.{Done, Budget, Space, OutFault}
use Rattle.hier_machine.specs.Accesses.{AccessBeats}
use Rattle.hier_machine.specs.Beats.{Beats, KeepsSettings}
use Rattle.hier_machine.specs.Lists.{ListsAccess, ListsBeats, ShowsBytes, lists_of}
use Rattle.hier_machine.specs.Memory.{store_of}
use Rattle.hier_machine.specs.Runs.{CountsTurns}
use Rattle.hier_machine.specs.State.{MachineState}

-- a machine, and the accesses that are left
pub record TraceState : Type 0 where
  pub machine : MachineState
  pub left : List Access

-- how a run with this budget ends before a beat: no access is left, or one is left beyond the budget
abbrev pub trace_end : ℕ → ℕ → List Access → Option TraceEnd
trace_end budget made [] = Some Done
trace_end budget made (access ∷ rest) = if nat_lt made budget then None else Some Budget

-- with the state, which stays
abbrev pub with_state : TraceState → Option TraceEnd → Option (TraceEnd × TraceState)
with_state s None = None
with_state s (Some end) = Some (end, s)

abbrev pub trace_stands : ℕ → TraceState → Option (TraceEnd × TraceState)
trace_stands budget s = with_state s (trace_end budget s.machine.guest.retired s.left)

-- An access is tried: it is made or refused by both levels and the store, and so by the lists of both levels above the
-- contents.
pub record TriesAccess (sizing : Sizing) (old : MachineState) (access : Access) (answer : Result ℕ NoSpace) (new : MachineState) : Type 0 where
  pub machine : AccessBeats old access answer new
  pub lists : ListsAccess sizing (lists_of old) access answer (lists_of new)

-- a load: of a store nothing is printed
abbrev pub IsLoad : Access → Type 0
IsLoad (Load at width) = ⊤
IsLoad (Store at width value) = ⊥

-- what comes of it: the next one, with what is printed of its value; a load whose line the output did not take; or a
-- refusal, which leaves the access
abbrev pub TellsAccess : (Access → ℕ → List ℕ) → Access → List Access → Result ℕ NoSpace → Option TraceEnd → List Access → Stream → Type 0
TellsAccess printed access rest (Ok value) None left out = (left ≡ rest) × Appends out.before out.after (printed access value)
TellsAccess printed access rest (Ok value) (Some OutFault) left out = (left ≡ rest) × IsLoad access × FailsToTake out (printed access value)
TellsAccess printed access rest (Err refusal) (Some (Space given)) left out = (left ≡ access ∷ rest) × (given ≡ refusal) × IsUntouched out
TellsAccess printed access rest answer result left out = ⊥

-- The hart's beat makes the next access, and its value is printed.
pub record MakesAccess (printed : Access → ℕ → List ℕ) (sizing : Sizing) (old : TraceState) (result : Option TraceEnd) (new : TraceState) (streams : Streams) : Type 0 where
  pub access : Access
  pub rest : List Access
  pub next : old.left ≡ access ∷ rest
  pub answer : Result ℕ NoSpace
  pub tries : TriesAccess sizing old.machine access answer new.machine
  pub tells : TellsAccess printed access rest answer result new.left streams.output
  pub input : IsUntouched streams.input

-- Any other beat leaves the accesses.
pub record PassesTurn (sizing : Sizing) (beat : Beat) (old : TraceState) (result : Option TraceEnd) (new : TraceState) (streams : Streams) : Type 0 where
  pub none : result ≡ None
  pub machine : Beats beat old.machine None new.machine streams
  pub lists : ListsBeats sizing beat (lists_of old.machine) None (lists_of new.machine) streams
  pub left : new.left ≡ old.left

abbrev pub TraceBeats : (Access → ℕ → List ℕ) → Sizing → Beat → TraceState → Option TraceEnd → TraceState → Streams → Type 0
TraceBeats printed sizing Hart old result new streams = MakesAccess printed sizing old result new streams
TraceBeats printed sizing Mover old result new streams = PassesTurn sizing Mover old result new streams
TraceBeats printed sizing Cleaner old result new streams = PassesTurn sizing Cleaner old result new streams

-- the bytes after these accesses, one after another
abbrev pub bytes_after : Span → List Access → List ℕ → List ℕ
bytes_after span [] bytes = bytes
bytes_after span (access ∷ accesses) bytes = bytes_after span accesses (accessed span access bytes)

-- what is printed of them
abbrev pub printed_by : (Access → ℕ → List ℕ) → Span → List Access → List ℕ → List ℕ
printed_by printed span [] bytes = []
printed_by printed span (access ∷ accesses) bytes = printed access (value_of span access bytes) ++ printed_by printed span accesses (accessed span access bytes)

-- the memory that a trace begins with
abbrev pub zeros : Span → List ℕ
zeros span = replicate (4096 * span.pages) 0

-- The last access is a load. The output failed at its line, and took a front of it behind the lines before.
pub record FailsAtLine (printed : Access → ℕ → List ℕ) (span : Span) (all : List Access) (made : ℕ) (out : Stream) : Type 0 where
  pub before : ℕ
  pub last : made ≡ suc before
  pub access : Access
  pub is : slice_get all before ≡ Some access
  pub load : IsLoad access
  pub taken : ℕ
  pub wrote : Appends out.before out.after (printed_by printed span (take before all) (zeros span)
      ++ take taken (printed access (value_of span access (bytes_after span (take before all) (zeros span)))))
  pub rose : Rose out.faults_before out.faults_now

-- the output has the lines of the loads that were made, the last one perhaps in part
abbrev pub IsPrintedSoFar : (Access → ℕ → List ℕ) → Span → List Access → ℕ → Stream → TraceEnd → Type 0
IsPrintedSoFar printed span all made out OutFault = FailsAtLine printed span all made out
IsPrintedSoFar printed span all made out end = Appends out.before out.after (printed_by printed span (take made all) (zeros span))

-- By the accesses alone, which began over zeros: the memory, those that are left, what was printed; and no more were made
-- than the budget allows.
pub record FollowsAccesses (printed : Access → ℕ → List ℕ) (budget : ℕ) (span : Span) (all : List Access) (end : TraceEnd) (last : TraceState) (streams : Streams) : Type 0 where
  pub memory : last.machine.guest.hart.bytes ≡ bytes_after span (take last.machine.guest.retired all) (zeros span)
  pub rest : last.left ≡ drop last.machine.guest.retired all
  pub within : last.machine.guest.retired ≤ budget
  pub output : IsPrintedSoFar printed span all last.machine.guest.retired streams.output end
  pub input : IsUntouched streams.input

-- A run of a trace from one state to its end, by the same loop as a run of a program.
pub record RunsTrace (printed : Access → ℕ → List ℕ) (budget : ℕ) (beats : List Beat) (old : TraceState) (end : TraceEnd) (new : TraceState) (streams : Streams) : Type 0 where
  pub shows : ShowsBytes (lists_of old.machine)
  pub run : Runs trace_stands (TraceBeats printed (sizing_of (store_of old.machine.memory))) beats budget old end new streams
  pub turns : CountsTurns beats old.machine run.count new.machine
  pub stays : KeepsSettings old.machine new.machine

-- a store in which a trace ended with a refusal is crowded for it
abbrev pub IsCrowdedAtEnd : pages.Store → TraceEnd → Type 0
IsCrowdedAtEnd store (Space refusal) = Crowded store refusal
IsCrowdedAtEnd store end = Unit {0}
