-- What a call of the guest does, by what it asks for.
use Rattle.std.specs.Prelude.{◌≡◌, ℕ, List, length, Option, Some, None}
use Rattle.std.specs.Io.KnownBytes.{Appends}
use Rattle.hier_types.specs.declared.faults.NoSpace.{NoSpace}
use Rattle.hier_types.specs.Causes.{Rose}
use Rattle.hier_types.specs.Span.{Span}
use Rattle.hier_types.specs.Streams.{Streams, IsUntouched, AreUntouched, Gives, FailsToGive, FailsToTake}
use Rattle.rv_core.specs.Hart.{Hart}
use Rattle.sys_shim.specs.declared.brk.Brk.{Brk}
use Rattle.sys_shim.specs.declared.calls.Called.{Called}
use Rattle.sys_shim.specs.declared.calls.Called.TheVariants as called
use Rattle.sys_shim.specs.Calls.{Request, Exit, Answer, Read, Write, SetBreak, answered, filled}

-- the guest's own: its registers, its memory and its break
pub record Task : Type 0 where
  pub hart : Hart
  pub brk : Brk

abbrev pub task : Hart → Brk → Task
task hart brk = record { hart = hart; brk = brk }

-- the guest after a call was answered
abbrev pub answered_task : Task → ℕ → Task
answered_task g value = record { hart = answered g.hart value; brk = g.brk }

-- a stop is one of a touch that was refused, and has its cause
abbrev pub StopIsJustified : ℕ → ℕ → (NoSpace → Type 0) → Called → Type 0
StopIsJustified before now crowded (called.Stop refusal) = Rose before now × crowded refusal
StopIsJustified before now crowded called.Done = Unit {0}
StopIsJustified before now crowded (called.Exit status) = Unit {0}
StopIsJustified before now crowded called.InFault = Unit {0}
StopIsJustified before now crowded called.OutFault = Unit {0}

-- the refusal, if that is the answer
abbrev pub stop_of_call : Called → Option NoSpace
stop_of_call (called.Stop refusal) = Some refusal
stop_of_call called.Done = None
stop_of_call (called.Exit status) = None
stop_of_call called.InFault = None
stop_of_call called.OutFault = None

-- The input gave bytes, which stand in the memory now, and their number is the result.
pub record ReadsInput (span : Span) (at count : ℕ) (old new : Task) (streams : Streams) : Type 0 where
  pub got : List ℕ
  pub gives : Gives streams.input count got
  pub new_is : new ≡ record { hart = answered (filled span old.hart at got) (length got); brk = old.brk }
  pub output : IsUntouched streams.output

-- the answer of a call, and what it leaves: an answered call goes on, any other leaves registers, bytes and break
abbrev pub DoesCall : Span → Request → Task → Called → Task → Streams → Type 0
DoesCall span (Exit status) old (called.Exit given) new streams = (given ≡ status) × (new ≡ old) × AreUntouched streams
DoesCall span (Answer value) old called.Done new streams = (new ≡ answered_task old value) × AreUntouched streams
DoesCall span (Read at count) old called.Done new streams = ReadsInput span at count old new streams
DoesCall span (Read at count) old called.InFault new streams = (new ≡ old) × FailsToGive streams.input × IsUntouched streams.output
DoesCall span (Write bytes) old called.Done new streams = (new ≡ answered_task old (length bytes)) × Appends streams.output.before streams.output.after bytes × IsUntouched streams.input
DoesCall span (Write bytes) old called.OutFault new streams = (new ≡ old) × FailsToTake streams.output bytes × IsUntouched streams.input
DoesCall span (SetBreak top) old called.Done new streams = (new ≡ record { hart = answered old.hart top; brk = record { low = old.brk.low; top = top; high = old.brk.high } }) × AreUntouched streams
DoesCall span request old (called.Stop refusal) new streams = (new ≡ old) × AreUntouched streams
DoesCall span request old answer new streams = ⊥
