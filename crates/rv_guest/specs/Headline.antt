-- The headline: a run of the program in a file ends as the same instructions over flat memory do.
use Rattle.std.specs.Prelude.{◌≡◌, ◌<◌, ℕ, List, [], ◌++◌, take, Some}
use Rattle.std.specs.Io.KnownBytes.{Appends}
use Rattle.hier_types.specs.Causes.{Rose}
use Rattle.hier_types.specs.Span.{Span}
use Rattle.hier_types.specs.Streams.{Streams}
use Rattle.sys_shim.specs.Calls.{Read, Write}
use Rattle.rv_guest.specs.declared.ends.MachineEnd.{MachineEnd}
use Rattle.rv_guest.specs.declared.ends.MachineEnd.TheVariants.{Exit, Trap, Budget, Space, InFault, OutFault}
use Rattle.rv_guest.specs.Beside.{call_next}
use Rattle.rv_guest.specs.Flat.{flat_run, flat_step}
use Rattle.rv_guest.specs.FlatRun.{FlatEnd, FlatExit, FlatTrap, FlatBudget, after_by}
use Rattle.rv_guest.specs.Start.{code_of_file, start_of}
use Rattle.rv_guest.specs.State.{GuestState, flat_of}

-- The flat run of the file's program ends so, in the flat state that this state stands for. It wrote what was appended to
-- the output, and took what is gone of the input, where the input tells its bytes.
pub record Ends (span : Span) (budget : ℕ) (file : List ℕ) (end : FlatEnd) (last : GuestState) (streams : Streams) : Type 0 where
  pub output : List ℕ
  pub wrote : Appends streams.output.before streams.output.after output
  pub run : (input : List ℕ) → streams.input.before ≡ Some input → (left : List ℕ) × (streams.input.after ≡ Some left)
      × (flat_run (code_of_file span file) budget (start_of span file input) ≡ (end, flat_of last left output))

-- The run was cut where the budget allowed one more instruction. Its state, its output but for these further bytes, and
-- its input are those of as many flat steps as instructions retired.
pub record IsCut (span : Span) (budget : ℕ) (file : List ℕ) (further : List ℕ) (last : GuestState) (streams : Streams) : Type 0 where
  pub allowed : last.retired < budget
  pub output : List ℕ
  pub wrote : Appends streams.output.before streams.output.after (output ++ further)
  pub run : (input : List ℕ) → streams.input.before ≡ Some input → (left : List ℕ) × (streams.input.after ≡ Some left)
      × (after_by (flat_step (code_of_file span file)) last.retired (start_of span file input) ≡ Some (flat_of last left output))

-- A read stands next, and the input failed.
pub record IsCutAtRead (span : Span) (budget : ℕ) (file : List ℕ) (last : GuestState) (streams : Streams) : Type 0 where
  pub at : ℕ
  pub count : ℕ
  pub stands : call_next (code_of_file span file) last ≡ Some (Read at count)
  pub rose : Rose streams.input.faults_before streams.input.faults_now
  pub cut : IsCut span budget file [] last streams

-- A write stands next, and the output failed, which took a front of the write's bytes.
pub record IsCutAtWrite (span : Span) (budget : ℕ) (file : List ℕ) (last : GuestState) (streams : Streams) : Type 0 where
  pub bytes : List ℕ
  pub taken : ℕ
  pub stands : call_next (code_of_file span file) last ≡ Some (Write bytes)
  pub rose : Rose streams.output.faults_before streams.output.faults_now
  pub cut : IsCut span budget file (take taken bytes) last streams

-- each end is that of the flat run, or a cut: by a page that found no room, by a read or by a write
abbrev pub EndsAsFlat : Span → ℕ → List ℕ → MachineEnd → GuestState → Streams → Type 0
EndsAsFlat span budget file (Exit status) last streams = Ends span budget file (FlatExit status) last streams
EndsAsFlat span budget file (Trap trap) last streams = Ends span budget file (FlatTrap trap.cause trap.value) last streams × (trap.pc ≡ last.hart.pc)
EndsAsFlat span budget file Budget last streams = Ends span budget file FlatBudget last streams × (last.retired ≡ budget)
EndsAsFlat span budget file (Space refusal) last streams = IsCut span budget file [] last streams
EndsAsFlat span budget file InFault last streams = IsCutAtRead span budget file last streams
EndsAsFlat span budget file OutFault last streams = IsCutAtWrite span budget file last streams
