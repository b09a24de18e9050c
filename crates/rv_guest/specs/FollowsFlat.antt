-- What a run does, by the flat run from the same state.
use Rattle.std.specs.Prelude.{◌≡◌, ◌<◌, ◌≤◌, ◌-◌, ℕ, List, [], ◌++◌, take, Option, Some, None}
use Rattle.std.specs.Io.KnownBytes.{Appends}
use Rattle.hier_types.specs.declared.beats.Beat.{Beat}
use Rattle.hier_types.specs.declared.beats.Beat.TheVariants.{Hart, Mover, Cleaner}
use Rattle.hier_types.specs.Causes.{Rose}
use Rattle.hier_types.specs.Streams.{AreUntouched, Stream, Streams}
use Rattle.sys_shim.specs.Calls.{Read, Write}
use Rattle.rv_guest.specs.declared.ends.MachineEnd.{MachineEnd}
use Rattle.rv_guest.specs.declared.ends.MachineEnd.TheVariants.{Exit, Trap, Budget, Space, InFault, OutFault}
use Rattle.rv_guest.specs.Beside.{Beside}
use Rattle.rv_guest.specs.FlatRun.{FlatEnd, FlatExit, FlatTrap, FlatBudget, after_by, run_by}
use Rattle.rv_guest.specs.Steps.{DoesBeat}

-- where the input tells its bytes, this holds of those that were left before and of those that are left after
abbrev pub OfInput : Stream → (List ℕ → List ℕ → Type 0) → Type 0
OfInput input Holds = (before : List ℕ) → input.before ≡ Some before → (left : List ℕ) × (input.after ≡ Some left) × Holds before left

-- The flat run with what is left of the budget ends so, in the state that this one stands for, and wrote these bytes.
pub record EndsBy {G F : Type 0} (m : Beside G F) (budget : ℕ) (old : G) (end : FlatEnd) (new : G) (streams : Streams) : Type 0 where
  pub bytes : List ℕ
  pub wrote : Appends streams.output.before streams.output.after bytes
  pub flat : OfInput streams.input (λ before left. (output : List ℕ) → run_by m.step (budget - m.retired old) (m.told old before output) ≡ (end, m.told new left (output ++ bytes)))

-- The state is that of as many flat steps as instructions retired, and these wrote the bytes; these further ones went out
-- after them. The budget allowed one more.
pub record StandsAfter {G F : Type 0} (m : Beside G F) (budget : ℕ) (old new : G) (further : List ℕ) (streams : Streams) : Type 0 where
  pub allowed : m.retired new < budget
  pub bytes : List ℕ
  pub wrote : Appends streams.output.before streams.output.after (bytes ++ further)
  pub flat : OfInput streams.input (λ before left. (output : List ℕ) → after_by m.step (m.retired new - m.retired old) (m.told old before output) ≡ Some (m.told new left (output ++ bytes)))

-- The input failed where a read stands next, and gave nothing to it.
pub record CutAtRead {G F : Type 0} (m : Beside G F) (budget : ℕ) (old new : G) (streams : Streams) : Type 0 where
  pub at : ℕ
  pub count : ℕ
  pub call : m.call new ≡ Some (Read at count)
  pub after : StandsAfter m budget old new [] streams
  pub rose : Rose streams.input.faults_before streams.input.faults_now

-- The output failed where a write stands next, and took a front of that write's bytes.
pub record CutAtWrite {G F : Type 0} (m : Beside G F) (budget : ℕ) (old new : G) (streams : Streams) : Type 0 where
  pub bytes : List ℕ
  pub call : m.call new ≡ Some (Write bytes)
  pub taken : ℕ
  pub after : StandsAfter m budget old new (take taken bytes) streams
  pub rose : Rose streams.output.faults_before streams.output.faults_now

-- each end, as the flat run has it; a fault or a refusal cuts that run short
abbrev pub EndsWithFlat : {G F : Type 0} → Beside G F → ℕ → G → MachineEnd → G → Streams → Type 0
EndsWithFlat m budget old (Exit status) new streams = EndsBy m budget old (FlatExit status) new streams
EndsWithFlat m budget old (Trap trap) new streams = EndsBy m budget old (FlatTrap trap.cause trap.value) new streams × (trap.pc ≡ m.pc new)
EndsWithFlat m budget old Budget new streams = EndsBy m budget old FlatBudget new streams × (m.retired new ≡ budget)
EndsWithFlat m budget old InFault new streams = CutAtRead m budget old new streams
EndsWithFlat m budget old OutFault new streams = CutAtWrite m budget old new streams
EndsWithFlat m budget old (Space refusal) new streams = StandsAfter m budget old new [] streams

-- A run follows the flat run. No more instructions retired than the budget allows.
pub record FollowsFlat {G F : Type 0} (m : Beside G F) (budget : ℕ) (old : G) (end : MachineEnd) (new : G) (streams : Streams) : Type 0 where
  pub ends : EndsWithFlat m budget old end new streams
  pub within : m.retired new ≤ budget

-- A beat that is not the hart's ends nothing, and leaves the guest and the streams.
pub record Idles {G : Type 0} (old : G) (result : Option MachineEnd) (new : G) (streams : Streams) : Type 0 where
  pub none : result ≡ None
  pub same : new ≡ old
  pub quiet : AreUntouched streams

-- what a beat does to the guest alone
abbrev pub DoesGuest : {G F : Type 0} → Beside G F → Beat → G → Option MachineEnd → G → Streams → Type 0
DoesGuest m Hart old result new streams = DoesBeat m old result new streams
DoesGuest m Mover old result new streams = Idles old result new streams
DoesGuest m Cleaner old result new streams = Idles old result new streams
