-- What one instruction does, by one step of the flat machine.
use Rattle.std.specs.Prelude.{◌≡◌, ◌+◌, ℕ, List, ◌++◌, Option, Some, None, IfSome}
use Rattle.std.specs.Io.KnownBytes.{Appends}
use Rattle.hier_types.specs.declared.faults.NoSpace.{NoSpace}
use Rattle.hier_types.specs.Causes.{Rose}
use Rattle.hier_types.specs.Streams.{AreUntouched, FailsToGive, FailsToTake, IsUntouched, Streams}
use Rattle.rv_core.specs.declared.traps.Trap as trapped
use Rattle.sys_shim.specs.Calls.{Read, Write}
use Rattle.rv_guest.specs.declared.ends.MachineEnd.{MachineEnd}
use Rattle.rv_guest.specs.declared.ends.MachineEnd.TheVariants.{Exit, Trap, Budget, Space, InFault, OutFault}
use Rattle.rv_guest.specs.Beside.{Beside}
use Rattle.rv_guest.specs.FlatRun.{Next, Exits, Traps}

-- One step was made over some input: that which the stream tells, where it tells one. It left this of the input, and
-- wrote these bytes, whatever the output before.
pub record MakesStep {G F : Type 0} (m : Beside G F) (old new : G) (streams : Streams) : Type 0 where
  pub retired : m.retired new ≡ m.retired old + 1
  pub before : List ℕ
  pub left : List ℕ
  pub told : IfSome streams.input.before (λ bytes. (before ≡ bytes) × (streams.input.after ≡ Some left))
  pub bytes : List ℕ
  pub wrote : Appends streams.output.before streams.output.after bytes
  pub step : (output : List ℕ) → m.step (m.told old before output) ≡ Next (m.told new left (output ++ bytes))

-- The step ends the run by an exit, over any input and output.
pub record MakesExit {G F : Type 0} (m : Beside G F) (old : G) (status : ℕ) (new : G) (streams : Streams) : Type 0 where
  pub quiet : AreUntouched streams
  pub retired : m.retired new ≡ m.retired old + 1
  pub step : (input output : List ℕ) → m.step (m.told old input output) ≡ Exits status (m.told new input output)

-- It ends the run by a trap, which leaves the state.
pub record MakesTrap {G F : Type 0} (m : Beside G F) (old : G) (trap : trapped.Trap) (new : G) (streams : Streams) : Type 0 where
  pub quiet : AreUntouched streams
  pub same : new ≡ old
  pub step : (input output : List ℕ) → m.step (m.told old input output) ≡ Traps trap.cause trap.value
  pub pc_is : trap.pc ≡ m.pc old

-- The input failed at the read that stands next, and gave nothing.
pub record FailsAtRead {G F : Type 0} (m : Beside G F) (old new : G) (streams : Streams) : Type 0 where
  pub same : new ≡ old
  pub at : ℕ
  pub count : ℕ
  pub call : m.call old ≡ Some (Read at count)
  pub fails : FailsToGive streams.input
  pub output : IsUntouched streams.output

-- The output failed at the write that stands next, and took a front of its bytes.
pub record FailsAtWrite {G F : Type 0} (m : Beside G F) (old new : G) (streams : Streams) : Type 0 where
  pub same : new ≡ old
  pub bytes : List ℕ
  pub call : m.call old ≡ Some (Write bytes)
  pub fails : FailsToTake streams.output bytes
  pub input : IsUntouched streams.input

-- an instruction is one step, or ends the run as the step does; a fault and a refused touch leave the guest as it was
abbrev pub DoesBeat : {G F : Type 0} → Beside G F → G → Option MachineEnd → G → Streams → Type 0
DoesBeat m old None new streams = MakesStep m old new streams
DoesBeat m old (Some (Exit status)) new streams = MakesExit m old status new streams
DoesBeat m old (Some (Trap trap)) new streams = MakesTrap m old trap new streams
DoesBeat m old (Some InFault) new streams = FailsAtRead m old new streams
DoesBeat m old (Some OutFault) new streams = FailsAtWrite m old new streams
DoesBeat m old (Some (Space refusal)) new streams = (new ≡ old) × AreUntouched streams
DoesBeat m old (Some Budget) new streams = ⊥

-- a refusal is that of a touch, and has its cause
abbrev pub IsJustified : ℕ → ℕ → (NoSpace → Type 0) → Option MachineEnd → Type 0
IsJustified before now crowded (Some (Space refusal)) = Rose before now × crowded refusal
IsJustified before now crowded None = Unit {0}
IsJustified before now crowded (Some (Exit status)) = Unit {0}
IsJustified before now crowded (Some (Trap trap)) = Unit {0}
IsJustified before now crowded (Some Budget) = Unit {0}
IsJustified before now crowded (Some InFault) = Unit {0}
IsJustified before now crowded (Some OutFault) = Unit {0}
