-- What a call of `step` answers and leaves, by the effect of the instruction at pc.
use Rattle.std.specs.Prelude.{◌≡◌, ◌≤◌, ℕ, List, Result, Ok, Err, IfErr}
use Rattle.hier_types.specs.declared.faults.NoSpace.{NoSpace}
use Rattle.hier_types.specs.Causes.{Rose}
use Rattle.rv_core.specs.declared.regs.Regs.{Regs}
use Rattle.rv_core.specs.declared.hart.Did.{Did}
use Rattle.rv_core.specs.declared.hart.Did.TheVariants.{Retired, Call}
use Rattle.rv_core.specs.declared.hart.Ended.{Ended}
use Rattle.rv_core.specs.declared.hart.Ended.TheVariants.{Trap, Stop}
use Rattle.rv_core.specs.Effect.{Effect, Goes, Calls, Faults}
use Rattle.rv_core.specs.Hart.{Hart}

-- registers and bytes together
abbrev pub hart_of : Regs → List ℕ → Hart
hart_of regs bytes = record { pc = regs.pc; x = regs.x; bytes = bytes }

-- an instruction that retires leaves its next state; any other answer leaves the state as it was
abbrev pub Answers : Effect → Hart → Result Did Ended → Hart → Type 0
Answers effect old (Ok Retired) new = effect ≡ Goes new
Answers effect old (Ok Call) new = (effect ≡ Calls) × (new ≡ old)
Answers effect old (Err (Trap trap)) new = (effect ≡ Faults trap.cause trap.value) × (trap.pc ≡ old.pc) × (new ≡ old)
Answers effect old (Err (Stop refusal)) new = new ≡ old

-- a stop is one of a touch that was refused, and has its cause
abbrev pub IsJustified : ℕ → ℕ → (NoSpace → Type 0) → Ended → Type 0
IsJustified before now crowded (Stop refusal) = Rose before now × crowded refusal
IsJustified before now crowded (Trap trap) = Unit {0}

-- A stop comes only where the count of refusals rose, and the state as it now stands justifies it.
pub record StopsWithCause {T : Type 0} (before now : ℕ) (crowded : NoSpace → Type 0) (result : Result T Ended) : Type 0 where
  pub later : before ≤ now
  pub stop : IfErr result (IsJustified before now crowded)
