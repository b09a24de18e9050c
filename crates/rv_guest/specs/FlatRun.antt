-- Runs of any state by its steps alone.
use Rattle.std.specs.Prelude.{ℕ, zero, suc, Option, Some, None}
use Rattle.std.specs.Option.{option_and_then}

-- what one step does: it leads on; it ends the run by an exit, which leaves a state too; or by a trap, which leaves it
pub data Outcome (S : Type 0) : Type 0 where
  Next : (after : S) → Outcome S
  Exits : (status : ℕ) → (after : S) → Outcome S
  Traps : (cause value : ℕ) → Outcome S

abbrev pub next_of : {S : Type 0} → Outcome S → Option S
next_of (Next s) = Some s
next_of (Exits status s) = None
next_of (Traps cause value) = None

-- the state after so many steps, none of which ends the run
unfoldable pub after_by : {S : Type 0} → (S → Outcome S) → ℕ → S → Option S
after_by step zero s = Some s
after_by step (suc n) s = option_and_then (λ t. next_of (step t)) (after_by step n s)

-- how a run ends
pub data FlatEnd : Type 0 where
  FlatExit : (status : ℕ) → FlatEnd
  FlatTrap : (cause value : ℕ) → FlatEnd
  FlatBudget : FlatEnd

-- by the outcome of a step: the end there, or the rest of the run
abbrev pub goes_on : {S : Type 0} → Outcome S → S → (S → FlatEnd × S) → FlatEnd × S
goes_on (Next t) s rest = rest t
goes_on (Exits status t) s rest = (FlatExit status, t)
goes_on (Traps cause value) s rest = (FlatTrap cause value, s)

-- the end and the last state of a run of at most so many steps
unfoldable pub run_by : {S : Type 0} → (S → Outcome S) → ℕ → S → FlatEnd × S
run_by step zero s = (FlatBudget, s)
run_by step (suc n) s = goes_on (step s) s (run_by step n)
