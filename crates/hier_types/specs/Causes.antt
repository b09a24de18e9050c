-- When a call may answer other than Ok: only where a count rose that never falls.
use Rattle.std.specs.Prelude.{ℕ, zero, suc, ◌+◌, ◌-◌, ◌^◌, ◌≤◌, nat_lt, if◌then◌else◌, Option, Some, None, Result, Ok, Err, OnErr, IfErr}
use Rattle.hier_types.specs.declared.faults.NoSpace.{NoSpace}

-- a count after one more; it stands still at the end of its 64 bits
abbrev pub raised : ℕ → ℕ
raised count = if nat_lt count (2 ^ 64 - 1) then count + 1 else count

-- a count after so many more
abbrev pub raised_by : ℕ → ℕ → ℕ
raised_by count zero = count
raised_by count (suc more) = raised (raised_by count more)

-- a count has risen, or stands at its end
abbrev pub Rose : ℕ → ℕ → Type 0
Rose before now = raised before ≤ now

-- The call fails only where the count of faults rose in it.
pub record HasCause {T E : Type 0} (before now : ℕ) (result : Result T E) : Type 0 where
  pub later : before ≤ now
  pub rose : OnErr result (Rose before now)

-- the refusal, if that is the answer
abbrev pub refusal_of : {T : Type 0} → Result T NoSpace → Option NoSpace
refusal_of (Ok t) = None
refusal_of (Err refusal) = Some refusal

-- The call is refused only where the count of refusals rose in it, and the state as it now stands justifies the answer.
pub record Refuses {T : Type 0} (before now : ℕ) (crowded : NoSpace → Type 0) (result : Result T NoSpace) : Type 0 where
  pub later : before ≤ now
  pub rose : OnErr result (Rose before now)
  pub justified : IfErr result crowded
