-- Stops since an earlier moment.
use Rattle.std.proofs.Common.{ℕ, ◌≤◌, Result, Ok, Err, arith}
use Rattle.hier_types.specs.declared.faults.NoSpace.{NoSpace}
use Rattle.hier_types.proofs.CauseLemmas.{rose_since}
use Rattle.rv_core.specs.declared.hart.Ended.{Ended}
use Rattle.rv_core.specs.declared.hart.Ended.TheVariants.{Trap, Stop}
use Rattle.rv_core.specs.Answers.{StopsWithCause}

-- a stop with its cause since a moment has it since an earlier one
pub stops_later : {T : Type 0} (old mid now : ℕ) (crowded : NoSpace → Type 0) (result : Result T Ended) → old ≤ mid → StopsWithCause mid now crowded result → StopsWithCause old now crowded result
stops_later old mid now crowded (Ok t) le h = record { later = omega (arith, h.later); stop = tt }
stops_later old mid now crowded (Err (Stop refusal)) le h = record { later = omega (arith, h.later); stop = (rose_since old mid now le h.stop.0, h.stop.1) }
stops_later old mid now crowded (Err (Trap trap)) le h = record { later = omega (arith, h.later); stop = tt }
