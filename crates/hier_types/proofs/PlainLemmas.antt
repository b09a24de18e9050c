-- What the answers of plain lines say.
use Rattle.std.proofs.Common.{◌≡◌, ℕ, List, Some, Err, arith, refl}
use Rattle.hier_types.specs.declared.faults.NoSpace.{NoSpace}
use Rattle.hier_types.specs.Causes.{Refuses}
use Rattle.hier_types.proofs.CauseLemmas.{later_raised}
use Rattle.hier_types.specs.Plain.{Plain, PlainAnswers}

-- a refusal has its cause
pub plain_refuses : (old new : Plain) (line : ℕ) (lines : List (List ℕ)) (refusal : NoSpace) → PlainAnswers {T = Unit {0}} old line (Err refusal) lines new
    → Refuses {T = Unit {0}} old.stops new.stops (λ n. new.last ≡ Some n) (Err refusal)
plain_refuses old new line lines refusal h = rw h.2 (record { later = later_raised old.stops; rose = omega arith; justified = refl })
