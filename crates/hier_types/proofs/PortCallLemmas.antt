-- How the touches and pokes of a port are put together.
use Rattle.std.proofs.Common.{ℕ, List, [], ◌∷◌, Option, Some, None, Ok, Err, refl}
use Rattle.hier_types.specs.declared.faults.NoSpace.{NoSpace}
use Rattle.hier_types.specs.Calls.{Answer}
use Rattle.hier_types.specs.PortCalls.{Touch, PortMade, poke_calls, MadeInOrder}

-- no line, and pokes
pub made_pokes : {P : Type 0} (did_touch : P → ℕ → Answer → P → Type 0) (did_poke : P → ℕ → ℕ → P → Type 0) (before : P) (pokes : List (ℕ × ℕ)) (after : P)
    → PortMade did_touch did_poke before (poke_calls pokes) after → MadeInOrder did_touch did_poke before [] pokes None after
made_pokes did_touch did_poke before pokes after made = record { calls = poke_calls pokes; order = refl; made = made }

-- a touch that is answered, and the rest
pub made_touch : {P : Type 0} (did_touch : P → ℕ → Answer → P → Type 0) (did_poke : P → ℕ → ℕ → P → Type 0) (before mid : P) (line : ℕ) (lines : List ℕ) (pokes : List (ℕ × ℕ)) (stop : Option NoSpace) (after : P)
    → did_touch before line (Ok tt) mid → MadeInOrder did_touch did_poke mid lines pokes stop after → MadeInOrder did_touch did_poke before (line ∷ lines) pokes stop after
made_touch did_touch did_poke before mid line lines pokes stop after did rest =
    record { calls = Touch line (Ok tt) ∷ rest.calls; order = (refl, rest.order); made = (mid, did, rest.made) }

-- a touch that is refused, and nothing more
pub made_refused : {P : Type 0} (did_touch : P → ℕ → Answer → P → Type 0) (did_poke : P → ℕ → ℕ → P → Type 0) (before : P) (line : ℕ) (lines : List ℕ) (pokes : List (ℕ × ℕ)) (refusal : NoSpace) (after : P)
    → did_touch before line (Err refusal) after → MadeInOrder did_touch did_poke before (line ∷ lines) pokes (Some refusal) after
made_refused did_touch did_poke before line lines pokes refusal after did =
    record { calls = Touch line (Err refusal) ∷ []; order = (refl, refl, refl); made = (after, did, refl) }

-- the three ways to put a list of touches and pokes together
pub ruleset made_in_order = (made_pokes, made_touch, made_refused)
