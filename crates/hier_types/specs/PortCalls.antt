-- The touches and pokes that were made on a port, one after another.
use Rattle.std.specs.Prelude.{◌≡◌, ℕ, List, [], ◌∷◌, Option, Some, None, Ok, Err}
use Rattle.hier_types.specs.declared.faults.NoSpace.{NoSpace}
use Rattle.hier_types.specs.Calls.{Answer}

-- the line is held
abbrev pub IsHeld : Option ℕ → ℕ → Type 0
IsHeld held line = held ≡ Some line

-- one call of a port, with its arguments and its answer
pub data PortCall : Type 0 where
  Touch : (line : ℕ) → (answer : Answer) → PortCall
  Poke : (at byte : ℕ) → PortCall

-- these calls lead from the one state to the other
abbrev pub PortMade : {P : Type 0} → (P → ℕ → Answer → P → Type 0) → (P → ℕ → ℕ → P → Type 0) → P → List PortCall → P → Type 0
PortMade did_touch did_poke before [] after = after ≡ before
PortMade {P} did_touch did_poke before (Touch line answer ∷ calls) after = (mid : P) × did_touch before line answer mid × PortMade did_touch did_poke mid calls after
PortMade {P} did_touch did_poke before (Poke at byte ∷ calls) after = (mid : P) × did_poke before at byte mid × PortMade did_touch did_poke mid calls after

-- pokes of these bytes at these addresses
abbrev pub poke_calls : List (ℕ × ℕ) → List PortCall
poke_calls [] = []
poke_calls (p ∷ pokes) = Poke p.0 p.1 ∷ poke_calls pokes

-- the lines are touched in order, up to a touch that is refused; where none is, the pokes follow
abbrev pub InOrder : List ℕ → List (ℕ × ℕ) → Option NoSpace → List PortCall → Type 0
InOrder [] pokes None calls = calls ≡ poke_calls pokes
InOrder [] pokes (Some refusal) calls = ⊥
InOrder (line ∷ lines) pokes stop [] = ⊥
InOrder (line ∷ lines) pokes stop (Touch l (Ok u) ∷ calls) = (l ≡ line) × InOrder lines pokes stop calls
InOrder (line ∷ lines) pokes stop (Touch l (Err refusal) ∷ calls) = (l ≡ line) × (stop ≡ Some refusal) × (calls ≡ [])
InOrder (line ∷ lines) pokes stop (Poke at byte ∷ calls) = ⊥

-- Such touches and pokes, and no other calls, lead from the one state to the other.
pub record MadeInOrder {P : Type 0} (did_touch : P → ℕ → Answer → P → Type 0) (did_poke : P → ℕ → ℕ → P → Type 0) (before : P) (lines : List ℕ) (pokes : List (ℕ × ℕ)) (stop : Option NoSpace) (after : P) : Type 0 where
  pub calls : List PortCall
  pub order : InOrder lines pokes stop calls
  pub made : PortMade did_touch did_poke before calls after
