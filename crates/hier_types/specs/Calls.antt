-- The reads and writes that were made on a layer, one after another.
use Rattle.std.specs.Prelude.{◌≡◌, ℕ, List, [], ◌∷◌, Result, Ok, Err}
use Rattle.hier_types.specs.declared.faults.NoSpace.{NoSpace}

-- the answer of a call that gives nothing
abbrev pub Answer : Type 0
Answer = Result (Unit {0}) NoSpace

-- what a read answered, with the bytes that it gave
abbrev pub read_answer : Answer → List ℕ → Result (List ℕ) NoSpace
read_answer (Ok u) bytes = Ok bytes
read_answer (Err refusal) bytes = Err refusal

-- one call of a layer, with its arguments and its answer
pub data Call : Type 0 where
  Read : (line : ℕ) → (answer : Result (List ℕ) NoSpace) → Call
  Write : (line : ℕ) → (bytes : List ℕ) → (answer : Answer) → Call

-- these calls lead from the one state to the other
abbrev pub Made : {B : Type 0} → (B → ℕ → Result (List ℕ) NoSpace → B → Type 0) → (B → ℕ → List ℕ → Answer → B → Type 0) → B → List Call → B → Type 0
Made did_read did_write before [] after = after ≡ before
Made {B} did_read did_write before (Read line answer ∷ calls) after = (mid : B) × did_read before line answer mid × Made did_read did_write mid calls after
Made {B} did_read did_write before (Write line bytes answer ∷ calls) after = (mid : B) × did_write before line bytes answer mid × Made did_read did_write mid calls after

-- Calls were made on the layer, these and no others, and this holds of them.
pub record Makes {B : Type 0} (did_read : B → ℕ → Result (List ℕ) NoSpace → B → Type 0) (did_write : B → ℕ → List ℕ → Answer → B → Type 0) (before : B) (Gives : List Call → Type 0) (after : B) : Type 0 where
  pub calls : List Call
  pub made : Made did_read did_write before calls after
  pub gives : Gives calls
