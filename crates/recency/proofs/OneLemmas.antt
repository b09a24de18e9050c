-- Calls whose answer, and the state that they leave, are determined.
use Rattle.std.proofs.Common.{◌≡◌, ℕ, List, [], ◌∷◌, Result, sym, ◌∙◌, subst}
use Rattle.hier_types.specs.declared.faults.NoSpace.{NoSpace}
use Rattle.hier_types.specs.Calls.{Answer, Call, Read, Write, Made}

-- every call has one answer, and leaves one state
pub record IsOne {B : Type 0} (did_read : B → ℕ → Result (List ℕ) NoSpace → B → Type 0) (did_write : B → ℕ → List ℕ → Answer → B → Type 0) : Type 0 where
  pub reads : (s : B) (line : ℕ) (a c : Result (List ℕ) NoSpace) (t u : B) → did_read s line a t → did_read s line c u → (a ≡ c) × (t ≡ u)
  pub writes : (s : B) (line : ℕ) (bytes : List ℕ) (a c : Answer) (t u : B) → did_write s line bytes a t → did_write s line bytes c u → (a ≡ c) × (t ≡ u)

-- then one list of calls leads to one state
pub Made-one : {B : Type 0} (did_read : B → ℕ → Result (List ℕ) NoSpace → B → Type 0) (did_write : B → ℕ → List ℕ → Answer → B → Type 0) (one : IsOne did_read did_write) (calls : List Call) (s t u : B)
    → Made did_read did_write s calls t → Made did_read did_write s calls u → t ≡ u
Made-one did_read did_write one [] s t u made other = made ∙ sym other
Made-one {B} did_read did_write one (Read line a ∷ calls) s t u made other =
    let same : made.0 ≡ other.0 = (one.reads s line a a made.0 other.0 made.1 other.1).1 in
    Made-one did_read did_write one calls other.0 t u (subst (λ (z : B). Made did_read did_write z calls t) same made.2) other.2
Made-one {B} did_read did_write one (Write line bytes a ∷ calls) s t u made other =
    let same : made.0 ≡ other.0 = (one.writes s line bytes a a made.0 other.0 made.1 other.1).1 in
    Made-one did_read did_write one calls other.0 t u (subst (λ (z : B). Made did_read did_write z calls t) same made.2) other.2
