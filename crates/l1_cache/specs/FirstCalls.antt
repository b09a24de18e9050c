-- What one call of a first level does, by what calls of the layer below do.
use Rattle.std.specs.Prelude.{◌≡◌, ◌-◌, ◌%◌, ℕ, List, None, Result, MatchResult}
use Rattle.hier_types.specs.declared.faults.NoSpace.{NoSpace}
use Rattle.hier_types.specs.Calls.{Answer, Makes}
use Rattle.hier_types.specs.PortCalls.{IsHeld}
use Rattle.hier_types.specs.Span.{first, line_at}
use Rattle.recency.specs.Kept.{poked}
use Rattle.recency.specs.Levels.{set_of, with_set}
use Rattle.recency.specs.Steps.{Flushes}
use Rattle.l1_cache.specs.FirstLevel.{FirstLevel}
use Rattle.l1_cache.specs.Touches.{Touches, ReadsFirst, WritesFirst}

-- A line is touched, and held where that is answered.
pub record FirstTouch {B : Type 0} (did_read : B → ℕ → Result (List ℕ) NoSpace → B → Type 0) (did_write : B → ℕ → List ℕ → Answer → B → Type 0) (s : FirstLevel B) (line : ℕ) (answer : Answer) (t : FirstLevel B) : Type 0 where
  pub span : t.span ≡ s.span
  pub held : MatchResult answer (λ _. IsHeld t.held line) (λ _. t.held ≡ None)
  pub made : Makes did_read did_write s.below (Touches s.sets s.counts line answer t.sets t.counts) t.below

-- A whole line is read.
pub record FirstRead {B : Type 0} (did_read : B → ℕ → Result (List ℕ) NoSpace → B → Type 0) (did_write : B → ℕ → List ℕ → Answer → B → Type 0) (s : FirstLevel B) (line : ℕ) (answer : Result (List ℕ) NoSpace) (t : FirstLevel B) : Type 0 where
  pub span : t.span ≡ s.span
  pub held : MatchResult answer (λ _. IsHeld t.held line) (λ _. t.held ≡ None)
  pub made : Makes did_read did_write s.below (ReadsFirst s.sets s.counts line answer t.sets t.counts) t.below

-- A whole line is written.
pub record FirstWrite {B : Type 0} (did_read : B → ℕ → Result (List ℕ) NoSpace → B → Type 0) (did_write : B → ℕ → List ℕ → Answer → B → Type 0) (s : FirstLevel B) (line : ℕ) (bytes : List ℕ) (answer : Answer) (t : FirstLevel B) : Type 0 where
  pub span : t.span ≡ s.span
  pub held : MatchResult answer (λ _. IsHeld t.held line) (λ _. t.held ≡ None)
  pub made : Makes did_read did_write s.below (WritesFirst s.sets s.counts line bytes answer t.sets t.counts) t.below

-- A byte is changed in the copy of its line.
pub record FirstPoke {B : Type 0} (s : FirstLevel B) (at byte : ℕ) (t : FirstLevel B) : Type 0 where
  pub span : t.span ≡ s.span
  pub held : t.held ≡ s.held
  pub below : t.below ≡ s.below
  pub counts : t.counts ≡ s.counts
  pub sets : t.sets ≡ with_set s.sets (line_at s.span at) (poked (set_of s.sets (line_at s.span at)).lines (line_at s.span at) ((at - first s.span) % 64) byte)

-- The dirty lines are written below.
pub record FirstFlushes {B : Type 0} (did_read : B → ℕ → Result (List ℕ) NoSpace → B → Type 0) (did_write : B → ℕ → List ℕ → Answer → B → Type 0) (s : FirstLevel B) (answer : Answer) (t : FirstLevel B) : Type 0 where
  pub held : t.held ≡ s.held
  pub counts : t.counts ≡ s.counts
  pub span : t.span ≡ s.span
  pub made : Makes did_read did_write s.below (Flushes answer t.sets s.sets) t.below
