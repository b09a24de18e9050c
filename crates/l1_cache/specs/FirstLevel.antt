-- A first level above a layer.
use Rattle.std.specs.Prelude.{◌≡◌, ◌*◌, ℕ, List, Option, length}
use Rattle.hier_types.specs.declared.counts.L1Counts.{L1Counts}
use Rattle.hier_types.specs.PortCalls.{IsHeld}
use Rattle.hier_types.specs.Span.{Span}
use Rattle.recency.specs.Kept.{Kept}
use Rattle.recency.specs.Levels.{overlay, IsSound, IsFirst}

-- what is seen of a first level
pub record FirstLevel (B : Type 0) : Type 0 where
  pub below : B
  pub sets : List Kept
  pub held : Option ℕ
  pub counts : L1Counts
  pub span : Span

-- its lines: the copies that it keeps, and else the lines below
abbrev pub lines_of_first : {B : Type 0} → (B → List (List ℕ)) → FirstLevel B → List (List ℕ)
lines_of_first content level = overlay (content level.below) level.sets

-- The sets fit the lines below, the held line is the most recent of its set, and the span has all lines.
pub record IsFirstLevel (lines : List (List ℕ)) (sets : List Kept) (held : Option ℕ) (span : Span) : Type 0 where
  pub sound : IsSound lines sets
  pub first : (line : ℕ) → IsHeld held line → IsFirst sets line
  pub size : length lines ≡ 64 * span.pages
