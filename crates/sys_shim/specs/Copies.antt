-- What is copied of a line into a buffer.
use Rattle.std.specs.Prelude.{◌≡◌, ℕ, ◌+◌, ◌-◌, ◌<◌, ◌==◌, if◌then◌else◌, List, length, slice_index}
use Rattle.hier_types.specs.Span.{Span, first, line_at}

-- the bytes of one line were copied to their places in a buffer, which begins at an address
pub record CopiesLine (span : Span) (bytes : List ℕ) (line at : ℕ) (old new : List ℕ) : Type 0 where
  pub len : length new ≡ length old
  pub each : (k : ℕ) → k < length old → slice_index new k ≡ (if line_at span (at + k) == line then slice_index bytes (at + k - first span) else slice_index old k)
