-- Flat memory as contracts see it.
use Rattle.std.specs.Prelude.{◌≡◌, ℕ, ◌-◌, ◌*◌, ◌≤◌, List, length, slice_set, Option, Some, Ok}
use Rattle.hier_types.specs.Calls.{Answer}
use Rattle.hier_types.specs.Span.{Span, first}

-- the span, its bytes, and the line that was touched last
pub record Bytes : Type 0 where
  pub span : Span
  pub bytes : List ℕ
  pub held : Option ℕ

-- there is a byte for each address of the span, which has at most 65,536 pages
pub record IsWhole (span : Span) (bytes : List ℕ) : Type 0 where
  pub few : span.pages ≤ 65536
  pub sized : length bytes ≡ 4096 * span.pages

-- a touch holds the line, and is never refused
abbrev pub FlatTouch : Bytes → ℕ → Answer → Bytes → Type 0
FlatTouch old line answer new = (answer ≡ Ok tt) × (new ≡ record old { held = Some line })

-- a poke changes the byte at the address
abbrev pub FlatPoke : Bytes → ℕ → ℕ → Bytes → Type 0
FlatPoke old at byte new = new ≡ record old { bytes = slice_set old.bytes (at - first old.span) byte }
