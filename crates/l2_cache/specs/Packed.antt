-- Lines in slots that are packed into the segments of a set.
use Rattle.std.specs.Prelude.{ℕ, List, [], slice_index_or}
use Rattle.hier_types.specs.declared.settings.Codec.{Codec}

-- what is seen of packed lines: their codec, the bytes of each slot, of which an empty one has none, and the segments that
-- are free
pub record Packed : Type 0 where
  pub codec : Codec
  pub lines : List (List ℕ)
  pub room : ℕ

-- the bytes of a slot
abbrev pub line_at : List (List ℕ) → ℕ → List ℕ
line_at lines slot = slice_index_or lines slot []
