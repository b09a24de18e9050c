-- Sets of lines that are packed into segments.
use Rattle.std.specs.Prelude.{◌≡◌, ◌+◌, ◌*◌, ℕ, true, false, List, [], length, map}
use Rattle.hier_types.specs.declared.settings.Codec.{Codec}
use Rattle.line_codec.specs.Slots.{size_under}
use Rattle.recency.specs.declared.entry.Entry.{Entry}
use Rattle.recency.specs.declared.entry.Tag.{Tag}
use Rattle.recency.specs.Uses.{Used, has}
use Rattle.recency.specs.Kept.{Kept, with_lines}
use Rattle.recency.specs.Slots.{entries_of, IsStored}
use Rattle.l2_cache.specs.Packed.{Packed, line_at}
use Rattle.l2_cache.specs.Room.{segments_sum}

-- what is seen of a set: the codec of its lines, and those that it keeps
pub record KeptUnder : Type 0 where
  pub codec : Codec
  pub kept : Kept

-- the set with other lines
abbrev pub holding : KeptUnder → List Entry → KeptUnder
holding set lines = record { codec = set.codec; kept = with_lines set.kept lines }

-- what is seen of sets but their codec
abbrev pub kept_sets : List KeptUnder → List Kept
kept_sets sets = map (λ (set : KeptUnder). set.kept) sets

-- A slot in use has a whole line, any other none, and the segments that no line takes are free.
pub record IsPacked (ways : ℕ) (order : Used) (tags : List Tag) (packed : Packed) : Type 0 where
  pub stored : IsStored ways order tags packed.lines
  pub whole : (slot : ℕ) → has order.slots slot ≡ true → length (line_at packed.lines slot) ≡ 64
  pub bare : (slot : ℕ) → has order.slots slot ≡ false → line_at packed.lines slot ≡ []
  pub room : packed.room + segments_sum (size_under packed.codec) (entries_of tags packed.lines order.slots) ≡ 4 * ways
