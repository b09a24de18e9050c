-- The room of a set: a tag for each line, and segments of 8 bytes for its size.
use Rattle.std.specs.Prelude.{◌+◌, ◌*◌, ◌/◌, ◌&&◌, ℕ, Bool, List, [], ◌∷◌, Option, None, length, if◌then◌else◌, nat_lt, nat_le}
use Rattle.recency.specs.declared.entry.Entry.{Entry}
use Rattle.recency.specs.Uses.{last_of}
use Rattle.recency.specs.Kept.{Kept, without}

-- the segments that a line takes, by its size in bytes
abbrev pub segments : (List ℕ → ℕ) → List ℕ → ℕ
segments size bytes = (size bytes + 7) / 8

-- the segments that these lines take
abbrev pub segments_sum : (List ℕ → ℕ) → List Entry → ℕ
segments_sum size [] = 0
segments_sum size (e ∷ es) = segments size e.bytes + segments_sum size es

-- Beside these lines there is room for one more: a tag is free, and as many segments as it takes. There are four
-- segments for each tag.
abbrev pub has_space : (List ℕ → ℕ) → ℕ → List ℕ → List Entry → Bool
has_space size tags bytes es = nat_lt (length es) tags && nat_le (segments size bytes + segments_sum size es) (4 * tags)

-- the entry that leaves next where a line is put in front: the least recent of the others, as long as there is no room
abbrev pub leaver : (List ℕ → ℕ) → Kept → ℕ → List ℕ → Option Entry
leaver size set line bytes = if has_space size set.ways bytes (without set.lines line) then None else last_of (without set.lines line)
