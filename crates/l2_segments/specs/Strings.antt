-- Strings of bytes under tags, in a room of segments of 8 bytes.
use Rattle.std.specs.Prelude.{◌≡◌, ◌<◌, ◌≤◌, ◌+◌, ◌-◌, ◌*◌, ◌/◌, ◌==◌, ℕ, List, [], ◌∷◌, ◌++◌, Option, Some, None, length, sum_by, if◌then◌else◌}
use Rattle.hier_types.specs.Settings.{IsWithin}

-- a string and its tag
pub record Text : Type 0 where
  pub tag : ℕ
  pub bytes : List ℕ

-- the room of so many whole lines of 64 bytes, and the strings in it, in the order in which they were put there
pub record Strings : Type 0 where
  pub ways : ℕ
  pub texts : List Text

-- the set with other strings
abbrev pub with_texts : Strings → List Text → Strings
with_texts set texts = record { ways = set.ways; texts = texts }

-- the strings, and one more behind them
abbrev pub with_one_more : List Text → ℕ → List ℕ → List Text
with_one_more texts tag bytes = texts ++ (record { tag = tag; bytes = bytes }) ∷ []

-- the segments that so many bytes take
abbrev pub segments_of : ℕ → ℕ
segments_of count = (count + 7) / 8

-- the segments that the strings take
abbrev pub segments_sum : List Text → ℕ
segments_sum texts = sum_by (λ t. segments_of (length t.bytes)) texts

-- the segments that are free
abbrev pub room_of : Strings → ℕ
room_of set = 8 * set.ways - segments_sum set.texts

-- the string under a tag, if it is used
abbrev pub string_of : List Text → ℕ → Option (List ℕ)
string_of [] tag = None
string_of (t ∷ ts) tag = if t.tag == tag then Some t.bytes else string_of ts tag

-- the others, in the same order
abbrev pub without : List Text → ℕ → List Text
without [] tag = []
without (t ∷ ts) tag = if t.tag == tag then without ts tag else t ∷ without ts tag

-- no tag stands twice
abbrev pub AreDistinct : List Text → Type 0
AreDistinct [] = Unit {0}
AreDistinct (t ∷ ts) = (string_of ts t.tag ≡ None) × AreDistinct ts

-- a string of 1 to 64 bytes, under a tag below the limit
pub record IsString (limit : ℕ) (text : Text) : Type 0 where
  pub tag : text.tag < limit
  pub some : 1 ≤ length text.bytes
  pub most : length text.bytes ≤ 64

abbrev pub AreStrings : ℕ → List Text → Type 0
AreStrings limit [] = Unit {0}
AreStrings limit (t ∷ ts) = IsString limit t × AreStrings limit ts

-- The strings stand under tags below twice the number of lines, each once, and have room.
pub record IsSound (set : Strings) : Type 0 where
  pub ways : IsWithin 1 16 set.ways
  pub strings : AreStrings (2 * set.ways) set.texts
  pub once : AreDistinct set.texts
  pub fits : segments_sum set.texts ≤ 8 * set.ways
