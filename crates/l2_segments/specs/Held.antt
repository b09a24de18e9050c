-- Where strings stand.
use Rattle.std.specs.Prelude.{◌≡◌, ◌<◌, ◌≤◌, ◌+◌, ◌*◌, ℕ, List, [], ◌∷◌, length, map, sum_by, slice_index_or}
use Rattle.hier_types.specs.Settings.{IsWithin}
use Rattle.l2_segments.specs.declared.held.Held.{Held}
use Rattle.byte_parts.specs.Parts.{part}
use Rattle.l2_segments.specs.Strings.{Text, segments_of, AreDistinct, AreStrings}

-- the string that stands there
abbrev pub text_at : List ℕ → Held → Text
text_at store held = record { tag = held.tag; bytes = part (8 * held.start) held.len store }

-- the strings that stand there
abbrev pub texts_of : List ℕ → List Held → List Text
texts_of store held = map (text_at store) held

abbrev pub held_at : List Held → ℕ → Held
held_at held index = slice_index_or held index (record { tag = 0; start = 0; len = 0 })

-- the segments that they take
abbrev pub segments_in : List Held → ℕ
segments_in held = sum_by (λ h. segments_of h.len) held

-- They stand from a segment on, one behind the other, within so many bytes.
abbrev pub IsLaid : ℕ → ℕ → List Held → Type 0
IsLaid from size [] = 8 * from ≤ size
IsLaid from size (h ∷ hs) = (from ≤ h.start) × IsLaid (h.start + segments_of h.len) size hs

-- the one at the index has the tag
pub record HasTag (held : List Held) (tag index : ℕ) : Type 0 where
  pub inside : index < length held
  pub tagged : (held_at held index).tag ≡ tag

-- The strings stand in the bytes of so many lines, each tag once.
pub record IsStored (ways : ℕ) (store : List ℕ) (held : List Held) : Type 0 where
  pub within : IsWithin 1 16 ways
  pub size : length store ≡ 64 * ways
  pub laid : IsLaid 0 (length store) held
  pub strings : AreStrings (2 * ways) (texts_of store held)
  pub once : AreDistinct (texts_of store held)
