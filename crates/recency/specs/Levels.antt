-- Sets of lines above a layer, and what the lines are then.
use Rattle.std.specs.Prelude.{◌≡◌, ◌<◌, ◌%◌, ◌+◌, ℕ, suc, true, false, List, [], ◌∷◌, Option, Some, None, length, slice_get, slice_set, unwrap_or, is_some}
use Rattle.hier_types.specs.Lines.{AreLines}
use Rattle.hier_types.specs.Settings.{IsPowerOfTwo}
use Rattle.recency.specs.declared.entry.Entry.{Entry}
use Rattle.recency.specs.Kept.{Kept, with_lines, entry_of}

-- the set at an index; past the end it keeps no line
abbrev pub set_at : List Kept → ℕ → Kept
set_at sets i = unwrap_or (slice_get sets i) (record { ways = 0; lines = [] })

-- the set of a line
abbrev pub set_of : List Kept → ℕ → Kept
set_of sets line = set_at sets (line % length sets)

-- The sets are a power of two, and the mask has the bits of their indexes.
pub record IsMasked (sets : List Kept) (mask : ℕ) : Type 0 where
  pub size : length sets ≡ mask + 1
  pub power : IsPowerOfTwo 4096 (length sets)

-- the line's set with other lines
abbrev pub with_set : List Kept → ℕ → List Entry → List Kept
with_set sets line lines = slice_set sets (line % length sets) (with_lines (set_of sets line) lines)

-- what is kept of a line
abbrev pub kept_of : List Kept → ℕ → Option Entry
kept_of sets line = entry_of (set_of sets line).lines line

-- a copy, else the bytes below
abbrev pub bytes_or : Option Entry → List ℕ → List ℕ
bytes_or None bytes = bytes
bytes_or (Some e) bytes = e.bytes

-- the lines from number i on, by what is kept of each
abbrev pub overlay_from : (ℕ → Option Entry) → ℕ → List (List ℕ) → List (List ℕ)
overlay_from kept i [] = []
overlay_from kept i (bytes ∷ lines) = bytes_or (kept i) bytes ∷ overlay_from kept (suc i) lines

-- the lines below, each in place of its copy where one is kept
abbrev pub overlay : List (List ℕ) → List Kept → List (List ℕ)
overlay lines sets = overlay_from (kept_of sets) 0 lines

-- an entry of set i of n: of a line that is there, at home in this set, and the same below where it is clean
pub record IsGoodEntry (lines : List (List ℕ)) (n i : ℕ) (e : Entry) : Type 0 where
  pub inside : e.line < length lines
  pub home : e.line % n ≡ i
  pub full : length e.bytes ≡ 64
  pub clean : e.dirty ≡ false → slice_get lines e.line ≡ Some e.bytes

-- the entries of set i of n, no two of one line
abbrev pub IsGood : List (List ℕ) → ℕ → ℕ → List Entry → Type 0
IsGood lines n i [] = Unit {0}
IsGood lines n i (e ∷ es) = IsGoodEntry lines n i e × (entry_of es e.line ≡ None) × IsGood lines n i es

-- The sets fit the lines below.
pub record IsSound (lines : List (List ℕ)) (sets : List Kept) : Type 0 where
  pub whole : AreLines lines
  pub some : 0 < length sets
  pub ways : (i : ℕ) → i < length sets → 0 < (set_at sets i).ways
  pub good : (i : ℕ) → IsGood lines (length sets) i (set_at sets i).lines

-- the line is the most recent of its set
pub record IsFirst (sets : List Kept) (line : ℕ) : Type 0 where
  pub first : Entry
  pub here : slice_get (set_of sets line).lines 0 ≡ Some first
  pub line_is : first.line ≡ line

-- the line is the most recent of its set, with these bytes
pub record FirstHas (sets : List Kept) (line : ℕ) (bytes : List ℕ) : Type 0 where
  pub first : Entry
  pub here : slice_get (set_of sets line).lines 0 ≡ Some first
  pub line_is : first.line ≡ line
  pub has : first.bytes ≡ bytes

-- below the sets there are as many lines as before, and the same ones where a copy is kept
pub record KeepsUnder (sets : List Kept) (old new : List (List ℕ)) : Type 0 where
  pub len : length new ≡ length old
  pub kept : (line : ℕ) → is_some (kept_of sets line) ≡ true → slice_get new line ≡ slice_get old line
