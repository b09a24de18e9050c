-- The lines that a set keeps, most recent first.
use Rattle.std.specs.Prelude.{◌==◌, ℕ, Bool, true, false, List, [], ◌∷◌, Option, Some, None, length, slice_set, nat_lt, if◌then◌else◌}
use Rattle.recency.specs.declared.entry.Entry.{Entry}
use Rattle.recency.specs.Uses.{last_of, but_last}

-- what is seen of a set: how many lines it may keep, and those that it keeps
pub record Kept : Type 0 where
  pub ways : ℕ
  pub lines : List Entry

-- the set with other lines
abbrev pub with_lines : Kept → List Entry → Kept
with_lines set lines = record { ways = set.ways; lines = lines }

-- a line as it was read from below
abbrev pub clean_entry : ℕ → List ℕ → Entry
clean_entry line bytes = record { line = line; bytes = bytes; dirty = false }

-- a line that was changed since
abbrev pub dirty_entry : ℕ → List ℕ → Entry
dirty_entry line bytes = record { line = line; bytes = bytes; dirty = true }

-- what is kept of a line
abbrev pub entry_of : List Entry → ℕ → Option Entry
entry_of [] line = None
entry_of (e ∷ es) line = if e.line == line then Some e else entry_of es line

-- the others, in the same order
abbrev pub without : List Entry → ℕ → List Entry
without [] line = []
without (e ∷ es) line = if e.line == line then es else e ∷ without es line

-- a line that is kept becomes the most recent
abbrev pub touched_by : Option Entry → List Entry → ℕ → List Entry
touched_by None es line = es
touched_by (Some e) es line = e ∷ without es line

abbrev pub touched : List Entry → ℕ → List Entry
touched es line = touched_by (entry_of es line) es line

-- the set is not full
abbrev pub has_room : Kept → Bool
has_room set = nat_lt (length set.lines) set.ways

-- an entry in front, in place of the least recent where there is no room
abbrev pub put_in : Kept → Entry → List Entry
put_in set e = e ∷ (if has_room set then set.lines else but_last set.lines)

-- an entry, if it is dirty
abbrev pub if_dirty : Option Entry → Option Entry
if_dirty None = None
if_dirty (Some e) = if e.dirty then Some e else None

-- the entry that is written below before another is put in: the least recent of a full set, if it is dirty
abbrev pub dirty_victim : Kept → Option Entry
dirty_victim set = if has_room set then None else if_dirty (last_of set.lines)

-- the entry, with the bytes that stand below
abbrev pub cleaned : Entry → Entry
cleaned e = clean_entry e.line e.bytes

-- the least recent is made clean
abbrev pub clean_last : List Entry → List Entry
clean_last [] = []
clean_last (e ∷ []) = cleaned e ∷ []
clean_last (e ∷ f ∷ es) = e ∷ clean_last (f ∷ es)

-- the copy of a line has other bytes, and is dirty from then on; where there is none, nothing changes
abbrev pub overwritten : List Entry → ℕ → List ℕ → List Entry
overwritten [] line bytes = []
overwritten (e ∷ es) line bytes = if e.line == line then dirty_entry line bytes ∷ es else e ∷ overwritten es line bytes

-- the copy of a line has other bytes, and its mark stays; where there is none, nothing changes
abbrev pub renewed : List Entry → ℕ → List ℕ → List Entry
renewed [] line bytes = []
renewed (e ∷ es) line bytes = if e.line == line then record e { bytes = bytes } ∷ es else e ∷ renewed es line bytes

-- the copy of a line has another byte, and is dirty from then on; where there is none, nothing changes
abbrev pub poked : List Entry → ℕ → ℕ → ℕ → List Entry
poked [] line offset byte = []
poked (e ∷ es) line offset byte = if e.line == line then dirty_entry line (slice_set e.bytes offset byte) ∷ es else e ∷ poked es line offset byte

-- the least recent dirty entry, or else the one given
abbrev pub last_dirty_from : Option Entry → List Entry → Option Entry
last_dirty_from found [] = found
last_dirty_from found (e ∷ es) = last_dirty_from (if e.dirty then Some e else found) es

abbrev pub last_dirty : List Entry → Option Entry
last_dirty es = last_dirty_from None es

-- the line is made clean
abbrev pub clean_in : List Entry → ℕ → List Entry
clean_in [] line = []
clean_in (e ∷ es) line = (if e.line == line then cleaned e else e) ∷ clean_in es line
