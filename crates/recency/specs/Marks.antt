-- What sets keep, but for the dirty marks.
use Rattle.std.specs.Prelude.{List, [], ◌∷◌}
use Rattle.recency.specs.declared.entry.Entry.{Entry}
use Rattle.recency.specs.Kept.{Kept, with_lines, cleaned}

-- the same entries in the same order, each of them clean
abbrev pub undirtied : List Entry → List Entry
undirtied [] = []
undirtied (e ∷ es) = cleaned e ∷ undirtied es

-- a set and sets with their entries clean
abbrev pub undirtied_set : Kept → Kept
undirtied_set set = with_lines set (undirtied set.lines)

abbrev pub undirtied_sets : List Kept → List Kept
undirtied_sets [] = []
undirtied_sets (set ∷ sets) = undirtied_set set ∷ undirtied_sets sets
