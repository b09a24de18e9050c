-- Sets that keep only lines of their own, each once.
use Rattle.std.specs.Prelude.{◌≡◌, ◌<◌, ◌%◌, ℕ, List, [], ◌∷◌, None, length}
use Rattle.recency.specs.declared.entry.Entry.{Entry}
use Rattle.recency.specs.Kept.{Kept, entry_of}
use Rattle.recency.specs.Levels.{set_at}

-- each entry of set i of n is at home there, no two of one line
abbrev pub ArePlaced : ℕ → ℕ → List Entry → Type 0
ArePlaced n i [] = Unit {0}
ArePlaced n i (e ∷ es) = (e.line % n ≡ i) × (entry_of es e.line ≡ None) × ArePlaced n i es

-- There is a set, and each keeps only lines of its own, each once.
pub record IsPlaced (sets : List Kept) : Type 0 where
  pub some : 0 < length sets
  pub placed : (i : ℕ) → ArePlaced (length sets) i (set_at sets i).lines
