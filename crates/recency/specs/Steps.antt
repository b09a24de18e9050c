-- What a level does to its sets, with the calls that it makes below.
use Rattle.std.specs.Prelude.{◌≡◌, ℕ, List, [], ◌∷◌, Option, Some, None, Ok, Err}
use Rattle.hier_types.specs.Calls.{Answer, Call, Read, Write}
use Rattle.recency.specs.declared.entry.Entry.{Entry}
use Rattle.recency.specs.Kept.{Kept, last_dirty, clean_in}
use Rattle.recency.specs.Levels.{set_of, with_set}

-- A step of the line's set, which leaves the others.
pub record Changes (Step : Kept → ℕ → List Call → Answer → List Entry → Type 0) (sets : List Kept) (line : ℕ) (result : Answer) (new : List Kept) (calls : List Call) : Type 0 where
  pub after : List Entry
  pub step : Step (set_of sets line) line calls result after
  pub only : new ≡ with_set sets line after

-- the entry that is found already, or else the first one of the sets, the least recent dirty one of each
abbrev pub next_dirty_or : Option Entry → List Kept → Option Entry
next_dirty_or None [] = None
next_dirty_or None (set ∷ sets) = next_dirty_or (last_dirty set.lines) sets
next_dirty_or (Some e) sets = Some e

-- the entry that a flush writes next: by rising sets, the least recent dirty one
abbrev pub next_dirty : List Kept → Option Entry
next_dirty sets = next_dirty_or None sets

-- the sets after this line was made clean
abbrev pub with_clean : List Kept → ℕ → List Kept
with_clean sets line = with_set sets line (clean_in (set_of sets line).lines line)

-- The dirty lines are written below and made clean, one after another, up to one that is refused.
abbrev pub Flushes : Answer → List Kept → List Kept → List Call → Type 0
Flushes result new sets [] = (next_dirty sets ≡ None) × (result ≡ Ok tt) × (new ≡ sets)
Flushes result new sets (Write line bytes (Ok u) ∷ calls) =
    (e : Entry) × (next_dirty sets ≡ Some e) × (line ≡ e.line) × (bytes ≡ e.bytes) × Flushes result new (with_clean sets e.line) calls
Flushes result new sets (Write line bytes (Err refusal) ∷ calls) =
    (e : Entry) × (next_dirty sets ≡ Some e) × (line ≡ e.line) × (bytes ≡ e.bytes) × (calls ≡ []) × (result ≡ Err refusal) × (new ≡ sets)
Flushes result new sets (Read line answer ∷ calls) = ⊥
