-- Two cache levels over a store of any kind, by what a read and a write of the store do.
use Rattle.std.specs.Prelude.{ℕ, List, Result, ◌≡◌}
use Rattle.hier_types.specs.declared.faults.NoSpace.{NoSpace}
use Rattle.hier_types.specs.Calls.{Answer}
use Rattle.l1_cache.specs.FirstCalls.{FirstTouch}
use Rattle.l1_cache.specs.FirstLevel.{FirstLevel, lines_of_first}
use Rattle.l2_cache.specs.declared.clean.Clean.{Clean}
use Rattle.l2_cache.specs.SecondCalls.{SecondCleans, SecondRead, SecondWrite}
use Rattle.l2_cache.specs.SecondLevel.{SecondLevel, lines_of_second}

-- both levels over a store
abbrev pub Levels : Type 0 → Type 0
Levels S = FirstLevel (SecondLevel S)

-- their lines: the copies of the first level, else those of the second, else the lines of the store
abbrev pub lines_over : {S : Type 0} → (S → List (List ℕ)) → Levels S → List (List ℕ)
lines_over content m = lines_of_first (λ s. lines_of_second content s) m

-- the same lists above what a function makes of the store
abbrev pub second_above : {S T : Type 0} → (S → T) → SecondLevel S → SecondLevel T
second_above f s = record { below = f s.below; codec = s.codec; sets = s.sets; cursor = s.cursor; counts = s.counts }

abbrev pub levels_above : {S T : Type 0} → (S → T) → Levels S → Levels T
levels_above f m = record { below = second_above f m.below; sets = m.sets; held = m.held; counts = m.counts; span = m.span }

-- a touch of the first level above the second
abbrev pub TouchLevels : {S : Type 0} → (S → ℕ → Result (List ℕ) NoSpace → S → Type 0) → (S → ℕ → List ℕ → Answer → S → Type 0) → Levels S → ℕ → Answer → Levels S → Type 0
TouchLevels did_read did_write s line answer t = FirstTouch (SecondRead did_read did_write) (SecondWrite did_read did_write) s line answer t

-- A turn of the mover, by what one does to the store: the lists of the second level stay.
pub record MoverBelow {S : Type 0} (Moves : S → S → Type 0) (old new : SecondLevel S) : Type 0 where
  pub moves : Moves old.below new.below
  pub rest : new ≡ record old { below = new.below }

-- A turn of the cleaner: the second level writes one line down to the store, or has none to write.
pub record CleanerBelow {S : Type 0} (did_read : S → ℕ → Result (List ℕ) NoSpace → S → Type 0) (did_write : S → ℕ → List ℕ → Answer → S → Type 0) (old new : SecondLevel S) : Type 0 where
  pub answer : Clean
  pub cleans : SecondCleans did_read did_write old answer new
