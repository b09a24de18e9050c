-- What one call of a second level does, by what calls of the layer below do.
use Rattle.std.specs.Prelude.{◌≡◌, ℕ, List, Result, is_some, length}
use Rattle.hier_types.specs.declared.faults.NoSpace.{NoSpace}
use Rattle.hier_types.specs.Calls.{Answer, Makes}
use Rattle.line_codec.specs.Slots.{size_under}
use Rattle.recency.specs.Levels.{kept_of}
use Rattle.recency.specs.Steps.{Flushes}
use Rattle.l2_cache.specs.declared.clean.Clean.{Clean}
use Rattle.l2_cache.specs.SecondLevel.{SecondLevel}
use Rattle.l2_cache.specs.Turns.{ReadsSecond, WritesSecond, Cleans, read_counted, write_counted, next_set}

-- A line is read.
pub record SecondRead {B : Type 0} (did_read : B → ℕ → Result (List ℕ) NoSpace → B → Type 0) (did_write : B → ℕ → List ℕ → Answer → B → Type 0) (s : SecondLevel B) (line : ℕ) (answer : Result (List ℕ) NoSpace) (t : SecondLevel B) : Type 0 where
  pub codec : t.codec ≡ s.codec
  pub cursor : t.cursor ≡ s.cursor
  pub counts : t.counts ≡ read_counted (is_some (kept_of s.sets line)) answer s.counts
  pub made : Makes did_read did_write s.below (ReadsSecond (size_under s.codec) s.sets line answer t.sets) t.below

-- A line is written.
pub record SecondWrite {B : Type 0} (did_read : B → ℕ → Result (List ℕ) NoSpace → B → Type 0) (did_write : B → ℕ → List ℕ → Answer → B → Type 0) (s : SecondLevel B) (line : ℕ) (bytes : List ℕ) (answer : Answer) (t : SecondLevel B) : Type 0 where
  pub codec : t.codec ≡ s.codec
  pub cursor : t.cursor ≡ s.cursor
  pub counts : t.counts ≡ write_counted (is_some (kept_of s.sets line)) answer s.counts
  pub made : Makes did_read did_write s.below (WritesSecond (size_under s.codec) s.sets line bytes answer t.sets) t.below

-- The cleaner takes its turn, and the next set has the next one.
pub record SecondCleans {B : Type 0} (did_read : B → ℕ → Result (List ℕ) NoSpace → B → Type 0) (did_write : B → ℕ → List ℕ → Answer → B → Type 0) (s : SecondLevel B) (answer : Clean) (t : SecondLevel B) : Type 0 where
  pub codec : t.codec ≡ s.codec
  pub cursor : t.cursor ≡ next_set s.cursor (length s.sets)
  pub counts : t.counts ≡ s.counts
  pub made : Makes did_read did_write s.below (Cleans s.sets s.cursor answer t.sets) t.below

-- The dirty lines are written below.
pub record SecondFlushes {B : Type 0} (did_read : B → ℕ → Result (List ℕ) NoSpace → B → Type 0) (did_write : B → ℕ → List ℕ → Answer → B → Type 0) (s : SecondLevel B) (answer : Answer) (t : SecondLevel B) : Type 0 where
  pub codec : t.codec ≡ s.codec
  pub cursor : t.cursor ≡ s.cursor
  pub counts : t.counts ≡ s.counts
  pub made : Makes did_read did_write s.below (Flushes answer t.sets s.sets) t.below
