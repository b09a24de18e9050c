-- What writing every changed line down to the store does, for a store of any kind and for the pages.
use Rattle.std.specs.Prelude.{◌≡◌, ℕ, List, Result, Err, OnOk, MatchResult}
use Rattle.hier_types.specs.declared.faults.NoSpace.{NoSpace}
use Rattle.hier_types.specs.Calls.{Answer}
use Rattle.hier_types.specs.Causes.{Refuses}
use Rattle.l1_cache.specs.FirstCalls.{FirstFlushes}
use Rattle.l2_cache.specs.SecondCalls.{SecondFlushes, SecondRead, SecondWrite}
use Rattle.page_store.specs.Calls.{StoreRead, StoreWrite, Tidies}
use Rattle.page_store.specs.Contents.{Contents, ContentsRead, ContentsWrite}
use Rattle.page_store.specs.Crowds.{Crowded}
use Rattle.page_store.specs.Store.{Sizing}
use Rattle.hier_machine.specs.Levels.{Levels, lines_over}
use Rattle.hier_machine.specs.Lists.{ListsState, ShowsBytes}
use Rattle.hier_machine.specs.Memory.{Below, content_of, lines_below, store_of}
use Rattle.hier_machine.specs.State.{MachineState}

-- The second level writes its dirty lines down to the store, and the first stays as it is.
pub record SettlesSecond {S : Type 0} (did_read : S → ℕ → Result (List ℕ) NoSpace → S → Type 0) (did_write : S → ℕ → List ℕ → Answer → S → Type 0) (old : Levels S) (answer : Answer) (new : Levels S) : Type 0 where
  pub flushes : SecondFlushes did_read did_write old.below answer new.below
  pub rest : new ≡ record old { below = new.below }

-- The store alone is tidied.
pub record TidiesStore {S : Type 0} (Tidy : S → S → Type 0) (old new : Levels S) : Type 0 where
  pub tidies : Tidy old.below.below new.below.below
  pub rest : new ≡ record old { below = record old.below { below = new.below.below } }

-- The first level writes its dirty lines to the second, and then the second to the store, up to a write that is refused;
-- where none is, the store is tidied. No line changes by that, and where nothing was refused the store has them all.
pub record SettlesLevels {S : Type 0} (did_read : S → ℕ → Result (List ℕ) NoSpace → S → Type 0) (did_write : S → ℕ → List ℕ → Answer → S → Type 0) (Tidy : S → S → Type 0) (content : S → List (List ℕ)) (old : Levels S) (answer : Answer) (new : Levels S) : Type 0 where
  pub mid : Levels S
  pub first : Answer
  pub flushes : FirstFlushes (SecondRead did_read did_write) (SecondWrite did_read did_write) old first mid
  pub flushed : Levels S
  pub goes_on : MatchResult first (λ _. SettlesSecond did_read did_write mid answer flushed) (λ refusal. (answer ≡ Err refusal) × (flushed ≡ mid))
  pub tidied : MatchResult answer (λ _. TidiesStore Tidy flushed new) (λ _. new ≡ flushed)
  pub lines : lines_over content new ≡ lines_over content old
  pub settled : OnOk answer (content new.below.below ≡ lines_over content old)

-- The second level is flushed to the pages. None of its lines changes by that, and where nothing was refused the pages have
-- them all.
pub record FlushesDown (old : Below) (answer : Answer) (new : Below) : Type 0 where
  pub flushes : SecondFlushes StoreRead StoreWrite old answer new
  pub lines : lines_below new ≡ lines_below old
  pub cause : Refuses old.below.stops new.below.stops (Crowded new.below) answer
  pub settled : OnOk answer (new.below.lines ≡ lines_below new)

-- The machine settles, all but its memory stays, and a refusal has its cause in the pages.
pub record SettlesMachine (old : MachineState) (answer : Answer) (new : MachineState) : Type 0 where
  pub levels : SettlesLevels StoreRead StoreWrite Tidies content_of old.memory answer new.memory
  pub cause : Refuses (store_of old.memory).stops (store_of new.memory).stops (Crowded (store_of new.memory)) answer
  pub rest : new ≡ record old { memory = new.memory }

-- The lists of both levels above the contents settle, cut exactly at the write that is refused; tidying leaves the contents.
-- The guest stays.
pub record ListsSettle (sizing : Sizing) (old : ListsState) (answer : Answer) (new : ListsState) : Type 0 where
  pub levels : SettlesLevels ContentsRead (ContentsWrite sizing) (λ before after. after ≡ before) (λ (c : Contents). c.lines) old.memory answer new.memory
  pub rest : new ≡ record old { memory = new.memory }
  pub shows : ShowsBytes new
