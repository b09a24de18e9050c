-- Runs of beats over any state, point by point. What a beat does and where a run ends before one are parameters.
use Rattle.std.specs.Prelude.{◌≡◌, ◌≤◌, ◌+◌, ◌*◌, ◌⊎◌, ℕ, zero, suc, if◌then◌else◌, List, Option, Some, None}
use Rattle.hier_types.specs.declared.beats.Beat.{Beat}
use Rattle.hier_types.specs.Beats.{IsBeat, is_hart}
use Rattle.hier_types.specs.Streams.{FaultsStay, Meets, Streams, at_first, over}

-- the count of instructions after a beat that ends no run
abbrev pub retired_by : Beat → ℕ → ℕ
retired_by beat retired = if is_hart beat then retired + 1 else retired

-- a state, and what the streams have come to since the run began
pub record Point (S : Type 0) : Type 0 where
  pub state : S
  pub streams : Streams

abbrev pub point : {S : Type 0} → S → Streams → Point S
point state streams = record { state = state; streams = streams }

-- One beat leads from one point to the next. It is made only where the run does not end before it, and its streams go on
-- where those of the point stand.
pub record PassesBeat {S E : Type 0} (stands : ℕ → S → Option (E × S)) (Does : Beat → S → Option E → S → Streams → Type 0) (budget : ℕ) (beat : Beat) (a b : Point S) : Type 0 where
  pub allowed : stands budget a.state ≡ None
  pub streams : Streams
  pub meets : Meets a.streams streams
  pub joined : b.streams ≡ over a.streams streams
  pub faults : FaultsStay streams
  pub does : Does beat a.state None b.state streams

-- The next beat of the word ends the run.
pub record EndsAtBeat {S E : Type 0} (stands : ℕ → S → Option (E × S)) (Does : Beat → S → Option E → S → Streams → Type 0) (word : List Beat) (budget count : ℕ) (a : Point S) (end : E) (b : Point S) : Type 0 where
  pub allowed : stands budget a.state ≡ None
  pub beat : Beat
  pub is : IsBeat word count beat
  pub streams : Streams
  pub meets : Meets a.streams streams
  pub joined : b.streams ≡ over a.streams streams
  pub faults : FaultsStay streams
  pub does : Does beat a.state (Some end) b.state streams

-- The run ends before the next beat.
pub record EndsBefore {S E : Type 0} (stands : ℕ → S → Option (E × S)) (budget : ℕ) (a : Point S) (end : E) (b : Point S) : Type 0 where
  pub stands_so : stands budget a.state ≡ Some (end, b.state)
  pub quiet : b.streams ≡ a.streams

-- so many beats of the word were passed, each from the point that the one before left
abbrev pub Passed : {P : Type 0} → (Beat → P → P → Type 0) → List Beat → P → ℕ → P → Type 0
Passed Passes word start zero now = now ≡ start
Passed {P} Passes word start (suc count) now = (mid : P) × (beat : Beat) × Passed Passes word start count mid × IsBeat word count beat × Passes beat mid now

-- The points of a run from one beat to the next, up to the end. A word has at most 64 beats, one of them the hart's.
pub record RunsBeats {S E : Type 0} (stands : ℕ → S → Option (E × S)) (Does : Beat → S → Option E → S → Streams → Type 0) (word : List Beat) (budget : ℕ) (start : Point S) (end : E) (last : Point S) : Type 0 where
  pub count : ℕ
  pub few : count ≤ 64 * (budget + 1)
  pub before : Point S
  pub passed : Passed (PassesBeat stands Does budget) word start count before
  pub ends : EndsAtBeat stands Does word budget count before end last ⊎ EndsBefore stands budget before end last

-- the same from one state to another, with what the streams have of all beats
abbrev pub Runs : {S E : Type 0} → (ℕ → S → Option (E × S)) → (Beat → S → Option E → S → Streams → Type 0) → List Beat → ℕ → S → E → S → Streams → Type 0
Runs stands Does word budget old end new streams = RunsBeats stands Does word budget (point old (at_first streams)) end (point new streams)
