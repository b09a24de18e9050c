-- What a run of the machine does.
use Rattle.std.specs.Prelude.{◌≡◌, ℕ, List, true, Option, Some, None, if◌then◌else◌, nat_lt}
use Rattle.hier_types.specs.declared.beats.Beat.{Beat}
use Rattle.hier_types.specs.Beats.{is_cleaner, is_mover, turns_among}
use Rattle.hier_types.specs.Causes.{raised_by}
use Rattle.hier_types.specs.Streams.{Streams}
use Rattle.beat_runs.specs.Points.{Runs}
use Rattle.page_store.specs.Store.{Sizing, sizing_of}
use Rattle.rv_guest.specs.declared.ends.MachineEnd.{MachineEnd}
use Rattle.rv_guest.specs.declared.ends.MachineEnd.TheVariants.{Budget}
use Rattle.hier_machine.specs.Beats.{Beats, KeepsSettings}
use Rattle.hier_machine.specs.Lists.{ListsBeats, ShowsBytes, lists_of}
use Rattle.hier_machine.specs.Memory.{store_of}
use Rattle.hier_machine.specs.State.{MachineState, mover_turns_of}

-- where a run with this budget ends before a beat: where the budget is used up, which ends the machine
abbrev pub stands_at : ℕ → MachineState → Option (MachineEnd × MachineState)
stands_at budget s = if nat_lt s.guest.retired budget then None else Some (Budget, record s { ended = true })

-- What one beat does to the machine, and so to the lists of both levels above plain contents.
pub record MakesBeat (sizing : Sizing) (beat : Beat) (old : MachineState) (result : Option MachineEnd) (new : MachineState) (streams : Streams) : Type 0 where
  pub machine : Beats beat old result new streams
  pub lists : ListsBeats sizing beat (lists_of old) result (lists_of new) streams

-- the points of a run of the machine, beat by beat
abbrev pub RunsBeatByBeat : MachineState → MachineEnd → MachineState → Streams → Type 0
RunsBeatByBeat old end new streams = Runs stands_at (MakesBeat (sizing_of (store_of old.memory))) old.beats old.budget old end new streams

-- Each turn of the mover and of the cleaner among so many passed beats was counted, and nothing else.
pub record CountsTurns (beats : List Beat) (old : MachineState) (count : ℕ) (new : MachineState) : Type 0 where
  pub mover : mover_turns_of new ≡ raised_by (mover_turns_of old) (turns_among is_mover beats count)
  pub cleaner : new.cleaner_turns ≡ raised_by old.cleaner_turns (turns_among is_cleaner beats count)

-- A run of the machine from one state to its end. Its turns are those of the beats that it passed; where an instruction
-- ends it, the last beat is the hart's.
pub record RunsMachine (old : MachineState) (end : MachineEnd) (new : MachineState) (streams : Streams) : Type 0 where
  pub shows : ShowsBytes (lists_of old)
  pub beats : RunsBeatByBeat old end new streams
  pub turns : CountsTurns old.beats old beats.count new
  pub stays : KeepsSettings old new
  pub over : new.ended ≡ true

-- Two runs from one state over the same told input that end alike, with as many instructions retired, are one run: they
-- leave one state, with all its counts.
abbrev pub RunsAreOne : Type 0
RunsAreOne = (old : MachineState) (end : MachineEnd) (new other : MachineState) (s t : Streams) (bytes : List ℕ) → s.input.before ≡ Some bytes → t.input.before ≡ Some bytes
    → RunsMachine old end new s → RunsMachine old end other t → new.guest.retired ≡ other.guest.retired → other ≡ new
