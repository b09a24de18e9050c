-- The lists of both levels above plain contents, which name no block, and what a beat does to them.
use Rattle.std.specs.Prelude.{◌≡◌, ℕ, List, [], ◌∷◌, Option, None, Result}
use Rattle.hier_types.specs.declared.access.Access.{Access}
use Rattle.hier_types.specs.declared.beats.Beat.{Beat}
use Rattle.hier_types.specs.declared.beats.Beat.TheVariants.{Hart, Mover, Cleaner}
use Rattle.hier_types.specs.declared.faults.NoSpace.{NoSpace}
use Rattle.hier_types.specs.Causes.{refusal_of}
use Rattle.hier_types.specs.Lines.{flatten}
use Rattle.hier_types.specs.PortCalls.{MadeInOrder}
use Rattle.hier_types.specs.Span.{line_at}
use Rattle.hier_types.specs.Streams.{AreUntouched, Streams}
use Rattle.l1_cache.specs.FirstCalls.{FirstPoke}
use Rattle.page_store.specs.Contents.{Contents, ContentsRead, ContentsWrite, contents_of}
use Rattle.page_store.specs.Store.{Sizing}
use Rattle.rv_core.specs.Accesses.{address_of, pokes_of_access}
use Rattle.rv_guest.specs.declared.ends.MachineEnd.{MachineEnd}
use Rattle.rv_guest.specs.Beside.{guest_at}
use Rattle.rv_guest.specs.FollowsFlat.{Idles}
use Rattle.rv_guest.specs.Lines.{lines_at, pokes_at, stop_of_beat}
use Rattle.rv_guest.specs.State.{GuestState, code_at}
use Rattle.rv_guest.specs.Steps.{DoesBeat}
use Rattle.hier_machine.specs.Accesses.{DoesAccess}
use Rattle.hier_machine.specs.Levels.{CleanerBelow, Levels, TouchLevels, levels_above, lines_over}
use Rattle.hier_machine.specs.State.{MachineState}

-- the lists of both levels above the contents, and the guest's state
pub record ListsState : Type 0 where
  pub memory : Levels Contents
  pub guest : GuestState

-- those of a machine
abbrev pub lists_of : MachineState → ListsState
lists_of s = record { memory = levels_above contents_of s.memory; guest = s.guest }

-- the guest's bytes are those of the lines that the levels show over the contents
abbrev pub ShowsBytes : ListsState → Type 0
ShowsBytes s = s.guest.hart.bytes ≡ flatten (lines_over (λ (c : Contents). c.lines) s.memory)

-- such touches and pokes were made, through the lists of both levels and the contents
abbrev pub ListsMade : Sizing → Levels Contents → List ℕ → List (ℕ × ℕ) → Option NoSpace → Levels Contents → Type 0
ListsMade sizing s lines bytes stop t = MadeInOrder (TouchLevels ContentsRead (ContentsWrite sizing)) FirstPoke s lines bytes stop t

-- A beat of the hart is one instruction of the guest. It touches its lines in order and then pokes. It is cut exactly where
-- it answers a refusal: the last touch made a write of the contents that was cut.
pub record ListsHart (sizing : Sizing) (old : ListsState) (result : Option MachineEnd) (new : ListsState) (streams : Streams) : Type 0 where
  pub does : DoesBeat (guest_at old.memory.span old.guest) old.guest result new.guest streams
  pub made : ListsMade sizing old.memory (lines_at (code_at old.memory.span old.guest) old.guest) (pokes_at (code_at old.memory.span old.guest) old.guest result new.guest.hart) (stop_of_beat result) new.memory
  pub shows : ShowsBytes new

-- A turn of the cleaner writes the last dirty entry of its set down and marks it clean, or finds none, or is cut; then the
-- next set has its turn. Nothing above the second level changes.
pub record ListsClean (sizing : Sizing) (old : ListsState) (result : Option MachineEnd) (new : ListsState) (streams : Streams) : Type 0 where
  pub none : result ≡ None
  pub cleans : CleanerBelow ContentsRead (ContentsWrite sizing) old.memory.below new.memory.below
  pub rest : new ≡ record old { memory = record old.memory { below = new.memory.below } }
  pub shows : ShowsBytes new
  pub quiet : AreUntouched streams

-- each beat by who acts in it; one of the mover changes no list and no contents
abbrev pub ListsBeats : Sizing → Beat → ListsState → Option MachineEnd → ListsState → Streams → Type 0
ListsBeats sizing Hart old result new streams = ListsHart sizing old result new streams
ListsBeats sizing Mover old result new streams = Idles old result new streams
ListsBeats sizing Cleaner old result new streams = ListsClean sizing old result new streams

-- An access of a trace touches its one line and then pokes what it stores. It is cut where it answers a refusal.
pub record ListsAccess (sizing : Sizing) (old : ListsState) (access : Access) (result : Result ℕ NoSpace) (new : ListsState) : Type 0 where
  pub does : DoesAccess old.memory.span access old.guest result new.guest
  pub made : ListsMade sizing old.memory (line_at old.memory.span (address_of access) ∷ []) (pokes_of_access access) (refusal_of result) new.memory
  pub shows : ShowsBytes new
