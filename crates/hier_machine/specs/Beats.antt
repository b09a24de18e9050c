-- What one beat does.
use Rattle.std.specs.Prelude.{◌≡◌, ℕ, Option, None}
use Rattle.std.specs.Option.{is_some}
use Rattle.hier_types.specs.declared.beats.Beat.{Beat}
use Rattle.hier_types.specs.declared.beats.Beat.TheVariants.{Hart, Mover, Cleaner}
use Rattle.hier_types.specs.Causes.{raised}
use Rattle.hier_types.specs.PortCalls.{MadeInOrder}
use Rattle.hier_types.specs.Streams.{AreUntouched, Streams}
use Rattle.l1_cache.specs.FirstCalls.{FirstPoke}
use Rattle.page_mover.specs.declared.turning.TurnKind.{TurnKind}
use Rattle.page_store.specs.Calls.{StoreRead, StoreWrite}
use Rattle.page_store.specs.Crowds.{Crowded}
use Rattle.page_store.specs.Store.{Store, sizing_of}
use Rattle.page_store.specs.Turns.{MoverTurns}
use Rattle.rv_guest.specs.declared.ends.MachineEnd.{MachineEnd}
use Rattle.rv_guest.specs.Lines.{lines_at, pokes_at, stop_of_beat}
use Rattle.rv_guest.specs.Steps.{DoesBeat, IsJustified}
use Rattle.hier_machine.specs.Levels.{CleanerBelow, MoverBelow}
use Rattle.hier_machine.specs.Memory.{Below, TouchMemory, store_of, with_second}
use Rattle.hier_machine.specs.State.{MachineState, code_of_machine, guest_of_machine, mover_turns_of}

-- What no beat changes.
pub record KeepsSettings (old new : MachineState) : Type 0 where
  pub span : new.memory.span ≡ old.memory.span
  pub code : code_of_machine new ≡ code_of_machine old
  pub sizing : sizing_of (store_of new.memory) ≡ sizing_of (store_of old.memory)
  pub budget : new.budget ≡ old.budget
  pub beats : new.beats ≡ old.beats

-- What no beat of the hart changes.
pub record TurnsStay (old new : MachineState) : Type 0 where
  pub mover : mover_turns_of new ≡ mover_turns_of old
  pub cleaner : new.cleaner_turns ≡ old.cleaner_turns

-- A beat of the hart is one instruction of the guest. It touches its lines in order and then pokes, through both levels and
-- the store; where a touch is refused, nothing follows it, and the store is crowded. An end of it ends the machine.
pub record HartBeats (old : MachineState) (result : Option MachineEnd) (new : MachineState) (streams : Streams) : Type 0 where
  pub does : DoesBeat (guest_of_machine old) old.guest result new.guest streams
  pub made : MadeInOrder TouchMemory FirstPoke old.memory (lines_at (code_of_machine old) old.guest) (pokes_at (code_of_machine old) old.guest result new.guest.hart) (stop_of_beat result) new.memory
  pub cause : IsJustified (store_of old.memory).stops (store_of new.memory).stops (Crowded (store_of new.memory)) result
  pub stays : KeepsSettings old new
  pub turns : TurnsStay old new
  pub ended : new.ended ≡ is_some result

-- the mover of the store makes one turn, of some kind
abbrev pub MovesPages : Store → Store → Type 0
MovesPages s t = (kind : TurnKind) × MoverTurns s kind t

-- A beat of the mover or the cleaner is a turn below the first level. The cleaner's turns are counted beside it, and nothing
-- else changes.
pub record TurnBeats (Turn : Below → Below → Type 0) (cleaner : ℕ) (old : MachineState) (result : Option MachineEnd) (new : MachineState) (streams : Streams) : Type 0 where
  pub none : result ≡ None
  pub turn : Turn old.memory.below new.memory.below
  pub rest : new ≡ record old { memory = with_second old.memory new.memory.below; cleaner_turns = cleaner }
  pub quiet : AreUntouched streams

-- each beat by who acts in it
abbrev pub Beats : Beat → MachineState → Option MachineEnd → MachineState → Streams → Type 0
Beats Hart old result new streams = HartBeats old result new streams
Beats Mover old result new streams = TurnBeats (MoverBelow MovesPages) old.cleaner_turns old result new streams
Beats Cleaner old result new streams = TurnBeats (CleanerBelow StoreRead StoreWrite) (raised old.cleaner_turns) old result new streams
