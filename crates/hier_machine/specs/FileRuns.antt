-- Runs of the program in a file.
use Rattle.std.specs.Prelude.{◌≡◌, List, ℕ, Some, None}
use Rattle.elf_image.specs.Accepted.{fault_of}
use Rattle.hier_types.specs.declared.settings.Settings.{Settings}
use Rattle.hier_types.specs.Streams.{Stream, Streams, stream}
use Rattle.page_store.specs.Store.{IsSound, sizing_of}
use Rattle.rv_guest.specs.declared.ends.MachineEnd.{MachineEnd}
use Rattle.rv_guest.specs.FollowsFlat.{FollowsFlat}
use Rattle.rv_guest.specs.Headline.{EndsAsFlat}
use Rattle.run_report.specs.declared.end.End.{End}
use Rattle.run_report.specs.declared.report.Report.{Report}
use Rattle.hier_machine.specs.declared.ends.NotOpened.{NotOpened}
use Rattle.hier_machine.specs.declared.ends.NotOpened.TheVariants.{BadImage, NoMemory, NoRoom}
use Rattle.hier_machine.specs.Memory.{store_of}
use Rattle.hier_machine.specs.Placed.{NoRoomFor}
use Rattle.hier_machine.specs.Reports.{Reports}
use Rattle.hier_machine.specs.Runs.{RunsMachine}
use Rattle.hier_machine.specs.Spaces.{HasNoneIfSpace, IsCrowdedIfSpace, IsEndOf}
use Rattle.hier_machine.specs.Start.{Starts, asked_sizing}
use Rattle.hier_machine.specs.State.{MachineState, guest_of_machine}

-- The file was accepted, and a machine begins with its image.
pub record Opens (settings : Settings) (file : List ℕ) (first : MachineState) : Type 0 where
  pub accepted : fault_of settings.geometry file ≡ None
  pub starts : Starts settings file first

-- why no machine was opened on a file; want of memory has no further cause
abbrev pub FailsToOpen : Settings → List ℕ → NotOpened → Type 0
FailsToOpen settings file (BadImage fault) = fault_of settings.geometry file ≡ Some fault
FailsToOpen settings file NoMemory = Unit {0}
FailsToOpen settings file (NoRoom refusal) = (fault_of settings.geometry file ≡ None) × NoRoomFor (record { span = settings.geometry; file = file }) (asked_sizing settings) refusal

-- A machine ran from its first state to an end: beat by beat, and so over the lists of both levels above plain contents;
-- and as the flat run from the same state. The program's end tells of it, and the store that it left is sound.
pub record RunsToEnd (first : MachineState) (streams : Streams) (own : End) (last : MachineState) : Type 0 where
  pub end : MachineEnd
  pub run : RunsMachine first end last streams
  pub flat : FollowsFlat (guest_of_machine first) first.budget first.guest end last.guest streams
  pub told : IsEndOf first.memory.span (store_of last.memory) end own
  pub crowded : IsCrowdedIfSpace (store_of last.memory) end
  pub none_free : HasNoneIfSpace own
  pub sound : IsSound (store_of last.memory)

-- And then it settled, and gave the report.
pub record RunsToReport (first : MachineState) (streams : Streams) (report : Report) (settled : MachineState) : Type 0 where
  pub last : MachineState
  pub ran : RunsToEnd first streams report.end last
  pub reports : Reports last report.end report settled

-- The program in a file ran to an end: the headline holds of it, and a machine that began with the file's image ran so.
pub record RunsFile (settings : Settings) (file : List ℕ) (streams : Streams) (own : End) (last : MachineState) : Type 0 where
  pub first : MachineState
  pub opens : Opens settings file first
  pub ran : RunsToEnd first streams own last
  pub headline : EndsAsFlat settings.geometry settings.budget file ran.end last.guest streams
  pub sizing : sizing_of (store_of last.memory) ≡ asked_sizing settings

-- And the machine that it left gave the report.
pub record ReportsFile (settings : Settings) (file : List ℕ) (streams : Streams) (report : Report) : Type 0 where
  pub last : MachineState
  pub ran : RunsFile settings file streams report.end last
  pub settled : MachineState
  pub reports : Reports last report.end report settled

-- a stream of which nothing is told, and which does not fail
abbrev pub dropped : Stream
dropped = stream None None 0 0
