-- Runs of the program in a file over flat memory.
use Rattle.std.specs.Prelude.{◌≡◌, ℕ, List, Some, None}
use Rattle.elf_image.specs.Accepted.{fault_of}
use Rattle.hier_types.specs.Span.{Span}
use Rattle.hier_types.specs.declared.settings.Settings.{Settings}
use Rattle.hier_types.specs.Streams.{AreUntouched, Streams}
use Rattle.rv_guest.specs.declared.ends.MachineEnd.{MachineEnd}
use Rattle.rv_guest.specs.Headline.{EndsAsFlat}
use Rattle.rv_guest.specs.State.{GuestState}
use Rattle.hier_machine.specs.Ends.{told_as}
use Rattle.run_report.specs.declared.end.End.{End}
use Rattle.run_report.specs.declared.end.End.TheVariants.{BadImage, NoMemory}
use Rattle.hier_cli.specs.declared.notice.Notice.{Notice}
use Rattle.hier_cli.specs.declared.notice.Notice.TheVariants.{Ended, Retired, Reported}

-- why the file gave no image, or its memory was not there
abbrev pub IsImageEnd : Span → List ℕ → End → Type 0
IsImageEnd span file (BadImage fault) = fault_of span file ≡ Some fault
IsImageEnd span file NoMemory = Unit {0}
IsImageEnd span file end = ⊥

-- The file was accepted, and its program ran over flat memory, which has room for every page.
pub record RunsFlat (settings : Settings) (file : List ℕ) (streams : Streams) (own : End) (retired : ℕ) : Type 0 where
  pub accepted : fault_of settings.geometry file ≡ None
  pub end : MachineEnd
  pub last : GuestState
  pub headline : EndsAsFlat settings.geometry settings.budget file end last streams
  pub told : told_as end ≡ Some own
  pub count : retired ≡ last.retired

-- how the work on a file's program ends over flat memory
abbrev pub EndsFlat : Settings → Streams → List ℕ → Notice → Type 0
EndsFlat settings streams file (Ended end) = IsImageEnd settings.geometry file end × AreUntouched streams
EndsFlat settings streams file (Retired end retired) = RunsFlat settings file streams end retired
EndsFlat settings streams file (Reported report) = ⊥
