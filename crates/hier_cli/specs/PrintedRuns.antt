-- Runs whose output is dropped, for what is printed after them.
use Rattle.std.specs.Prelude.{◌≡◌, ℕ, List}
use Rattle.hier_types.specs.declared.settings.Settings.{Settings}
use Rattle.hier_types.specs.Streams.{AreUntouched, Streams, streams}
use Rattle.hier_machine.specs.FileRuns.{RunsFile, dropped}
use Rattle.hier_machine.specs.State.{MachineState}
use Rattle.run_report.specs.declared.end.End.{End}
use Rattle.hier_cli.specs.declared.notice.Notice.{Notice}
use Rattle.hier_cli.specs.declared.notice.Notice.TheVariants.{Ended, Retired, Reported}
use Rattle.hier_cli.specs.Notices.{IsPrinted}
use Rattle.hier_cli.specs.ProgramRuns.{FailsToStart}

-- The program ran with its output dropped, and then a text of the state that it left was printed.
pub record RanAndPrinted (text_of : MachineState → List ℕ) (settings : Settings) (file : List ℕ) (both : Streams) (end : End) (retired : ℕ) : Type 0 where
  pub last : MachineState
  pub own : End
  pub ran : RunsFile settings file (streams both.input dropped) own last
  pub count : retired ≡ last.guest.retired
  pub printed : IsPrinted (text_of last) both.output own end

-- how the work on a file's program ends, where something is printed after its run
abbrev pub EndsPrinted : (Settings → List ℕ → Streams → End → ℕ → Type 0) → Settings → Streams → List ℕ → Notice → Type 0
EndsPrinted Ran settings both file (Ended end) = FailsToStart settings file end × AreUntouched both
EndsPrinted Ran settings both file (Retired end retired) = Ran settings file both end retired
EndsPrinted Ran settings both file (Reported report) = ⊥
