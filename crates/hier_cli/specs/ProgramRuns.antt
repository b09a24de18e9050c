-- Runs of the program in a file, and their reports.
use Rattle.std.specs.Prelude.{◌≡◌, ℕ, List}
use Rattle.hier_types.specs.Span.{Span}
use Rattle.hier_types.specs.declared.settings.Settings.{Settings}
use Rattle.hier_types.specs.Streams.{AreUntouched, Streams}
use Rattle.hier_machine.specs.declared.ends.NotOpened.{NotOpened}
use Rattle.hier_machine.specs.declared.ends.NotOpened.TheVariants as opening
use Rattle.hier_machine.specs.FileRuns.{FailsToOpen, ReportsFile}
use Rattle.run_report.specs.declared.end.End.{End}
use Rattle.run_report.specs.declared.end.End.TheVariants.{BadImage, NoRoom, NoMemory}
use Rattle.run_report.specs.Texts.{page_address}
use Rattle.hier_cli.specs.declared.notice.Notice.{Notice}
use Rattle.hier_cli.specs.declared.notice.Notice.TheVariants.{Ended, Retired, Reported}

-- the end of work for which no machine was opened
abbrev pub end_of_opening : Span → NotOpened → End
end_of_opening span (opening.BadImage fault) = BadImage fault
end_of_opening span opening.NoMemory = NoMemory
end_of_opening span (opening.NoRoom refusal) = NoRoom (page_address span refusal.page.0) refusal.order

-- No machine was opened on the file.
pub record FailsToStart (settings : Settings) (file : List ℕ) (end : End) : Type 0 where
  pub fault : NotOpened
  pub cause : FailsToOpen settings file fault
  pub told : end ≡ end_of_opening settings.geometry fault

-- how the work on a file's program ends, where its run is reported
abbrev pub EndsRun : Settings → Streams → List ℕ → Notice → Type 0
EndsRun settings streams file (Ended end) = FailsToStart settings file end × AreUntouched streams
EndsRun settings streams file (Retired end retired) = ⊥
EndsRun settings streams file (Reported report) = ReportsFile settings file streams report
