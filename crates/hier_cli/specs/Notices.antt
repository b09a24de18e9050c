-- What the note tells, and how it is written.
use Rattle.std.specs.Prelude.{◌≡◌, ◌≢◌, ◌⊎◌, ℕ, ◌%◌, ◌^◌, List, true, Some, None, Result, Ok, Err, if◌then◌else◌}
use Rattle.std.specs.Io.KnownBytes.{Appends}
use Rattle.hier_types.specs.declared.faults.Failed.{Failed}
use Rattle.hier_types.specs.declared.settings.Settings.{Settings}
use Rattle.hier_types.specs.Streams.{FailsToTake, Stream}
use Rattle.run_report.specs.declared.end.End.{End}
use Rattle.run_report.specs.declared.end.End.TheVariants.{Done, Exit, Usage, Setting, FileFault, TooLong, BadImage, BadTrace, Trap, Budget, Space, NoRoom, InFault, OutFault, NoteFault, NoMemory}
use Rattle.run_report.specs.Json.{json_text}
use Rattle.run_report.specs.ReportLines.{CanBeTold, report_text}
use Rattle.run_report.specs.Texts.{note_text}
use Rattle.hier_cli.specs.declared.notice.Notice.{Notice}
use Rattle.hier_cli.specs.declared.notice.Notice.TheVariants.{Ended, Retired, Reported}

-- the end that a notice tells of
abbrev pub end_of : Notice → End
end_of (Ended end) = end
end_of (Retired end retired) = end
end_of (Reported report) = report.end

-- a notice can be told: its end is none of the note itself, and a report's totals go together
abbrev pub IsTellable : Notice → Type 0
IsTellable (Ended end) = end ≢ NoteFault
IsTellable (Retired end retired) = end ≢ NoteFault
IsTellable (Reported report) = CanBeTold report

-- its text, in the span of the settings, and in the form that they ask for
abbrev pub text_of : Settings → Notice → List ℕ
text_of settings (Ended end) = note_text end None
text_of settings (Retired end retired) = note_text end (Some retired)
text_of settings (Reported report) = if settings.json then json_text settings.geometry report else report_text settings.geometry report

-- the notice is a report in JSON, which takes memory
abbrev pub TakesMemory : Settings → Notice → Type 0
TakesMemory settings (Ended end) = ⊥
TakesMemory settings (Retired end retired) = ⊥
TakesMemory settings (Reported report) = settings.json ≡ true

-- a notice is told by this text, and the work has this end; where there was no memory for JSON, by that end alone
abbrev pub Tells : Settings → Notice → List ℕ → End → Type 0
Tells settings notice text end = ((text ≡ text_of settings notice) × (end ≡ end_of notice)) ⊎ (TakesMemory settings notice × (text ≡ note_text NoMemory None) × (end ≡ NoMemory))

-- the text was written to a stream, and the work ends so; or a front of it, where the stream failed, which has an end of its own
abbrev pub IsWritten : List ℕ → Stream → End → End → End → Type 0
IsWritten text out own failed end = ((end ≡ own) × Appends out.before out.after text) ⊎ ((end ≡ failed) × FailsToTake out text)

-- the end of the work, by what the last call of the stream answered
abbrev pub end_after : End → End → Result (Unit {0}) Failed → End
end_after own failed (Ok u) = own
end_after own failed (Err e) = failed

-- The note tells of a notice, and the work ends so.
pub record NotesNotice (settings : Settings) (notice : Notice) (note : Stream) (end : End) : Type 0 where
  pub text : List ℕ
  pub own : End
  pub tells : Tells settings notice text own
  pub written : IsWritten text note own NoteFault end

-- the exit code of each end
abbrev pub code_of : End → ℕ
code_of Done = 0
code_of (Exit status) = status % 2 ^ 8
code_of Usage = 200
code_of (Setting name) = 201
code_of FileFault = 202
code_of TooLong = 203
code_of (BadImage fault) = 204
code_of (BadTrace fault) = 205
code_of (Trap trap) = 206
code_of Budget = 207
code_of (Space at order free) = 208
code_of (NoRoom at order) = 209
code_of InFault = 210
code_of OutFault = 211
code_of NoteFault = 212
code_of NoMemory = 213

-- a result is printed, and the work ends so, or at the output
abbrev pub IsPrinted : List ℕ → Stream → End → End → Type 0
IsPrinted text out own end = IsWritten text out own OutFault end
