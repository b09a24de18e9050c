-- Texts that are written, or fail to be.
use Rattle.std.proofs.Common.{◌≡◌, ℕ, true, false, List, Option, Result, Ok, Err, OnOk, OnErr, refl, inl, inr}
use Rattle.std.specs.Io.KnownBytes.{Appends}
use Rattle.hier_types.specs.Causes.{HasCause}
use Rattle.hier_types.specs.Outside.{AppendsFront}
use Rattle.hier_types.specs.declared.faults.Failed.{Failed}
use Rattle.hier_types.specs.Streams.{stream}
use Rattle.hier_types.specs.declared.settings.Settings.{Settings}
use Rattle.run_report.specs.declared.end.End.{End}
use Rattle.run_report.specs.declared.report.Report.{Report}
use Rattle.run_report.specs.Json.{json_text}
use Rattle.run_report.specs.ReportLines.{report_text}
use Rattle.hier_cli.specs.declared.notice.Notice.TheVariants.{Reported}
use Rattle.hier_cli.specs.Notices.{IsWritten, end_after, text_of}

-- what a call of a sink says of a text
pub is_written : (before after : Option (List ℕ)) (faults_before faults_now : ℕ) (text : List ℕ) (own failed : End) (written : Result (Unit {0}) Failed)
    → OnOk written (Appends before after text) → OnErr written (AppendsFront before after text) → HasCause faults_before faults_now written
    → IsWritten text (stream before after faults_before faults_now) own failed (end_after own failed written)
is_written before after faults_before faults_now text own failed (Ok u) ok err cause = inl (refl, ok)
is_written before after faults_before faults_now text own failed (Err e) ok err cause = inr (refl, record { front = err; rose = cause.rose })

-- the text of a report by its form
pub text_in_json : (settings : Settings) (report : Report) → settings.json ≡ true → json_text settings.geometry report ≡ text_of settings (Reported report)
text_in_json settings report json = rw json refl

pub text_in_lines : (settings : Settings) (report : Report) → settings.json ≡ false → report_text settings.geometry report ≡ text_of settings (Reported report)
text_in_lines settings report lines = rw lines refl
