use Rattle.std.proofs.Common.{inr}
use Rattle.page_plan.proofs.TotalLemmas.{blocks_of_memory}
use Rattle.sim_survey.specs.Filled.{lines_of_filled}
use Rattle.run_report.specs.ReportLines.{survey_text}
use Rattle.run_report.specs.declared.end.End.TheVariants.{Done, OutFault}
use Rattle.hier_cli.proofs.NoticeLemmas.{is_written}
use Rattle.hier_cli.proofs.surveys.survey_file.Goals as goal

pub write_survey-requires : goal.write_survey-requires
write_survey-requires g c = rw c.in-Ok.ensures (blocks_of_memory c.args.codec (lines_of_filled c.args.file.now))

pub returns-in-Ok-clause-ends : goal.returns-in-Ok-clause-ends
returns-in-Ok-clause-ends g c =
    let written = c.write_survey.ensures in
    inr (rw (c.end_after.ensures, ← c.in-Ok.ensures) (is_written _ _ _ _ (survey_text c.in-Ok.totals) Done OutFault c.write_survey.result written.ok written.err written.cause))
