use Rattle.std.proofs.Common.{refl, inl}
use Rattle.run_report.specs.declared.end.End.TheVariants.{NoteFault}
use Rattle.run_report.specs.ReportLines.{report_text}
use Rattle.hier_cli.proofs.NoticeLemmas.{is_written, text_in_lines}
use Rattle.hier_cli.proofs.notice.write_notice.Goals as goal

pub returns-in-Reported-2 : goal.returns-in-Reported-2
returns-in-Reported-2 g c =
    let report = c.in-Reported-2.report in
    let settings = c.args.settings.now in
    let text = report_text settings.geometry report in
    rw (c.in-Reported-2.is, c.end_after-in-Reported-2.ensures) (record {
      text = text;
      own = report.end;
      tells = inl (text_in_lines settings report c.if-settings.false, refl);
      written = is_written _ _ _ _ text report.end NoteFault c.write_text.result c.write_text.ensures.ok c.write_text.ensures.err c.write_text.ensures.cause;
    })
