use Rattle.std.proofs.Common.{◌∙◌, None, refl, inl, inr}
use Rattle.run_report.specs.declared.end.End.TheVariants.{NoMemory, NoteFault}
use Rattle.run_report.specs.Texts.{note_text}
use Rattle.hier_cli.proofs.NoticeLemmas.{is_written, text_in_json}
use Rattle.hier_cli.proofs.notice.write_json.Goals as goal

pub returns-in-Ok : goal.returns-in-Ok
returns-in-Ok g c =
    let report = c.args.report.now in
    let text = c.deref.result.now in
    rw c.end_after.ensures (record {
      text = text;
      own = report.end;
      tells = inl (c.deref.ensures.value ∙ c.in-Ok.ensures ∙ text_in_json c.args.settings.now report c.requires.json, refl);
      written = is_written _ _ _ _ text report.end NoteFault c.write.result c.write.ensures.ok c.write.ensures.err c.write.ensures.cause;
    })

pub returns-in-Err : goal.returns-in-Err
returns-in-Err g c =
    let text = note_text NoMemory None in
    rw c.end_after-in-Err.ensures (record {
      text = text;
      own = NoMemory;
      tells = inr (c.requires.json, refl, refl);
      written = is_written _ _ _ _ text NoMemory NoteFault c.write_end.result c.write_end.ensures.ok c.write_end.ensures.err c.write_end.ensures.cause;
    })
