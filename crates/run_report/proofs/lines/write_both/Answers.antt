use Rattle.std.proofs.Common.{rules}
use Rattle.std.proofs.lemmas.Result.{on_err_weaker}
use Rattle.std.specs.Io.KnownBytes.{Appends}
use Rattle.hier_types.specs.Lines.{flatten}
use Rattle.run_report.specs.TextLines.{texts_of}
use Rattle.run_report.proofs.FrontLemmas.{front_of_lines, front_of_more}
use Rattle.run_report.proofs.lines.write_both.Goals as goal

pub returns-in-Err-clause-err : goal.returns-in-Err-clause-err
returns-in-Err-clause-err g c =
    front_of_lines _ _ (texts_of c.args.lines.now) (texts_of c.args.more.now) c.in-Err.ensures.err

pub returns-clause-err : goal.returns-clause-err
returns-clause-err g c =
    let written = g.N.Sink.written in
    let lines = texts_of c.args.lines.now in
    let whole : Appends (written c.args.note.now) (written c.write_lines.new.note) (flatten lines) = search rules in
    on_err_weaker c.write_lines-2.result (front_of_more _ _ _ lines (texts_of c.args.more.now) whole) c.write_lines-2.ensures.err
