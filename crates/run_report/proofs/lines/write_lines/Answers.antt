use Rattle.std.proofs.Common.{rules}
use Rattle.hier_types.specs.Outside.{AppendsFront}
use Rattle.run_report.proofs.FrontLemmas.{front_at}
use Rattle.run_report.proofs.lines.write_lines.Goals as goal

pub returns-in-Err-clause-err : goal.returns-in-Err-clause-err
returns-in-Err-clause-err g c =
    let written = g.N.Sink.written in
    let line = c.line-item.result in
    let front : AppendsFront (written c.loop-line.note) (written c.write.new.self) line.text.bytes = search rules in
    front_at (λ line. line.text.bytes) _ _ _ c.args.lines.now c.loop-line.line-index line c.loop-line-test.true c.line-item.is c.loop-line.invariant.appends front
