use Rattle.hier_types.proofs.PlainLemmas.{plain_refuses}
use Rattle.hier_types.proofs.plain_lines.PlainLinesLayer.write.Goals as goal

pub returns-in-Err-clause-cause : goal.returns-in-Err-clause-cause
returns-in-Err-clause-cause c = plain_refuses c.args.self.now c.admit.new.self c.args.line.0 c.args.self.now.lines c.in-Err.refusal c.in-Err.ensures
