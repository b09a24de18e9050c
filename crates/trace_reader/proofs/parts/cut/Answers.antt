use Rattle.std.proofs.Common.{◌==◌, sym}
use Rattle.trace_reader.proofs.PartLemmas.{split-found, split-whole}
use Rattle.trace_reader.proofs.parts.cut.Goals as goal

pub returns-in-Some-clause-parts : goal.returns-in-Some-clause-parts
returns-in-Some-clause-parts c = split-found (λ byte. byte == c.args.mark) c.args.bytes.now c.in-Some.at (sym c.in-Some.ensures)

pub returns-in-None-clause-parts : goal.returns-in-None-clause-parts
returns-in-None-clause-parts c = split-whole (λ byte. byte == c.args.mark) c.args.bytes.now (sym c.in-None.ensures)
