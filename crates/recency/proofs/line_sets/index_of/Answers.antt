use Rattle.std.proofs.Common.{length}
use Rattle.recency.proofs.LevelLemmas.{masked}
use Rattle.recency.proofs.line_sets.index_of.Goals as goal

pub returns-clause-index : goal.returns-clause-index
returns-clause-index c = masked c.args.line c.args.mask (length c.args.sets.now.items) 4096 c.requires.size c.requires.power
