use Rattle.recency.proofs.FlushLemmas.{next_from}
use Rattle.recency.proofs.line_sets.LineSets.next_dirty.Goals as goal

pub loop-set-init : goal.loop-set-init
loop-set-init c = next_from c.self.inside.sets.items c.args.from (rw (← c.self.view_is) at c.requires)
