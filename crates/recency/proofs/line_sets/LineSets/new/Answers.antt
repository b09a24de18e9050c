use Rattle.std.proofs.Common.{[]}
use Rattle.recency.proofs.LevelLemmas.{masked_sets}
use Rattle.recency.proofs.line_sets.LineSets.new.Goals as goal

pub invariant_of-result : goal.invariant_of-result
invariant_of-result c = masked_sets c.in_ok-empty_sets.field-0.items c.args.sets (record { ways = c.args.ways; lines = [] }) c.in_ok-empty_sets.ensures c.requires.sets
