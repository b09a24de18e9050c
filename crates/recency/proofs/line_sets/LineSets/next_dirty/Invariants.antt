use Rattle.std.proofs.Common.{◌≡◌, drop}
use Rattle.recency.specs.Steps.{next_dirty}
use Rattle.recency.proofs.line_sets.LineSets.next_dirty.Given as goal

abbrev pub invariant-loop-set : goal.invariant-loop-set
invariant-loop-set l = next_dirty (drop l.set l.self-inside.sets.items) ≡ next_dirty l.self-inside.sets.items
