use Rattle.std.proofs.Common.{◌≡◌, replicate, []}
use Rattle.recency.proofs.line_sets.empty_sets.Given as goal

abbrev pub invariant-loop-count : goal.invariant-loop-count
invariant-loop-count l = l.made.items ≡ replicate l.count (record { ways = l.ways; lines = [] })
