use Rattle.std.proofs.Common.{◌≡◌, ◌*◌, replicate, []}
use Rattle.l2_cache.proofs.room_sets.empty_sets.Given as goal

abbrev pub invariant-loop-count : goal.invariant-loop-count
invariant-loop-count l = l.made.items ≡ replicate l.count (record { codec = l.codec; kept = record { ways = 2 * l.ways; lines = [] } })
