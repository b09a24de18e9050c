use Rattle.std.proofs.Common.{◌≡◌, drop}
use Rattle.recency.specs.Steps.{next_dirty}
use Rattle.l2_cache.specs.PackedSet.{kept_sets}
use Rattle.l2_cache.proofs.room_sets.RoomSets.next_dirty.Given as goal

abbrev pub invariant-loop-set : goal.invariant-loop-set
invariant-loop-set l = next_dirty (drop l.set (kept_sets l.self-inside.sets.items)) ≡ next_dirty (kept_sets l.self-inside.sets.items)
