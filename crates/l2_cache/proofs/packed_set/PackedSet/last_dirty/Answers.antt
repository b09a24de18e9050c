use Rattle.std.proofs.Common.{None}
use Rattle.recency.specs.Slots.{entry_at}
use Rattle.l2_cache.proofs.SetLemmas.{dirty_whole}
use Rattle.l2_cache.proofs.packed_set.PackedSet.last_dirty.Goals as goal

pub entry_in-requires-clause-whole : goal.entry_in-requires-clause-whole
entry_in-requires-clause-whole c =
    dirty_whole c.self.inside.tags.items c.self.inside.lines.lines c.self.inside.order.slots None (entry_at c.self.inside.tags.items c.self.inside.lines.lines c.in-Some.slot) tt
    c.self.invariant.whole (rw c.deref.ensures.value at c.in-Some.ensures.entry c.self.inside.lines.lines)
