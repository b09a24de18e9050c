use Rattle.std.proofs.Common.{◌∙◌, ◌+◌, sym, ap, drop}
use Rattle.recency.specs.Steps.{next_dirty_or}
use Rattle.recency.proofs.FlushLemmas.{next_from}
use Rattle.l2_cache.specs.PackedSet.{kept_sets}
use Rattle.l2_cache.proofs.RoomLemmas.{next_at, within}
use Rattle.l2_cache.proofs.room_sets.RoomSets.next_dirty.Goals as goal

pub loop-set-init : goal.loop-set-init
loop-set-init c = next_from (kept_sets c.self.inside.sets.items) c.args.from (rw (← c.self.view_is) at c.requires)

pub returns-in-Some : goal.returns-in-Some
returns-in-Some c =
    rw (← c.self.view_is) (ap (λ found. next_dirty_or found (drop (c.loop-set.set + 1) (kept_sets c.self.inside.sets.items))) c.in-Some.ensures
    ∙ sym (next_at c.self.inside.sets.items c.loop-set.set c.index.result.now (within c.self.invariant c.loop-set.set c.loop-set-test.true) c.index.ensures) ∙ c.loop-set.invariant)

pub loop-set-preserved : goal.loop-set-preserved
loop-set-preserved c =
    ap (λ found. next_dirty_or found (drop (c.loop-set.set + 1) (kept_sets c.self.inside.sets.items))) (sym c.in_default.is ∙ c.last_dirty.ensures)
    ∙ sym (next_at c.self.inside.sets.items c.loop-set.set c.index.result.now (within c.self.invariant c.loop-set.set c.loop-set-test.true) c.index.ensures) ∙ c.loop-set.invariant
