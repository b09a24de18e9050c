use Rattle.std.proofs.Common.{◌∙◌, refl}
use Rattle.recency.proofs.SlotLemmas.{slot_none}
use Rattle.recency.proofs.StoreLemmas.{used_below, none_left, found_without, none_without}
use Rattle.l2_cache.proofs.SetLemmas.{same_set, packed_dropped, others_left}
use Rattle.l2_cache.proofs.packed_set.PackedSet.remove.Goals as goal

pub returns-in_default-clause-after : goal.returns-in_default-clause-after
returns-in_default-clause-after c = rw (← c.self.view_is) (same_set refl (none_without c.self.invariant.stored c.args.line (rw c.deref.ensures.value at c.in_default.ensures)))

pub returns-in_default-clause-absent : goal.returns-in_default-clause-absent
returns-in_default-clause-absent c = rw (← c.self.view_is) (slot_none c.self.inside.tags.items c.self.inside.lines.lines c.self.inside.order.slots c.args.line (rw c.deref.ensures.value at c.in_default.ensures))

pub release-requires : goal.release-requires
release-requires c = c.self.invariant.whole c.in-Some.slot c.in-Some.ensures.0

pub drop_slot-requires : goal.drop_slot-requires
drop_slot-requires c = used_below c.self.invariant.stored c.in-Some.slot c.in-Some.ensures.0

pub invariant_of-self : goal.invariant_of-self
invariant_of-self c = rw c.drop_slot.ensures.after (packed_dropped c.self.invariant c.in-Some.slot c.release.new.self c.in-Some.ensures.0 c.release.ensures.codec c.release.ensures.lines c.release.ensures.room)

pub returns-clause-after : goal.returns-clause-after
returns-clause-after c =
    rw (← c.self.view_is) (same_set c.release.ensures.codec
    (rw (c.drop_slot.ensures.after, c.release.ensures.lines) (others_left c.self.invariant c.in-Some.slot ∙ found_without c.self.invariant.stored c.in-Some.slot c.args.line c.in-Some.ensures.0 (rw c.deref.ensures.value at c.in-Some.ensures.1))))

pub returns-clause-absent : goal.returns-clause-absent
returns-clause-absent c =
    rw (c.drop_slot.ensures.after, c.release.ensures.lines, others_left c.self.invariant c.in-Some.slot) (none_left c.self.invariant.stored c.in-Some.slot c.args.line c.in-Some.ensures.0 (rw c.deref.ensures.value at c.in-Some.ensures.1))
