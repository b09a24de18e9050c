use Rattle.std.proofs.Common.{refl}
use Rattle.recency.proofs.SlotLemmas.{slot_none}
use Rattle.recency.proofs.StoreLemmas.{used_below, found_entry, found_touched, none_touched}
use Rattle.l2_cache.proofs.SetLemmas.{same_set, packed_used}
use Rattle.l2_cache.proofs.packed_set.PackedSet.touch.Goals as goal

pub returns-in_default-clause-found : goal.returns-in_default-clause-found
returns-in_default-clause-found c = rw (← c.self.view_is, slot_none c.self.inside.tags.items c.self.inside.lines.lines c.self.inside.order.slots c.args.line (rw c.deref.ensures.value at c.in_default.ensures)) refl

pub returns-in_default-clause-after : goal.returns-in_default-clause-after
returns-in_default-clause-after c = rw (← c.self.view_is) (same_set refl (none_touched c.self.invariant.stored c.args.line (rw c.deref.ensures.value at c.in_default.ensures)))

pub use_slot-requires : goal.use_slot-requires
use_slot-requires c = used_below c.self.invariant.stored c.in-Some.slot c.in-Some.ensures.0

pub invariant_of-self : goal.invariant_of-self
invariant_of-self c = rw c.use_slot.ensures (packed_used c.self.invariant c.in-Some.slot c.in-Some.ensures.0)

pub returns-clause-found : goal.returns-clause-found
returns-clause-found c = rw (← c.self.view_is, found_entry c.self.invariant.stored c.in-Some.slot c.args.line c.in-Some.ensures.0 (rw c.deref.ensures.value at c.in-Some.ensures.1)) refl

pub returns-clause-after : goal.returns-clause-after
returns-clause-after c =
    rw (← c.self.view_is) (same_set refl (rw c.use_slot.ensures (found_touched c.self.invariant.stored c.in-Some.slot c.args.line c.in-Some.ensures.0 (rw c.deref.ensures.value at c.in-Some.ensures.1))))
