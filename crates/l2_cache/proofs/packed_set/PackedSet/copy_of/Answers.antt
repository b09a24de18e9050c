use Rattle.std.proofs.Common.{refl}
use Rattle.recency.proofs.StoreLemmas.{found_entry}
use Rattle.recency.proofs.SlotLemmas.{slot_none}
use Rattle.l2_cache.proofs.packed_set.PackedSet.copy_of.Goals as goal

pub returns-in_default : goal.returns-in_default
returns-in_default c = rw (← c.self.view_is, slot_none c.self.inside.tags.items c.self.inside.lines.lines c.self.inside.order.slots c.args.line (rw c.deref.ensures.value at c.in_default.ensures)) (refl, refl)

pub copy_out-requires : goal.copy_out-requires
copy_out-requires c = c.self.invariant.whole c.in-Some.slot c.in-Some.ensures.0

pub returns : goal.returns
returns c = rw (← c.self.view_is) (rw (found_entry c.self.invariant.stored c.in-Some.slot c.args.line c.in-Some.ensures.0 (rw c.deref.ensures.value at c.in-Some.ensures.1)) (refl, c.copy_out.ensures))
