use Rattle.std.proofs.Common.{refl}
use Rattle.recency.proofs.StoreLemmas.{bytes_within, found_entry}
use Rattle.recency.proofs.SlotLemmas.{slot_none}
use Rattle.recency.proofs.line_set.LineSet.copy_of.Goals as goal

pub returns-in_default : goal.returns-in_default
returns-in_default c = rw (← c.self.view_is, slot_none c.self.inside.tags.items c.self.inside.bytes.items c.self.inside.order.slots c.args.line (rw c.deref.ensures.value at c.in_default.ensures)) (refl, refl)

pub copy_out-requires : goal.copy_out-requires
copy_out-requires c = rw c.deref-2.ensures.value (bytes_within c.self.invariant c.in-Some.slot c.in-Some.ensures.0)

pub returns : goal.returns
returns c = rw (← c.self.view_is) (rw (found_entry c.self.invariant c.in-Some.slot c.args.line c.in-Some.ensures.0 (rw c.deref.ensures.value at c.in-Some.ensures.1)) (refl, rw c.deref-2.ensures.value at c.copy_out.ensures))
