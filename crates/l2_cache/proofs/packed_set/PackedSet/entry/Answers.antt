use Rattle.std.proofs.Common.{◌∙◌, Some, sym, ap}
use Rattle.recency.proofs.SlotLemmas.{slot_none}
use Rattle.recency.proofs.StoreLemmas.{tag_within, found_entry}
use Rattle.l2_cache.proofs.packed_set.PackedSet.entry.Goals as goal

pub returns-in_default : goal.returns-in_default
returns-in_default c = rw (← c.self.view_is) (sym (slot_none c.self.inside.tags.items c.self.inside.lines.lines c.self.inside.order.slots c.args.line (rw c.deref.ensures.value at c.in_default.ensures)))

pub entry_in-requires-clause-tag : goal.entry_in-requires-clause-tag
entry_in-requires-clause-tag c = rw c.deref-2.ensures.value (tag_within c.self.invariant.stored c.in-Some.slot c.in-Some.ensures.0)

pub entry_in-requires-clause-whole : goal.entry_in-requires-clause-whole
entry_in-requires-clause-whole c = c.self.invariant.whole c.in-Some.slot c.in-Some.ensures.0

pub returns : goal.returns
returns c = rw (← c.self.view_is) (ap Some (rw c.deref-2.ensures.value at c.entry_in.ensures) ∙ sym (found_entry c.self.invariant.stored c.in-Some.slot c.args.line c.in-Some.ensures.0 (rw c.deref.ensures.value at c.in-Some.ensures.1)))
