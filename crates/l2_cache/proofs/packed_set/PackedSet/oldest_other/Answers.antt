use Rattle.std.proofs.Common.{◌∙◌, Some, sym, ap}
use Rattle.std.specs.Option.{option_map}
use Rattle.recency.specs.declared.entry.Tag.{Tag}
use Rattle.recency.specs.Slots.{entry_at}
use Rattle.recency.proofs.SlotLemmas.{last_has, more_has}
use Rattle.recency.proofs.StoreLemmas.{used_below, tag_within, oldest_none, oldest_is_last, oldest_is_next}
use Rattle.l2_cache.proofs.packed_set.PackedSet.oldest_other.Goals as goal

pub returns-in_default : goal.returns-in_default
returns-in_default c = rw (← c.self.view_is) (sym (oldest_none c.self.invariant.stored c.args.line (sym c.last.ensures ∙ c.in_default.is)))

pub tag_of-requires : goal.tag_of-requires
tag_of-requires c = rw c.deref.ensures.value (tag_within c.self.invariant.stored c.in-Some.last (last_has c.self.inside.order.slots c.in-Some.last (sym c.in-Some.ensures)))

pub entry_in-requires-clause-tag : goal.entry_in-requires-clause-tag
entry_in-requires-clause-tag c = rw c.deref-then-tag_of-line.ensures.value (tag_within c.self.invariant.stored c.in-Some.last (last_has c.self.inside.order.slots c.in-Some.last (sym c.in-Some.ensures)))

pub entry_in-requires-clause-whole : goal.entry_in-requires-clause-whole
entry_in-requires-clause-whole c = c.self.invariant.whole c.in-Some.last (last_has c.self.inside.order.slots c.in-Some.last (sym c.in-Some.ensures))

pub returns-then-tag_of-line : goal.returns-then-tag_of-line
returns-then-tag_of-line c =
    rw (← c.self.view_is) (ap Some (rw c.deref-then-tag_of-line.ensures.value at c.entry_in.ensures)
    ∙ sym (oldest_is_last c.self.invariant.stored c.in-Some.last c.args.line (sym c.in-Some.ensures) (λ e. c.if-tag_of-line.true (ap (λ (t : Tag). t.line) (rw c.deref.ensures.value at c.tag_of.ensures) ∙ e))))

pub before-requires : goal.before-requires
before-requires c = used_below c.self.invariant.stored c.in-Some.last (last_has c.self.inside.order.slots c.in-Some.last (sym c.in-Some.ensures))

pub returns-in_default-before : goal.returns-in_default-before
returns-in_default-before c =
    rw (← c.self.view_is) (sym (oldest_is_next c.self.invariant.stored c.in-Some.last c.args.line (sym c.in-Some.ensures) (sym (ap (λ (t : Tag). t.line) (rw c.deref.ensures.value at c.tag_of.ensures)) ∙ c.if-tag_of-line.false)
    ∙ ap (option_map (entry_at c.self.inside.tags.items c.self.inside.lines.lines)) (sym c.before-2.ensures ∙ c.in_default-before.is)))

pub entry_in-requires-2-clause-tag : goal.entry_in-requires-2-clause-tag
entry_in-requires-2-clause-tag c = rw c.deref-2.ensures.value (tag_within c.self.invariant.stored c.in-Some-before.slot (more_has c.self.inside.order.slots c.in-Some.last c.in-Some-before.slot (sym c.in-Some-before.ensures)))

pub entry_in-requires-2-clause-whole : goal.entry_in-requires-2-clause-whole
entry_in-requires-2-clause-whole c = c.self.invariant.whole c.in-Some-before.slot (more_has c.self.inside.order.slots c.in-Some.last c.in-Some-before.slot (sym c.in-Some-before.ensures))

pub returns : goal.returns
returns c =
    rw (← c.self.view_is) (ap Some (rw c.deref-2.ensures.value at c.entry_in-2.ensures)
    ∙ sym (oldest_is_next c.self.invariant.stored c.in-Some.last c.args.line (sym c.in-Some.ensures) (sym (ap (λ (t : Tag). t.line) (rw c.deref.ensures.value at c.tag_of.ensures)) ∙ c.if-tag_of-line.false)
    ∙ ap (option_map (entry_at c.self.inside.tags.items c.self.inside.lines.lines)) (sym c.in-Some-before.ensures)))
