use Rattle.std.proofs.Common.{◌≤◌, ◌∙◌, sym, ap, length, arith}
use Rattle.std.proofs.lemmas.Bool.{not-false, not-true}
use Rattle.recency.specs.declared.entry.Tag.{Tag}
use Rattle.recency.proofs.SlotLemmas.{last_has}
use Rattle.recency.proofs.StoreLemmas.{tag_within, victim_empty, victim_clean, victim_dirty}
use Rattle.recency.proofs.line_set.LineSet.dirty_victim.Goals as goal

pub returns-in_default : goal.returns-in_default
returns-in_default c = rw (← c.self.view_is) (sym (victim_empty c.self.invariant (sym c.last.ensures ∙ c.in_default.is)))

pub tag_of-requires : goal.tag_of-requires
tag_of-requires c = rw c.deref.ensures.value (tag_within c.self.invariant c.in-Some.slot (last_has c.self.inside.order.slots c.in-Some.slot (sym c.in-Some.ensures)))

pub returns-then-not-tag_of : goal.returns-then-not-tag_of
returns-then-not-tag_of c =
    let n = c.len.ensures in
    let full : c.self.inside.ways ≤ length c.self.inside.order.slots = omega arith in
    rw (← c.self.view_is) (sym (victim_clean c.self.invariant c.in-Some.slot full (sym c.in-Some.ensures) (sym (ap (λ (t : Tag). t.dirty) (rw c.deref.ensures.value at c.tag_of.ensures)) ∙ not-true c.tag_of.result.dirty c.if-not-tag_of.true)))

pub returns : goal.returns
returns c =
    let n = c.len.ensures in
    let full : c.self.inside.ways ≤ length c.self.inside.order.slots = omega arith in
    rw (← c.self.view_is) (rw (c.entry_in.ensures, c.deref-2.ensures.value, c.deref-3.ensures.value) (sym (victim_dirty c.self.invariant c.in-Some.slot full (sym c.in-Some.ensures) (sym (ap (λ (t : Tag). t.dirty) (rw c.deref.ensures.value at c.tag_of.ensures)) ∙ not-false c.tag_of.result.dirty c.if-not-tag_of.false))))
