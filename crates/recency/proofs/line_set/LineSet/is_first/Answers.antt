use Rattle.std.proofs.Common.{◌∙◌, sym, ap}
use Rattle.std.proofs.lemmas.Bool.{eqb-true}
use Rattle.recency.proofs.StoreLemmas.{first_has, tag_within, first_touched}
use Rattle.recency.proofs.line_set.LineSet.is_first.Goals as goal

pub tag_of-requires : goal.tag_of-requires
tag_of-requires c = rw c.deref.ensures.value (tag_within c.self.invariant c.in-Some.slot (first_has c.self.inside.order.slots c.in-Some.slot (sym c.in-Some.ensures)))

pub returns-in-Some-clause-first : goal.returns-in-Some-clause-first
returns-in-Some-clause-first c = λ t.
    rw (← c.self.view_is) (first_touched c.self.inside.tags.items c.self.inside.bytes.items c.self.inside.order.slots c.in-Some.slot c.args.line (sym c.in-Some.ensures)
    (sym (ap (λ t. t.line) (rw c.deref.ensures.value at c.tag_of.ensures)) ∙ eqb-true _ _ t)).0

pub returns-in-Some-clause-found : goal.returns-in-Some-clause-found
returns-in-Some-clause-found c = λ t.
    rw (← c.self.view_is) (first_touched c.self.inside.tags.items c.self.inside.bytes.items c.self.inside.order.slots c.in-Some.slot c.args.line (sym c.in-Some.ensures)
    (sym (ap (λ t. t.line) (rw c.deref.ensures.value at c.tag_of.ensures)) ∙ eqb-true _ _ t)).1
