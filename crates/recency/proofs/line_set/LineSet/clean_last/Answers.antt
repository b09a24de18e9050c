use Rattle.std.proofs.Common.{◌∙◌, sym, ap}
use Rattle.std.proofs.lemmas.List.{with_items_is}
use Rattle.recency.proofs.StoreLemmas.{tag_within, cleaned_last, none_cleaned}
use Rattle.recency.proofs.SlotLemmas.{last_has}
use Rattle.recency.proofs.line_set.LineSet.clean_last.Goals as goal

pub returns-in_default : goal.returns-in_default
returns-in_default c = rw (← c.self.view_is) (ap (λ l. record { ways = c.self.inside.ways; lines = l }) (sym (none_cleaned c.self.invariant (sym c.last.ensures ∙ c.in_default.is))))

pub mark-requires : goal.mark-requires
mark-requires c = rw c.deref_mut.ensures.value (tag_within c.self.invariant c.in-Some.slot (last_has c.self.inside.order.slots c.in-Some.slot (sym c.in-Some.ensures)))

pub returns : goal.returns
returns c =
    let tags_are = with_items_is c.self.inside.tags c.mark.new.tags (c.mark.auto.tags ∙ c.deref_mut.ensures.len) in
    rw (← c.self.view_is) (ap (λ l. record { ways = c.self.inside.ways; lines = l }) (rw (tags_are, c.mark.ensures, c.deref_mut.ensures.value) (cleaned_last c.self.invariant c.in-Some.slot (sym c.in-Some.ensures))))
