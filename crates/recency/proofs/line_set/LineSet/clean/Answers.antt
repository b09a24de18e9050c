use Rattle.std.proofs.Common.{◌∙◌, sym, ap}
use Rattle.std.proofs.lemmas.List.{with_items_is}
use Rattle.recency.proofs.StoreLemmas.{tag_within, cleaned_slot, clean_none_in}
use Rattle.recency.proofs.line_set.LineSet.clean.Goals as goal

pub returns-in_default : goal.returns-in_default
returns-in_default c = rw (← c.self.view_is) (ap (λ l. record { ways = c.self.inside.ways; lines = l }) (sym (clean_none_in c.self.inside.tags.items c.self.inside.bytes.items c.self.inside.order.slots c.args.line (rw c.deref.ensures.value at c.in_default.ensures))))

pub mark-requires : goal.mark-requires
mark-requires c = rw c.deref_mut.ensures.value (tag_within c.self.invariant c.in-Some.slot c.in-Some.ensures.0)

pub returns : goal.returns
returns c =
    let tags_are = with_items_is c.self.inside.tags c.mark.new.tags (c.mark.auto.tags ∙ c.deref_mut.ensures.len) in
    rw (← c.self.view_is) (ap (λ l. record { ways = c.self.inside.ways; lines = l }) (rw (tags_are, c.mark.ensures, c.deref_mut.ensures.value) (cleaned_slot c.self.invariant c.in-Some.slot c.args.line c.in-Some.ensures.0 (rw c.deref.ensures.value at c.in-Some.ensures.1))))
