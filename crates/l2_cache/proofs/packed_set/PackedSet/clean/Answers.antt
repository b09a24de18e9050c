use Rattle.std.proofs.Common.{◌∙◌, sym, refl}
use Rattle.std.proofs.lemmas.List.{with_items_is}
use Rattle.recency.proofs.StoreLemmas.{tag_within, cleaned_slot, clean_none_in}
use Rattle.l2_cache.proofs.SetLemmas.{same_set, packed_cleaned}
use Rattle.l2_cache.proofs.packed_set.PackedSet.clean.Goals as goal

pub returns-in_default : goal.returns-in_default
returns-in_default c = rw (← c.self.view_is) (same_set refl (sym (clean_none_in c.self.inside.tags.items c.self.inside.lines.lines c.self.inside.order.slots c.args.line (rw c.deref.ensures.value at c.in_default.ensures))))

pub mark-requires : goal.mark-requires
mark-requires c = rw c.deref_mut.ensures.value (tag_within c.self.invariant.stored c.in-Some.slot c.in-Some.ensures.0)

pub invariant_of-self : goal.invariant_of-self
invariant_of-self c =
    let tags_are = with_items_is c.self.inside.tags c.mark.new.tags (c.mark.auto.tags ∙ c.deref_mut.ensures.len) in
    rw (tags_are, c.mark.ensures, c.deref_mut.ensures.value) (packed_cleaned c.self.invariant c.in-Some.slot c.in-Some.ensures.0)

pub returns : goal.returns
returns c =
    let tags_are = with_items_is c.self.inside.tags c.mark.new.tags (c.mark.auto.tags ∙ c.deref_mut.ensures.len) in
    rw (← c.self.view_is) (same_set refl (rw (tags_are, c.mark.ensures, c.deref_mut.ensures.value) (cleaned_slot c.self.invariant.stored c.in-Some.slot c.args.line c.in-Some.ensures.0 (rw c.deref.ensures.value at c.in-Some.ensures.1))))
