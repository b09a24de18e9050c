use Rattle.std.proofs.Common.{◌∙◌, ◌∷◌, ap, set}
use Rattle.std.specs.Vec.{with_items}
use Rattle.std.proofs.lemmas.List.{with_items_is}
use Rattle.recency.specs.Uses.{Used, removed}
use Rattle.recency.specs.Slots.{entries_of}
use Rattle.l2_cache.proofs.SetLemmas.{same_set, bare_slot, packed_filled, filled_entries}
use Rattle.l2_cache.proofs.packed_set.PackedSet.fill.Goals as goal

pub put-requires-clause-empty : goal.put-requires-clause-empty
put-requires-clause-empty c = bare_slot c.self.invariant c.slot_to_fill-slot.result (rw (← c.self.view_is) at c.requires.tag) c.slot_to_fill-slot.ensures.others

pub invariant_of-self : goal.invariant_of-self
invariant_of-self c =
    let tags_are = with_items_is c.self.inside.tags c.set_tag.new.tags (c.set_tag.auto.tags ∙ c.deref_mut.ensures.len) in
    rw (c.use_slot.ensures, tags_are, c.set_tag.ensures, c.deref_mut.ensures.value)
    (packed_filled c.self.invariant c.slot_to_fill-slot.result (rw (← c.self.view_is) at c.requires.tag) c.slot_to_fill-slot.ensures.others c.args.line c.args.bytes.now c.args.dirty c.put.new.self
    c.slot_to_fill-slot.ensures.inside (rw (← c.self.view_is) at c.requires.absent) c.told-bytes c.put.ensures.codec c.put.ensures.lines c.put.ensures.room)

pub returns : goal.returns
returns c =
    let s = c.slot_to_fill-slot.result in
    let tags_are = with_items_is c.self.inside.tags c.set_tag.new.tags (c.set_tag.auto.tags ∙ c.deref_mut.ensures.len) in
    rw (← c.self.view_is) (same_set c.put.ensures.codec
    (ap (λ (order : Used). entries_of (with_items c.self.inside.tags c.set_tag.new.tags).items c.put.new.self.lines order.slots) c.use_slot.ensures
    ∙ ap (λ tags. entries_of tags c.put.new.self.lines (s ∷ removed c.self.inside.order.slots s)) (tags_are ∙ c.set_tag.ensures ∙ ap (λ tags. set tags s (record { line = c.args.line; dirty = c.args.dirty })) c.deref_mut.ensures.value)
    ∙ ap (λ lines. entries_of (set c.self.inside.tags.items s (record { line = c.args.line; dirty = c.args.dirty })) lines (s ∷ removed c.self.inside.order.slots s)) c.put.ensures.lines
    ∙ filled_entries c.self.invariant s (rw (← c.self.view_is) at c.requires.tag) c.slot_to_fill-slot.ensures.others c.args.line c.args.bytes.now c.args.dirty c.slot_to_fill-slot.ensures.inside))
