use Rattle.std.proofs.Common.{◌∙◌, ap, ◌∷◌, false, set}
use Rattle.std.specs.Vec.{with_items}
use Rattle.std.proofs.lemmas.List.{with_items_is}
use Rattle.recency.specs.Uses.{Used, removed}
use Rattle.recency.specs.Slots.{entries_of}
use Rattle.recency.proofs.StoreLemmas.{stored_filled, filled_is}
use Rattle.recency.proofs.line_set.LineSet.put_in.Goals as goal

pub invariant_of-self : goal.invariant_of-self
invariant_of-self c =
    let tags_are = with_items_is c.self.inside.tags c.set_tag.new.tags (c.set_tag.auto.tags ∙ c.deref_mut.ensures.len) in
    let bytes_are = with_items_is c.self.inside.bytes c.copy_in.new.bytes (c.copy_in.auto.bytes ∙ c.deref_mut-2.ensures.len) in
    rw (c.use_slot.ensures, tags_are, bytes_are, c.set_tag.ensures, c.copy_in.ensures, c.deref_mut.ensures.value, c.deref_mut-2.ensures.value)
    (stored_filled c.self.invariant c.slot_to_fill-slot.result c.args.line c.args.bytes.now false c.slot_to_fill-slot.ensures.inside (rw (← c.self.view_is) at c.requires))

pub returns : goal.returns
returns c =
    let s = c.slot_to_fill-slot.result in
    let after = s ∷ removed c.self.inside.order.slots s in
    let tags_are = with_items_is c.self.inside.tags c.set_tag.new.tags (c.set_tag.auto.tags ∙ c.deref_mut.ensures.len) in
    let bytes_are = with_items_is c.self.inside.bytes c.copy_in.new.bytes (c.copy_in.auto.bytes ∙ c.deref_mut-2.ensures.len) in
    let new_bytes = (with_items c.self.inside.bytes c.copy_in.new.bytes).items in
    rw (← c.self.view_is) (ap (λ l. record { ways = c.self.inside.ways; lines = l })
    (ap (λ (order : Used). entries_of (with_items c.self.inside.tags c.set_tag.new.tags).items new_bytes order.slots) c.use_slot.ensures
    ∙ ap (λ tags. entries_of tags new_bytes after) (tags_are ∙ c.set_tag.ensures ∙ ap (λ tags. set tags s (record { line = c.args.line; dirty = false })) c.deref_mut.ensures.value)
    ∙ ap (λ bytes. entries_of (set c.self.inside.tags.items s (record { line = c.args.line; dirty = false })) bytes after) (bytes_are ∙ c.copy_in.ensures ∙ ap (λ bytes. set bytes s c.args.bytes.now) c.deref_mut-2.ensures.value)
    ∙ filled_is c.self.invariant s c.args.line c.args.bytes.now false c.slot_to_fill-slot.ensures.inside c.slot_to_fill-slot.ensures.others))
