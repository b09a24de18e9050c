use Rattle.std.proofs.Common.{◌∙◌, ap}
use Rattle.std.proofs.lemmas.List.{with_items_is}
use Rattle.recency.proofs.StoreLemmas.{first_has, tag_within, bytes_within, first_entry, poked_first}
use Rattle.recency.proofs.line_set.LineSet.set_first_byte.Goals as goal

pub mark-requires : goal.mark-requires
mark-requires c = rw c.deref_mut.ensures.value (tag_within c.self.invariant c.first_slot-slot.result (first_has c.self.inside.order.slots c.first_slot-slot.result c.first_slot-slot.ensures))

pub set_byte_in-requires-clause-slot : goal.set_byte_in-requires-clause-slot
set_byte_in-requires-clause-slot c = rw c.deref_mut-2.ensures.value (bytes_within c.self.invariant c.first_slot-slot.result (first_has c.self.inside.order.slots c.first_slot-slot.result c.first_slot-slot.ensures))

pub returns : goal.returns
returns c =
    let tags_are = with_items_is c.self.inside.tags c.mark.new.tags (c.mark.auto.tags ∙ c.deref_mut.ensures.len) in
    let bytes_are = with_items_is c.self.inside.bytes c.set_byte_in.new.bytes (c.set_byte_in.auto.bytes ∙ c.deref_mut-2.ensures.len) in
    rw (← c.self.view_is) (rw (first_entry c.self.invariant c.first_slot-slot.result c.first_slot-slot.ensures)
    (ap (λ l. record { ways = c.self.inside.ways; lines = l }) (rw (tags_are, bytes_are, c.mark.ensures, c.set_byte_in.ensures, c.deref_mut.ensures.value, c.deref_mut-2.ensures.value) (poked_first c.self.invariant c.first_slot-slot.result c.args.offset c.args.byte c.first_slot-slot.ensures))))
