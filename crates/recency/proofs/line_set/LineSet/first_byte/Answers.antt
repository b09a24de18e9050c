use Rattle.recency.proofs.StoreLemmas.{first_has, bytes_within, first_entry}
use Rattle.recency.proofs.line_set.LineSet.first_byte.Goals as goal

pub byte_in-requires-clause-slot : goal.byte_in-requires-clause-slot
byte_in-requires-clause-slot c = rw c.deref.ensures.value (bytes_within c.self.invariant c.first_slot-slot.result (first_has c.self.inside.order.slots c.first_slot-slot.result c.first_slot-slot.ensures))

pub returns : goal.returns
returns c = rw (← c.self.view_is) (rw (first_entry c.self.invariant c.first_slot-slot.result c.first_slot-slot.ensures) (rw c.deref.ensures.value at c.byte_in.ensures))
