use Rattle.recency.proofs.StoreLemmas.{first_has, bytes_within, first_entry}
use Rattle.recency.proofs.line_set.LineSet.copy_first.Goals as goal

pub copy_out-requires : goal.copy_out-requires
copy_out-requires c = rw c.deref.ensures.value (bytes_within c.self.invariant c.first_slot-slot.result (first_has c.self.inside.order.slots c.first_slot-slot.result c.first_slot-slot.ensures))

pub returns : goal.returns
returns c = rw (← c.self.view_is) (rw (first_entry c.self.invariant c.first_slot-slot.result c.first_slot-slot.ensures) (rw c.deref.ensures.value at c.copy_out.ensures))
