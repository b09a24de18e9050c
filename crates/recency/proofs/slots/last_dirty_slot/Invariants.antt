use Rattle.std.proofs.Common.{◌≡◌, ℕ, List, true, length}
use Rattle.std.specs.Option.{IfSome}
use Rattle.recency.specs.Uses.{has}
use Rattle.recency.specs.Kept.{last_dirty}
use Rattle.recency.specs.Slots.{entries_of}
use Rattle.recency.proofs.SlotLemmas.{through}
use Rattle.recency.proofs.slots.last_dirty_slot.Given as goal

abbrev pub invariant-loop-next : goal.invariant-loop-next
invariant-loop-next l = record {
  used : IfSome l.next (λ s. has l.order.slots s ≡ true);
  same : (bytes : List (List ℕ)) → last_dirty (entries_of l.tags bytes (through l.order.slots l.next)) ≡ last_dirty (entries_of l.tags bytes l.order.slots);
}

abbrev pub decreases-loop-next : goal.decreases-loop-next
decreases-loop-next l = length (through l.order.slots l.next)
