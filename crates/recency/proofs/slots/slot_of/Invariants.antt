use Rattle.std.proofs.Common.{◌≡◌, ◌<◌, ℕ, true}
use Rattle.recency.specs.Uses.{has}
use Rattle.recency.specs.Slots.{tag_at}
use Rattle.recency.proofs.slots.slot_of.Given as goal

abbrev pub invariant-loop-slot : goal.invariant-loop-slot
invariant-loop-slot l = (s : ℕ) → s < l.slot → has l.order.slots s ≡ true → (tag_at l.tags s).line ≡ l.line → ⊥
