use Rattle.std.proofs.Common.{◌≤◌, ◌∙◌, sym, length, arith}
use Rattle.recency.proofs.UseLemmas.{removed_none}
use Rattle.recency.proofs.SlotLemmas.{covered}
use Rattle.recency.proofs.slots.unused_slot.Goals as goal

pub returns-then-not-has-clause-others : goal.returns-then-not-has-clause-others
returns-then-not-has-clause-others c = removed_none c.args.order.now.slots c.loop-slot.slot (sym c.has.ensures ∙ c.if-not-has.true)

pub unreachable-requires : goal.unreachable-requires
unreachable-requires c =
    let all : c.loop-slot.slot ≤ length c.args.order.now.slots = covered c.loop-slot.slot c.args.order.now.slots c.loop-slot.invariant in
    omega arith
