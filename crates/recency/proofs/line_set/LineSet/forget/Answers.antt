use Rattle.std.proofs.Common.{ap}
use Rattle.recency.proofs.StoreLemmas.{used_below, found_without, none_without, stored_dropped}
use Rattle.recency.proofs.line_set.LineSet.forget.Goals as goal

pub returns-in_default : goal.returns-in_default
returns-in_default c = rw (← c.self.view_is) (ap (λ l. record { ways = c.self.inside.ways; lines = l }) (none_without c.self.invariant c.args.line (rw c.deref.ensures.value at c.in_default.ensures)))

pub drop_slot-requires : goal.drop_slot-requires
drop_slot-requires c = used_below c.self.invariant c.in-Some.slot c.in-Some.ensures.0

pub invariant_of-self : goal.invariant_of-self
invariant_of-self c = rw c.drop_slot.ensures.after (stored_dropped c.self.invariant c.in-Some.slot)

pub returns : goal.returns
returns c =
    rw (← c.self.view_is) (ap (λ l. record { ways = c.self.inside.ways; lines = l })
    (rw c.drop_slot.ensures.after (found_without c.self.invariant c.in-Some.slot c.args.line c.in-Some.ensures.0 (rw c.deref.ensures.value at c.in-Some.ensures.1))))
