use Rattle.std.proofs.Common.{◌≡◌, ◌≤◌, ◌∙◌, sym, length, arith, false, nat_lt}
use Rattle.std.proofs.lemmas.Bool.{le-ltb}
use Rattle.recency.proofs.UseLemmas.{has_below}
use Rattle.recency.proofs.SlotLemmas.{last_has, last_none_empty, removed_last}
use Rattle.recency.proofs.slots.slot_to_fill.Goals as goal

pub unreachable-requires : goal.unreachable-requires
unreachable-requires c =
    let none : length c.args.order.now.slots ≡ 0 = last_none_empty c.args.order.now.slots (sym c.last.ensures ∙ c.in-None.is) in
    let n = c.len.ensures in
    omega arith

pub returns-clause-inside : goal.returns-clause-inside
returns-clause-inside c =
    let lt = has_below c.args.order.now.slots c.args.order.now.ways c.in-Some.slot c.requires.below (last_has c.args.order.now.slots c.in-Some.slot (sym c.in-Some.ensures)) in
    omega arith

pub returns-clause-others : goal.returns-clause-others
returns-clause-others c =
    let n = c.len.ensures in
    let full : c.args.ways ≤ length c.args.order.now.slots = omega arith in
    let test : nat_lt (length c.args.order.now.slots) c.args.ways ≡ false = le-ltb (length c.args.order.now.slots) c.args.ways full in
    rw test (removed_last c.args.order.now.slots c.in-Some.slot c.requires.distinct (sym c.in-Some.ensures))
