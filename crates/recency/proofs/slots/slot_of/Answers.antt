use Rattle.std.proofs.Common.{◌∙◌, sym, ap, arith}
use Rattle.recency.specs.declared.entry.Tag.{Tag}
use Rattle.recency.proofs.UseLemmas.{has_below}
use Rattle.recency.proofs.StoreLemmas.{first_has}
use Rattle.recency.proofs.slots.slot_of.Goals as goal

pub tag_of-requires : goal.tag_of-requires
tag_of-requires c =
    let lt = has_below c.args.order.now.slots c.args.order.now.ways c.in-Some.slot c.requires.tagged.below (first_has c.args.order.now.slots c.in-Some.slot (sym c.in-Some.ensures)) in
    let n = c.requires.tagged.len in
    omega arith

pub returns-then-tag_of-line : goal.returns-then-tag_of-line
returns-then-tag_of-line c = (first_has c.args.order.now.slots c.in-Some.slot (sym c.in-Some.ensures), sym (ap (λ (t : Tag). t.line) c.tag_of.ensures) ∙ c.if-tag_of-line.true)

pub returns : goal.returns
returns c = λ s h at.
    let lt = has_below c.args.order.now.slots c.args.order.now.ways s c.requires.tagged.below h in
    c.loop-slot.invariant s (omega arith) h at
