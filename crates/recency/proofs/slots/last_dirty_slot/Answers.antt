use Rattle.std.proofs.Common.{◌∙◌, sym, ap, arith}
use Rattle.recency.specs.declared.entry.Tag.{Tag}
use Rattle.recency.specs.Kept.{last_dirty}
use Rattle.recency.specs.Slots.{entries_of}
use Rattle.recency.proofs.UseLemmas.{has_below}
use Rattle.recency.proofs.SlotLemmas.{through, through-last, last_used, dirty_found, dirty_passed, through_falls, more_used}
use Rattle.recency.proofs.slots.last_dirty_slot.Goals as goal

pub loop-next-init : goal.loop-next-init
loop-next-init c = record {
  used = rw c.last-next.ensures (last_used c.args.order.now.slots);
  same = λ bytes.
      ap (λ o. last_dirty (entries_of c.args.tags.now bytes (through c.args.order.now.slots o))) c.last-next.ensures
      ∙ ap (λ l. last_dirty (entries_of c.args.tags.now bytes l)) (through-last c.args.order.now.slots c.requires.distinct);
}

pub tag_of-requires : goal.tag_of-requires
tag_of-requires c =
    let used = rw c.in-Some.is at c.loop-next.invariant.used in
    let lt = has_below c.args.order.now.slots c.args.order.now.ways c.in-Some.slot c.requires.below used in
    let n = c.requires.len in
    omega arith

pub returns-then-tag_of-clause-entry : goal.returns-then-tag_of-clause-entry
returns-then-tag_of-clause-entry c = λ bytes.
    let used = rw c.in-Some.is at c.loop-next.invariant.used in
    sym (c.loop-next.invariant.same bytes)
    ∙ ap (λ o. last_dirty (entries_of c.args.tags.now bytes (through c.args.order.now.slots o))) c.in-Some.is
    ∙ dirty_found c.args.tags.now bytes c.args.order.now.slots c.in-Some.slot c.requires.distinct used (sym (ap (λ (t : Tag). t.dirty) c.tag_of.ensures) ∙ c.if-tag_of.true)

pub before-next-requires : goal.before-next-requires
before-next-requires c =
    let used = rw c.in-Some.is at c.loop-next.invariant.used in
    has_below c.args.order.now.slots c.args.order.now.ways c.in-Some.slot c.requires.below used

pub loop-next-smaller : goal.loop-next-smaller
loop-next-smaller c =
    let used = rw c.in-Some.is at c.loop-next.invariant.used in
    rw (c.before-next.ensures, c.in-Some.is) (through_falls c.args.order.now.slots c.in-Some.slot c.requires.distinct used)

pub loop-next-preserved : goal.loop-next-preserved
loop-next-preserved c =
    let used = rw c.in-Some.is at c.loop-next.invariant.used in
    record {
      used = rw c.before-next.ensures (more_used c.args.order.now.slots c.in-Some.slot);
      same = λ bytes.
          ap (λ o. last_dirty (entries_of c.args.tags.now bytes (through c.args.order.now.slots o))) c.before-next.ensures
          ∙ sym (dirty_passed c.args.tags.now bytes c.args.order.now.slots c.in-Some.slot c.requires.distinct used (sym (ap (λ (t : Tag). t.dirty) c.tag_of.ensures) ∙ c.if-tag_of.false))
          ∙ ap (λ o. last_dirty (entries_of c.args.tags.now bytes (through c.args.order.now.slots o))) (sym c.in-Some.is)
          ∙ c.loop-next.invariant.same bytes;
    }
