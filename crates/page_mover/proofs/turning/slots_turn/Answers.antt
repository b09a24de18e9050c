use Rattle.std.proofs.Common.{◌∙◌, sym}
use Rattle.line_codec.specs.Layout.{stored_sizes}
use Rattle.page_slots.specs.declared.desc.Shape.TheVariants.{Slotted}
use Rattle.page_slots.specs.Descs.{content_of}
use Rattle.page_slots.proofs.ContentLemmas.{content_lines}
use Rattle.page_mover.proofs.TurnLemmas.{packed_is, down_is, up_is}
use Rattle.page_mover.proofs.turning.slots_turn.Goals as goal

pub returns-else-target-goal : goal.returns-else-target-goal
returns-else-target-goal c codec sound kept =
    let content = content_of (Slotted c.args.slots) c.args.bytes.now in
    let lines = content_lines codec (Slotted c.args.slots) c.args.bytes.now sound in
    packed_is (stored_sizes codec content) c.args.slots c.in-Packed.order c.in-Packed.target c.args.plan_order c.args.goal c.min-least.result c.max.result c.exceptions.result
    c.chunks_in.result c.chunks_in-in-Packed.result c.exceptions_between-outside.result c.exceptions_between-below.result c.args.bytes.now c.packed_turn.result
    c.in-Packed.is c.min-least.ensures c.max.ensures (c.exceptions.ensures.value codec content lines kept) c.chunks_in.ensures.value c.chunks_in-in-Packed.ensures.value
    c.exceptions_between-outside.ensures.value c.exceptions_between-below.ensures.value c.packed_turn.ensures

pub returns-then-goes_down : goal.returns-then-goes_down
returns-then-goes_down c codec sound kept =
    let content = content_of (Slotted c.args.slots) c.args.bytes.now in
    down_is (stored_sizes codec content) c.args.slots c.in-Mid.order c.in-Mid.small c.in-Mid.large c.in-Mid.at c.exceptions-in-Mid.result c.args.plan_order c.args.goal c.args.bytes.now
    c.in-Mid.is (c.exceptions-in-Mid.ensures.value codec content (content_lines codec (Slotted c.args.slots) c.args.bytes.now sound) kept) (sym c.goes_down.ensures ∙ c.if-goes_down.true)

pub returns-else-goes_down : goal.returns-else-goes_down
returns-else-goes_down c codec sound kept =
    let content = content_of (Slotted c.args.slots) c.args.bytes.now in
    up_is (stored_sizes codec content) c.args.slots c.in-Mid.order c.in-Mid.small c.in-Mid.large c.in-Mid.at c.exceptions-in-Mid.result c.args.plan_order c.args.goal c.args.bytes.now
    c.in-Mid.is (c.exceptions-in-Mid.ensures.value codec content (content_lines codec (Slotted c.args.slots) c.args.bytes.now sound) kept) (sym c.goes_down.ensures ∙ c.if-goes_down.false)
