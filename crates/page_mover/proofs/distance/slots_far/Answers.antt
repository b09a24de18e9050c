use Rattle.std.proofs.Common.{◌∙◌, sym}
use Rattle.line_codec.specs.Layout.{stored_sizes}
use Rattle.page_slots.specs.declared.desc.Shape.TheVariants.{Slotted}
use Rattle.page_slots.specs.Descs.{content_of}
use Rattle.page_slots.proofs.ContentLemmas.{content_lines}
use Rattle.page_mover.proofs.TurnLemmas.{down_far, up_far}
use Rattle.page_mover.proofs.distance.slots_far.Goals as goal

pub returns-then-goes_down : goal.returns-then-goes_down
returns-then-goes_down c codec sound kept =
    let content = content_of (Slotted c.args.slots) c.args.bytes.now in
    down_far (stored_sizes codec content) c.args.slots c.in-Mid.order c.in-Mid.small c.in-Mid.large c.in-Mid.at c.exceptions.result c.args.plan_order c.args.goal c.rest.result c.args.bytes.now
    c.in-Mid.is (c.exceptions.ensures.value codec content (content_lines codec (Slotted c.args.slots) c.args.bytes.now sound) kept) (sym c.goes_down.ensures ∙ c.if-goes_down.true) c.rest.ensures.value

pub returns-else-goes_down : goal.returns-else-goes_down
returns-else-goes_down c codec sound kept =
    let content = content_of (Slotted c.args.slots) c.args.bytes.now in
    up_far (stored_sizes codec content) c.args.slots c.in-Mid.order c.in-Mid.small c.in-Mid.large c.in-Mid.at c.exceptions.result c.args.plan_order c.args.goal c.rest-else-goes_down.result c.args.bytes.now
    c.in-Mid.is (c.exceptions.ensures.value codec content (content_lines codec (Slotted c.args.slots) c.args.bytes.now sound) kept) (sym c.goes_down.ensures ∙ c.if-goes_down.false) c.rest-else-goes_down.ensures.value
