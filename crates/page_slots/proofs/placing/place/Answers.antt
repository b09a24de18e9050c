use Rattle.std.proofs.Common.{◌≡◌, ◌∙◌, sym}
use Rattle.page_slots.specs.declared.desc.Shape.TheVariants.{Slotted}
use Rattle.page_slots.specs.Descs.{shape_of, line_of}
use Rattle.page_slots.specs.Forms.{form_of}
use Rattle.page_slots.proofs.PlaceLemmas.{slotted_uses, raw_uses}
use Rattle.page_slots.proofs.placing.place.Goals as goal

pub returns-in-Raw-clause-used : goal.returns-in-Raw-clause-used
returns-in-Raw-clause-used c codec sound =
    raw_uses codec (line_of (shape_of c.args.desc.now) c.args.bytes.now) c.args.bytes.now c.args.index c.raw_place.result c.raw_place.ensures

pub returns-in-Slotted-clause-used : goal.returns-in-Slotted-clause-used
returns-in-Slotted-clause-used c codec sound =
    let is : shape_of c.args.desc.now ≡ Slotted c.in-Slotted.slots = sym c.shape.ensures ∙ c.in-Slotted.is in
    let slotted = rw is at sound in
    let value = rw c.form.ensures.value at c.slotted_place.ensures in
    rw is (slotted_uses codec (form_of c.in-Slotted.slots) c.args.bytes.now c.args.index c.slotted_place.result value slotted.lines)
