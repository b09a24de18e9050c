use Rattle.page_slots.specs.Lines.{content_at}
use Rattle.page_slots.proofs.FormLemmas.{slot_in_block}
use Rattle.page_slots.proofs.LineLemmas.{slot_says_line}
use Rattle.page_slots.proofs.placing.line_place.Goals as goal

pub slot_used-requires-clause-inside : goal.slot_used-requires-clause-inside
slot_used-requires-clause-inside c =
    slot_in_block c.args.form _ c.args.line _ _ c.requires.is_form c.requires.line_in c.slot_start-start.ensures.value c.room-room.ensures.value

pub slot_used-requires-clause-says : goal.slot_used-requires-clause-says
slot_used-requires-clause-says c = (
  content_at c.args.form c.args.bytes.now c.args.line,
  slot_says_line c.requires.has_line.0 c.args.form c.args.bytes.now c.args.line _ _ _ c.requires.has_line.1
      c.if-byte-ge128.false c.slot_start-start.ensures.value c.room-room.ensures.value,
)
