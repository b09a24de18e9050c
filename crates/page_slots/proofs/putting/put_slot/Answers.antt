use Rattle.std.proofs.Common.{rules, sym, ◌∙◌}
use Rattle.page_slots.proofs.FormLemmas.{slot_in_block}
use Rattle.page_slots.proofs.LineLemmas.{bytes_below}
use Rattle.page_slots.proofs.PutLemmas.{put_in_slot_at}
use Rattle.page_slots.proofs.putting.put_slot.Goals as goal

pub write_slot-requires : goal.write_slot-requires
write_slot-requires c =
    slot_in_block c.args.form _ c.args.line _ _ c.requires.is_form c.requires.line_in c.slot_start-start.ensures.value c.room-room.ensures.value

pub returns-clause-puts : goal.returns-clause-puts
returns-clause-puts c was =
    put_in_slot_at c.args.codec c.args.form c.args.bytes.now c.write_slot.new.bytes c.args.line c.slot_start-start.result c.room-room.result _ c.args.from.now
    c.requires.is_form c.requires.line_in (search rules) (bytes_below c.args.from.now (λ i. search rules)) c.slot_start-start.ensures.value c.room-room.ensures.value c.mark.ensures.value
    (sym c.write_slot.ensures.fits ∙ c.if-not-write_slot.false) c.write_slot.ensures.changes (c.write_slot.ensures.begins (search rules))
