use Rattle.std.proofs.Common.{◌≡◌, ◌∙◌, sym, arith}
use Rattle.page_slots.specs.Lines.{meta, content_at}
use Rattle.page_slots.proofs.FormLemmas.{slot_in_block}
use Rattle.page_slots.proofs.LineLemmas.{exception_of, says_chunk, slot_says_line}
use Rattle.page_slots.proofs.reading.read_line.Goals as goal

pub read_chunk-requires : goal.read_chunk-requires
read_chunk-requires c =
    let bound = exception_of c.requires.has_line.0 c.args.form c.args.bytes.now c.args.line _ c.requires.has_line.1 c.if-byte-ge128.true in
    omega (arith, bound.1, c.requires.is_form.is_size)

pub returns-then-byte-ge128 : goal.returns-then-byte-ge128
returns-then-byte-ge128 c = c.read_chunk.ensures ∙ sym (says_chunk (meta c.args.bytes.now c.args.line) _ _ c.if-byte-ge128.true)

pub read_slot-requires : goal.read_slot-requires
read_slot-requires c =
    slot_in_block c.args.form _ c.args.line _ _ c.requires.is_form c.requires.line_in c.slot_start-start.ensures.value c.room-room.ensures.value

pub returns-in-Some : goal.returns-in-Some
returns-in-Some c =
    let says = slot_says_line c.requires.has_line.0 c.args.form c.args.bytes.now c.args.line _ _ _ c.requires.has_line.1
    c.if-byte-ge128.false c.slot_start-start.ensures.value c.room-room.ensures.value in
    let is = c.read_slot.ensures _ says in
    let same : c.in-Some.found ≡ content_at c.args.form c.args.bytes.now c.args.line = cc (c.in-Some.is, is) in
    same

pub returns-in_default : goal.returns-in_default
returns-in_default c =
    let says = slot_says_line c.requires.has_line.0 c.args.form c.args.bytes.now c.args.line _ _ _ c.requires.has_line.1
    c.if-byte-ge128.false c.slot_start-start.ensures.value c.room-room.ensures.value in
    absurd (c.in_default.not-Some _ (c.read_slot.ensures _ says))
