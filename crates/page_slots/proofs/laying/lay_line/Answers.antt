use Rattle.std.proofs.Common.{rules, ◌∙◌, sym, arith}
use Rattle.page_slots.proofs.LaidLemmas.{next_same, next_more, next_below, laid_slot, laid_chunk}
use Rattle.page_slots.proofs.laying.lay_line.Goals as goal

pub returns-then-put_slot-clause-is_next : goal.returns-then-put_slot-clause-is_next
returns-then-put_slot-clause-is_next c =
    c.requires.is_next ∙ sym (next_same c.args.codec c.args.form c.args.lines.now c.args.line c.requires.line_in (search rules) c.requires.flat
    (sym c.put_slot.ensures.fits ∙ c.if-put_slot.true))

pub returns-then-put_slot-clause-laid : goal.returns-then-put_slot-clause-laid
returns-then-put_slot-clause-laid c =
    laid_slot c.args.codec c.args.form c.args.lines.now c.args.line c.args.bytes.now c.put_slot.new.bytes c.requires.line_in (search rules) c.requires.flat
    (sym c.put_slot.ensures.fits ∙ c.if-put_slot.true) c.requires.laid (c.put_slot.ensures.puts c.if-put_slot.true) (c.put_slot.ensures.value c.if-put_slot.true)

pub put_chunk-requires-clause-below : goal.put_chunk-requires-clause-below
put_chunk-requires-clause-below c =
    rw c.requires.is_next (next_below c.args.codec c.args.form c.args.lines.now c.args.line c.requires.line_in (search rules) c.requires.flat
    (sym c.put_slot.ensures.fits ∙ c.if-put_slot.false) c.requires.room)

pub returns-clause-is_next : goal.returns-clause-is_next
returns-clause-is_next c =
    rw c.requires.is_next (sym (next_more c.args.codec c.args.form c.args.lines.now c.args.line c.requires.line_in (search rules) c.requires.flat
    (sym c.put_slot.ensures.fits ∙ c.if-put_slot.false)))

pub returns-clause-laid : goal.returns-clause-laid
returns-clause-laid c =
    let unfit = sym c.put_slot.ensures.fits ∙ c.if-put_slot.false in
    let same = c.put_slot.ensures.unchanged c.if-put_slot.false in
    let below = next_below c.args.codec c.args.form c.args.lines.now c.args.line c.requires.line_in (search rules) c.requires.flat unfit c.requires.room in
    let puts = rw same at (c.put_chunk.ensures.puts c.args.codec unfit) in
    laid_chunk c.args.codec c.args.form c.args.lines.now c.args.line c.args.next c.args.bytes.now c.put_chunk.new.bytes c.requires.line_in (search rules) c.requires.flat
    c.requires.is_next (omega (arith, below, c.requires.is_next, c.requires.is_form.few)) unfit c.requires.laid puts (rw same at c.put_chunk.ensures.value)
