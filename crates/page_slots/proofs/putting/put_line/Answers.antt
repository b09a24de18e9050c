use Rattle.page_slots.proofs.PutLemmas.{free_is_place}
use Rattle.page_slots.proofs.putting.put_line.Goals as goal

pub returns-clause-overflow : goal.returns-clause-overflow
returns-clause-overflow c = (
  (λ e. cc),
  (λ over. absurd (free_is_place c.args.codec c.args.form c.args.bytes.now c.put_slot.new.bytes c.args.line c.args.from.now c.in-Some.number
      (c.put_slot.ensures.unchanged c.if-put_slot.false) c.in-Some.ensures over)),
)
