use Rattle.page_slots.specs.Lines.{content_at}
use Rattle.page_slots.proofs.StepLemmas.{moved_lines}
use Rattle.page_slots.proofs.moving.move_line.Goals as goal

pub returns-clause-lines : goal.returns-clause-lines
returns-clause-lines c =
    moved_lines c.args.codec c.args.after c.args.bytes.now c.put_line.new.bytes c.args.line c.read_line.new.into (content_at c.args.before c.args.bytes.now) c.put_line.result
    c.read_line.ensures c.requires.others c.put_line.ensures.done c.put_line.ensures.overflow.0 c.requires.has_place
