use Rattle.page_slots.specs.Lines.{content_at}
use Rattle.page_slots.proofs.HoistLemmas.{hoisted}
use Rattle.page_slots.proofs.LineLemmas.{unfit_at}
use Rattle.page_slots.proofs.moving.hoist_line.Goals as goal

pub returns-clause-lines : goal.returns-clause-lines
returns-clause-lines c codec has =
    let lines = content_at c.args.form c.args.bytes.now in
    hoisted codec c.args.form c.args.line c.args.number c.read_line.new.into c.args.bytes.now c.put_chunk.new.bytes lines
    c.requires.line_in c.read_line.ensures has c.requires.free
    (c.put_chunk.ensures.puts codec (unfit_at codec c.args.form c.args.bytes.now c.args.line lines _ c.read_line.ensures has c.requires.line_in c.requires.is_exception))
