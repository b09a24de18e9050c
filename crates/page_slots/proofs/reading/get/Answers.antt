use Rattle.page_slots.specs.Descs.{shape_of, line_of}
use Rattle.page_slots.proofs.TableLemmas.{tabulate-has}
use Rattle.page_slots.proofs.reading.get.Goals as goal

pub returns : goal.returns
returns c = tabulate-has (line_of (shape_of c.args.desc.now) c.args.bytes.now) 64 c.args.line _ c.requires.line_in (rw c.shape.ensures at c.line.ensures)
