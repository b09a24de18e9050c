use Rattle.std.proofs.Common.{rules, ◌≡◌, arith}
use Rattle.page_slots.specs.Forms.{packed_form}
use Rattle.page_slots.proofs.LaidLemmas.{laid_by}
use Rattle.page_slots.proofs.laying.lay.Goals as goal

pub returns : goal.returns
returns c order is_size =
    let same : c.form_in-form.result ≡ packed_form order c.args.target = c.form_in-form.ensures order is_size in
    laid_by c.args.codec order c.args.target c.args.lines.now _ c.lay_lines.new.bytes c.requires.is_target is_size c.lay_lines.auto.bytes
    (omega (arith, c.requires.room, is_size.1)) (search rules) (rw same at c.lay_lines.ensures)
