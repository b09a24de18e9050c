use Rattle.std.proofs.Common.{◌≡◌, ◌∙◌, ap, replicate, arith}
use Rattle.page_slots.proofs.LaidLemmas.{next_none, laid_none}
use Rattle.page_slots.proofs.laying.lay_lines.Goals as goal

pub loop-line-init : goal.loop-line-init
loop-line-init c = record {
  is_next = omega (arith, next_none c.args.codec c.args.form.large c.args.lines.now);
  laid = laid_none c.args.codec c.args.form c.args.lines.now c.fill.new.self
      (c.fill.ensures.after (λ y h. h) ∙ ap (λ n. replicate n 0) c.requires.is_form.is_size);
}

pub returns : goal.returns
returns c =
    let all : c.loop-line.line ≡ 64 = omega (arith, c.loop-line-test.false, c.loop-line.auto.line-end) in
    rw all at c.loop-line.invariant.laid
