use Rattle.std.proofs.Common.{arith}
use Rattle.sim_survey.proofs.FilledLemmas.{page_is}
use Rattle.sim_survey.proofs.page_bytes.page_at.Goals as goal

pub returns : goal.returns
returns c =
    let kept = c.loop-index.invariant in
    page_is c.args.bytes.now c.args.page c.loop-index.lines c.requires.inside kept.whole (λ k lt. kept.copied k (omega arith))
