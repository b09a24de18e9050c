use Rattle.std.proofs.Common.{◌≡◌, ◌+◌, ◌-◌, ◌∙◌, take, drop, ap, arith}
use Rattle.sim_survey.proofs.FilledLemmas.{past_end, line_from_part}
use Rattle.sim_survey.proofs.page_bytes.line_from.Goals as goal

pub returns-then-first-bytes : goal.returns-then-first-bytes
returns-then-first-bytes c = past_end c.args.bytes.now c.args.first (omega (arith, c.if-first-bytes.true))

pub returns : goal.returns
returns c =
    let bytes = c.args.bytes.now in
    let first = c.args.first in
    let count = c.min-count.result in
    let size : first + count - first ≡ count = omega arith in
    line_from_part bytes first count c.copy_from_slice.new.self (omega (arith, c.if-first-bytes.false)) c.min-count.ensures
    (c.copy_from_slice.ensures.after ∙ ap (λ n. take n (drop first bytes)) size)
