use Rattle.std.proofs.Common.{◌≡◌, ◌+◌, ◌-◌, ◌∙◌, get_or, ap, arith}
use Rattle.byte_parts.proofs.PartLemmas.{parts_same}
use Rattle.byte_parts.proofs.parts.move_part.Goals as goal

pub returns-clause-there : goal.returns-clause-there
returns-clause-there c =
    parts_same c.args.to c.args.from c.args.count _ c.args.store.now (omega (arith, c.copy_within.ensures.len)) (omega arith)
    (λ k d below.
    let e : c.args.from + (c.args.to + k - c.args.to) ≡ c.args.from + k = omega arith in
    c.copy_within.ensures.by_index.0 (c.args.to + k) d (omega arith) (omega arith) ∙ ap (λ i. get_or c.args.store.now i d) e)
