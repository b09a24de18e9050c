use Rattle.std.proofs.Common.{rules, [], sym, arith}
use Rattle.hier_types.specs.Lines.{zero_line}
use Rattle.hier_types.proofs.TableLemmas.{tabulate-by_index}
use Rattle.page_slots.proofs.desc.Shape.lay.Goals as goal

pub returns-in-Zero-clause-content : goal.returns-in-Zero-clause-content
returns-in-Zero-clause-content c =
    let zeros = rw c.in-Zero.is at c.requires in
    rw c.in-Zero.is (sym (tabulate-by_index [] (λ i. zero_line) 64 c.args.lines.now (search rules) (λ k lt. zeros.1 k [] (omega (arith, c.told-lines)))))

pub returns-in-Raw-clause-value : goal.returns-in-Raw-clause-value
returns-in-Raw-clause-value c = rw c.in-Raw.is (c.lay_raw.ensures.value c.args.codec)
