use Rattle.std.proofs.Common.{◌∙◌, [], inl, inr, arith}
use Rattle.std.proofs.lemmas.Bool.{cases_eq}
use Rattle.std.proofs.lemmas.List.{length-set, get_or-set_same, get_or-set_other}
use Rattle.hier_types.proofs.TableLemmas.{tabulate-by_index}
use Rattle.page_slots.specs.Descs.{line_of}
use Rattle.page_slots.proofs.desc.Shape.gather.Goals as goal

pub loop-line-preserved : goal.loop-line-preserved
loop-line-preserved c =
    let into = c.loop-line.into in
    let line = c.loop-line.line in
    record {
      whole = length-set into line c.line.new.into ∙ c.loop-line.invariant.whole;
      found = λ i lt. elim (cases_eq i line) [
        | inl e ↦ rw e (get_or-set_same into line c.line.new.into [] (omega (arith, c.loop-line.invariant.whole)) ∙ c.line.ensures)
        | inr ne ↦ get_or-set_other into line i c.line.new.into [] ne ∙ c.loop-line.invariant.found i (omega arith)
      ];
    }

pub returns : goal.returns
returns c =
    tabulate-by_index [] (line_of c.args.self c.args.bytes.now) 64 c.loop-line.into c.loop-line.invariant.whole
    (λ k lt. c.loop-line.invariant.found k (omega arith))
