use Rattle.std.proofs.Common.{◌≡◌, ◌∙◌, ◌+◌, ◌*◌, ◌++◌, slice_get, Some, take, drop, sym, ap, arith}
use Rattle.std.proofs.Math.Seq.{take-length}
use Rattle.hier_types.specs.Lines.{flatten}
use Rattle.hier_machine.proofs.MemoryLemmas.{next_line}
use Rattle.hier_machine.proofs.page_view.view_page.Goals as goal

pub loop-index-preserved : goal.loop-index-preserved
loop-index-preserved g c =
    let lines = g.B.Layer.content c.args.layer.now in
    let i = c.loop-index.index in
    let at : c.args.page.0 * 64 + i ≡ 64 * c.args.page.0 + i = omega arith in
    let line : slice_get lines (64 * c.args.page.0 + i) ≡ Some c.view.new.into = ap (λ n. slice_get lines n) (sym at) ∙ c.view.ensures in
    record {
      len = c.put_line.ensures.len;
      front = c.put_line.ensures.front ∙ ap (λ front. front ++ c.view.new.into) c.loop-index.invariant.front ∙ next_line lines c.args.page.0 i c.view.new.into c.lines-count.ensures.whole line;
    }

pub returns : goal.returns
returns g c =
    let into = c.loop-index.into in
    let end : c.loop-index.index ≡ 64 = omega (arith, c.loop-index.auto.index-end, c.loop-index-test.false) in
    sym (take-length into) ∙ ap (λ n. take n into) c.loop-index.invariant.len ∙ ap (λ i. take (64 * i) into) (sym end) ∙ c.loop-index.invariant.front
    ∙ ap (λ i. take (64 * i) (drop (4096 * c.args.page.0) (flatten (g.B.Layer.content c.args.layer.now)))) end
