use Rattle.std.proofs.Common.{◌<◌, List, ℕ, ap, refl, subst, sym, arith, rules}
use Rattle.std.specs.Io.KnownBytes.{Appends}
use Rattle.hier_types.specs.Lines.{flatten}
use Rattle.hier_types.specs.Outside.{AppendsFront}
use Rattle.hier_types.specs.Span.{Span}
use Rattle.hier_types.proofs.StreamLemmas.{appends_nothing}
use Rattle.hier_types.proofs.TableLemmas.{tabulate-none}
use Rattle.page_store.specs.Layouts.{place_in}
use Rattle.page_store.specs.Store.{Store}
use Rattle.hier_cli.specs.Layouts.{text_of_place}
use Rattle.hier_cli.proofs.ImageLemmas.{text_front, text_more}
use Rattle.hier_cli.proofs.layouts.print_block.Goals as goal

-- the text of the place of an index
abbrev text_at : Span → Store → ℕ → ℕ → ℕ → List ℕ
text_at span store page base index = text_of_place span page base (place_in store page index)

pub loop-index-init : goal.loop-index-init
loop-index-init g c =
    let before = g.O.Sink.written c.args.out.now in
    let none = tabulate-none (text_at c.args.geometry c.args.pages.now c.args.page.0 c.args.base) in
    record {
      text = subst (λ bytes. Appends before before bytes) (sym (ap flatten none)) (appends_nothing before before refl);
      faults = omega arith;
    }

pub returns-in-Err-clause-err : goal.returns-in-Err-clause-err
returns-in-Err-clause-err g c =
    let written = g.O.Sink.written in
    let index = c.loop-index.index in
    let inside : index < 66 = omega (arith, c.loop-index-test.true) in
    let front : AppendsFront (written c.loop-index.out) (written c.print_place.new.out) (text_at c.args.geometry c.args.pages.now c.args.page.0 c.args.base index) = search rules in
    text_front (written c.args.out.now) (written c.loop-index.out) (written c.print_place.new.out)
    (text_at c.args.geometry c.args.pages.now c.args.page.0 c.args.base) index 66 inside c.loop-index.invariant.text front

pub loop-index-preserved : goal.loop-index-preserved
loop-index-preserved g c =
    let written = g.O.Sink.written in
    let index = c.loop-index.index in
    let one : Appends (written c.loop-index.out) (written c.print_place.new.out) (text_at c.args.geometry c.args.pages.now c.args.page.0 c.args.base index) = search rules in
    record {
      text = text_more (written c.args.out.now) (written c.loop-index.out) (written c.print_place.new.out)
          (text_at c.args.geometry c.args.pages.now c.args.page.0 c.args.base) index c.loop-index.invariant.text one;
      faults = omega (arith, c.loop-index.invariant.faults, c.print_place.ensures.cause.later);
    }
