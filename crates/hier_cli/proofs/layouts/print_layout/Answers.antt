use Rattle.std.proofs.Common.{◌≡◌, ◌<◌, ap, refl, subst, sym, arith, rules}
use Rattle.std.specs.Io.KnownBytes.{Appends}
use Rattle.hier_types.specs.Lines.{flatten}
use Rattle.hier_types.specs.Outside.{AppendsFront}
use Rattle.hier_types.specs.Span.{Span}
use Rattle.hier_types.proofs.StreamLemmas.{appends_nothing}
use Rattle.hier_types.proofs.TableLemmas.{tabulate-none}
use Rattle.hier_cli.specs.Layouts.{text_of_places}
use Rattle.hier_cli.proofs.ImageLemmas.{text_front, text_more}
use Rattle.hier_cli.proofs.layouts.print_layout.Goals as goal

pub loop-number-init : goal.loop-number-init
loop-number-init g c =
    let before = g.O.Sink.written c.args.out.now in
    let none = tabulate-none (text_of_places c.args.geometry c.args.pages.now) in
    record {
      text = subst (λ bytes. Appends before before bytes) (sym (ap flatten none)) (appends_nothing before before refl);
      faults = omega arith;
    }

pub returns-in-Err-clause-err : goal.returns-in-Err-clause-err
returns-in-Err-clause-err g c =
    let written = g.O.Sink.written in
    let number = c.loop-number.number in
    let pages : c.geometry.inside.pages ≡ c.args.geometry.pages = ap (λ (s : Span). s.pages) c.geometry.view_is in
    let inside : number < c.args.geometry.pages = omega (arith, c.loop-number-test.true, pages) in
    let front : AppendsFront (written c.loop-number.out) (written c.print_places.new.out) (text_of_places c.args.geometry c.args.pages.now number) = search rules in
    text_front (written c.args.out.now) (written c.loop-number.out) (written c.print_places.new.out)
    (text_of_places c.args.geometry c.args.pages.now) number c.args.geometry.pages inside c.loop-number.invariant.text front

pub loop-number-preserved : goal.loop-number-preserved
loop-number-preserved g c =
    let written = g.O.Sink.written in
    let number = c.loop-number.number in
    let one : Appends (written c.loop-number.out) (written c.print_places.new.out) (text_of_places c.args.geometry c.args.pages.now number) = search rules in
    record {
      text = text_more (written c.args.out.now) (written c.loop-number.out) (written c.print_places.new.out)
          (text_of_places c.args.geometry c.args.pages.now) number c.loop-number.invariant.text one;
      faults = omega (arith, c.loop-number.invariant.faults, c.print_places.ensures.cause.later);
    }
