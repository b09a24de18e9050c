use Rattle.std.proofs.Common.{◌≡◌, ◌<◌, ap, refl, subst, sym, arith, rules}
use Rattle.std.specs.Io.KnownBytes.{Appends}
use Rattle.hier_types.specs.Lines.{flatten}
use Rattle.hier_types.specs.Outside.{AppendsFront}
use Rattle.hier_types.specs.Span.{Span}
use Rattle.hier_types.proofs.StreamLemmas.{appends_nothing}
use Rattle.hier_types.proofs.TableLemmas.{tabulate-none}
use Rattle.hier_cli.specs.Images.{page_bytes, text_of_page}
use Rattle.hier_cli.proofs.ImageLemmas.{text_front, text_more}
use Rattle.hier_cli.proofs.images.print_pages.Goals as goal

pub loop-number-init : goal.loop-number-init
loop-number-init g c =
    let before = g.O.Sink.written c.args.out.now in
    let none = tabulate-none (λ page. text_of_page c.args.geometry page (page_bytes c.args.machine.now.guest.hart.bytes page)) in
    record {
      text = subst (λ bytes. Appends before before bytes) (sym (ap flatten none)) (appends_nothing before before refl);
      faults = omega arith;
    }

pub returns-in-Err-clause-err : goal.returns-in-Err-clause-err
returns-in-Err-clause-err g c =
    let written = g.O.Sink.written in
    let number = c.loop-number.number in
    let pages : c.geometry.inside.pages ≡ c.args.geometry.pages = ap (λ (s : Span). s.pages) c.geometry.view_is in
    let inside : number < c.args.geometry.pages = omega (arith, c.loop-number-test.true, pages) in
    let front : AppendsFront (written c.loop-number.out) (written c.print_page.new.out) (text_of_page c.args.geometry number c.view_page.new.into) = search rules in
    text_front (written c.args.out.now) (written c.loop-number.out) (written c.print_page.new.out)
    (λ page. text_of_page c.args.geometry page (page_bytes c.args.machine.now.guest.hart.bytes page)) number c.args.geometry.pages inside c.loop-number.invariant.text
    (subst (λ bytes. AppendsFront (written c.loop-number.out) (written c.print_page.new.out) (text_of_page c.args.geometry number bytes)) c.view_page.ensures front)

pub loop-number-preserved : goal.loop-number-preserved
loop-number-preserved g c =
    let written = g.O.Sink.written in
    let number = c.loop-number.number in
    let one : Appends (written c.loop-number.out) (written c.print_page.new.out) (text_of_page c.args.geometry number c.view_page.new.into) = search rules in
    record {
      text = text_more (written c.args.out.now) (written c.loop-number.out) (written c.print_page.new.out)
          (λ page. text_of_page c.args.geometry page (page_bytes c.args.machine.now.guest.hart.bytes page)) number c.loop-number.invariant.text
          (subst (λ bytes. Appends (written c.loop-number.out) (written c.print_page.new.out) (text_of_page c.args.geometry number bytes)) c.view_page.ensures one);
      faults = omega (arith, c.loop-number.invariant.faults, c.print_page.ensures.cause.later);
    }
