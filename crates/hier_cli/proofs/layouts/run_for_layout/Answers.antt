use Rattle.std.proofs.Common.{OnErr, OnOk, refl, subst}
use Rattle.std.specs.Io.KnownBytes.{Appends}
use Rattle.hier_machine.specs.Memory.{store_of}
use Rattle.hier_types.specs.Outside.{AppendsFront}
use Rattle.page_store.proofs.LayoutLemmas.{laid_out}
use Rattle.page_store.specs.Store.{Store}
use Rattle.run_report.specs.declared.end.End.TheVariants.{OutFault}
use Rattle.hier_cli.specs.Layouts.{layout_of, layout_text}
use Rattle.hier_cli.proofs.NoticeLemmas.{is_written}
use Rattle.hier_cli.proofs.layouts.run_for_layout.Goals as goal

pub returns-clause-ends : goal.returns-clause-ends
returns-clause-ends g c =
    let written = g.O.Sink.written in
    let last = c.in-Ok.ran.machine in
    let own = c.in-Ok.ran.end in
    let span = c.args.settings.now.geometry in
    let answer = c.print_layout-printed.result in
    let printed = c.print_layout-printed.ensures in
    let ok = subst (λ (s : Store). OnOk answer (Appends (written c.args.out.now) (written c.print_layout-printed.new.out) (layout_text span s))) c.pages.ensures printed.ok in
    let err = subst (λ (s : Store). OnErr answer (AppendsFront (written c.args.out.now) (written c.print_layout-printed.new.out) (layout_text span s))) c.pages.ensures printed.err in
    rw c.notice.ensures (record {
      printed = record {
        last = last;
        own = own;
        ran = c.in-Ok.ensures.ok;
        count = refl;
        printed = is_written _ _ _ _ (layout_of span last) own OutFault answer ok err printed.cause;
      };
      laid_out = laid_out (store_of last.memory) c.in-Ok.ensures.ok.ran.sound;
    })
