use Rattle.std.proofs.Common.{refl}
use Rattle.run_report.specs.declared.end.End.TheVariants.{OutFault}
use Rattle.hier_cli.specs.Images.{image_of}
use Rattle.hier_cli.proofs.NoticeLemmas.{is_written}
use Rattle.hier_cli.proofs.images.run_for_image.Goals as goal

pub returns-clause-ends : goal.returns-clause-ends
returns-clause-ends g c =
    let last = c.in-Ok.ran.machine in
    let own = c.in-Ok.ran.end in
    let printed = c.print_pages-printed.ensures in
    rw c.notice.ensures (record {
      last = last;
      own = own;
      ran = c.in-Ok.ensures.ok;
      count = refl;
      printed = is_written _ _ _ _ (image_of c.args.settings.now.geometry last) own OutFault c.print_pages-printed.result printed.ok printed.err printed.cause;
    })
