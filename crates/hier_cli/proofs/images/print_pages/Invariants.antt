use Rattle.std.proofs.Common.{◌≤◌}
use Rattle.std.specs.Io.KnownBytes.{Appends}
use Rattle.hier_types.specs.Lines.{flatten}
use Rattle.hier_types.specs.Tabulate.{tabulate}
use Rattle.hier_cli.specs.Images.{page_bytes, text_of_page}
use Rattle.hier_cli.proofs.images.print_pages.Given as goal

abbrev pub invariant-loop-number : goal.invariant-loop-number
invariant-loop-number g l = record {
  text : Appends (g.O.Sink.written l.fn.out) (g.O.Sink.written l.out) (flatten (tabulate (λ page. text_of_page l.fn.geometry page (page_bytes l.fn.machine.guest.hart.bytes page)) l.number));
  faults : g.O.Sink.faults l.fn.out ≤ g.O.Sink.faults l.out;
}
