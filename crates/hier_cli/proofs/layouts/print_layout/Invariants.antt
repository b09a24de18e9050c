use Rattle.std.proofs.Common.{◌≤◌}
use Rattle.std.specs.Io.KnownBytes.{Appends}
use Rattle.hier_types.specs.Lines.{flatten}
use Rattle.hier_types.specs.Tabulate.{tabulate}
use Rattle.hier_cli.specs.Layouts.{text_of_places}
use Rattle.hier_cli.proofs.layouts.print_layout.Given as goal

abbrev pub invariant-loop-number : goal.invariant-loop-number
invariant-loop-number g l = record {
  text : Appends (g.O.Sink.written l.fn.out) (g.O.Sink.written l.out) (flatten (tabulate (text_of_places l.fn.geometry l.fn.pages) l.number));
  faults : g.O.Sink.faults l.fn.out ≤ g.O.Sink.faults l.out;
}
