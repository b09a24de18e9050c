use Rattle.std.proofs.Common.{◌≤◌}
use Rattle.std.specs.Io.KnownBytes.{Appends}
use Rattle.hier_types.specs.Lines.{flatten}
use Rattle.hier_types.specs.Tabulate.{tabulate}
use Rattle.page_store.specs.Layouts.{place_in}
use Rattle.hier_cli.specs.Layouts.{text_of_place}
use Rattle.hier_cli.proofs.layouts.print_block.Given as goal

abbrev pub invariant-loop-index : goal.invariant-loop-index
invariant-loop-index g l = record {
  text : Appends (g.O.Sink.written l.fn.out) (g.O.Sink.written l.out) (flatten (tabulate (λ index. text_of_place l.fn.geometry l.fn.page.0 l.fn.base (place_in l.fn.pages l.fn.page.0 index)) l.index));
  faults : g.O.Sink.faults l.fn.out ≤ g.O.Sink.faults l.out;
}
