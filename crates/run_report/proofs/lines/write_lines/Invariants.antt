use Rattle.std.proofs.Common.{◌≤◌, take}
use Rattle.std.specs.Io.KnownBytes.{Appends}
use Rattle.hier_types.specs.Lines.{flatten}
use Rattle.run_report.specs.TextLines.{texts_of}
use Rattle.run_report.proofs.lines.write_lines.Given as goal

abbrev pub invariant-loop-line : goal.invariant-loop-line
invariant-loop-line g l = record {
  appends : Appends (g.N.Sink.written l.fn.note) (g.N.Sink.written l.note) (flatten (texts_of (take l.line-index l.lines)));
  later : g.N.Sink.faults l.fn.note ≤ g.N.Sink.faults l.note;
}
