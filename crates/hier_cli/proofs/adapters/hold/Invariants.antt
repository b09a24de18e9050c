use Rattle.std.proofs.Common.{◌-◌, ◌≤◌, length}
use Rattle.std.specs.Io.KnownBytes.{Keeps, prepend_known}
use Rattle.hier_cli.proofs.adapters.hold.Given as goal

abbrev pub invariant-loop-held : goal.invariant-loop-held
invariant-loop-held g l = record {
  kept : Keeps (prepend_known l.fn.held.items (g.R.Read.remaining l.fn.stream)) (prepend_known l.held.items (g.R.Read.remaining l.stream));
  grown : length l.fn.held.items ≤ length l.held.items;
}

abbrev pub decreases-loop-held : goal.decreases-loop-held
decreases-loop-held g l = l.count - length l.held.items
