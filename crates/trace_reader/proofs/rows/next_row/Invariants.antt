use Rattle.std.proofs.Common.{◌≡◌, ◌+◌, ◌≤◌, length}
use Rattle.trace_reader.specs.Rows.{numbered_rows}
use Rattle.trace_reader.proofs.rows.next_row.Given as goal

abbrev pub invariant-loop-left : goal.invariant-loop-left
invariant-loop-left l = record {
  rows : numbered_rows l.number l.left ≡ numbered_rows l.fn.number l.fn.left;
  fits : l.number + length l.left ≤ l.fn.number + length l.fn.left;
}

abbrev pub decreases-loop-left : goal.decreases-loop-left
decreases-loop-left l = length l.left
