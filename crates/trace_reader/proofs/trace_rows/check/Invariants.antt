use Rattle.std.proofs.Common.{◌≡◌, None, ◌+◌, ◌≤◌, ◌^◌, length}
use Rattle.trace_reader.specs.Rows.{numbered_rows}
use Rattle.trace_reader.specs.Trace.{accesses_of, first_fault, rows_left}
use Rattle.trace_reader.proofs.trace_rows.check.Given as goal

abbrev pub invariant-loop-count : goal.invariant-loop-count
invariant-loop-count l = record {
  span : l.rows.span ≡ l.fn.geometry;
  sound : l.rows.fault ≡ None;
  faults : first_fault l.fn.geometry (numbered_rows 1 l.fn.bytes) ≡ first_fault l.fn.geometry (rows_left l.rows);
  counts : length (accesses_of l.fn.geometry (numbered_rows 1 l.fn.bytes)) ≡ l.count + length (accesses_of l.fn.geometry (rows_left l.rows));
  fits : l.count + length (rows_left l.rows) ≤ 2 ^ 63;
}

abbrev pub decreases-loop-count : goal.decreases-loop-count
decreases-loop-count l = length (rows_left l.rows)
