use Rattle.std.proofs.Common.{◌≡◌, ◌≤◌}
use Rattle.page_slots.specs.Chunks.{count_in}
use Rattle.page_slots.proofs.moving.exceptions_between.Given as goal

abbrev pub invariant-loop-line : goal.invariant-loop-line
invariant-loop-line l = record {
  value : l.count ≡ count_in l.low l.high l.bytes l.line;
  most : l.count ≤ l.line;
}
