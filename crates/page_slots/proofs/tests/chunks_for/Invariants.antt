use Rattle.std.proofs.Common.{◌≡◌, ◌≤◌, ◌+◌}
use Rattle.page_slots.specs.Laid.{next_chunk}
use Rattle.page_slots.proofs.tests.chunks_for.Given as goal

abbrev pub invariant-loop-index : goal.invariant-loop-index
invariant-loop-index l = record {
  count : l.chunks ≡ next_chunk l.fn.codec l.fn.target l.fn.lines l.index;
  most : l.chunks ≤ 1 + l.fn.target + l.index;
}
