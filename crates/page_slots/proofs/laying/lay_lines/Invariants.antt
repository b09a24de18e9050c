use Rattle.std.proofs.Common.{◌≡◌}
use Rattle.page_slots.specs.Laid.{next_chunk, LaidUpTo}
use Rattle.page_slots.proofs.laying.lay_lines.Given as goal

abbrev pub invariant-loop-line : goal.invariant-loop-line
invariant-loop-line l = record {
  is_next : l.next ≡ next_chunk l.fn.codec l.fn.form.large l.lines l.line;
  laid : LaidUpTo l.fn.codec l.fn.form l.lines l.line l.bytes;
}
