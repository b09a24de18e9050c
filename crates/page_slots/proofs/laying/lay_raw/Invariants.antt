use Rattle.std.proofs.Common.{◌≡◌, ◌<◌, ℕ, get_or, [], length}
use Rattle.page_slots.specs.Lines.{chunk}
use Rattle.page_slots.proofs.laying.lay_raw.Given as goal

abbrev pub invariant-loop-line : goal.invariant-loop-line
invariant-loop-line l = record {
  whole : length l.bytes ≡ 4096;
  laid : (i : ℕ) → i < l.line → chunk l.bytes i ≡ get_or l.lines i [];
}
