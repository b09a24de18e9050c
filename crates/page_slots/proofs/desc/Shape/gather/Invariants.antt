use Rattle.std.proofs.Common.{◌≡◌, ◌<◌, ℕ, get_or, [], length}
use Rattle.page_slots.specs.Descs.{line_of}
use Rattle.page_slots.proofs.desc.Shape.gather.Given as goal

abbrev pub invariant-loop-line : goal.invariant-loop-line
invariant-loop-line l = record {
  whole : length l.into ≡ 64;
  found : (i : ℕ) → i < l.line → get_or l.into i [] ≡ line_of l.fn.self l.fn.bytes i;
}
