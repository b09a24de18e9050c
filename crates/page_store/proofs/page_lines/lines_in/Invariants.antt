use Rattle.std.proofs.Common.{◌≡◌, ◌*◌, ◌<◌, ℕ, [], length, get_or, take, drop}
use Rattle.page_store.proofs.page_lines.lines_in.Given as goal

abbrev pub invariant-loop-index : goal.invariant-loop-index
invariant-loop-index l = record {
  whole : length l.page ≡ 64;
  copied : (k : ℕ) → k < l.index → get_or l.page k [] ≡ take 64 (drop (64 * k) l.bytes);
}
