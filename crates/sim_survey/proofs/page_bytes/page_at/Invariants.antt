use Rattle.std.proofs.Common.{◌≡◌, ◌+◌, ◌*◌, ◌<◌, ℕ, [], length, get_or}
use Rattle.sim_survey.specs.Filled.{line_at}
use Rattle.sim_survey.proofs.page_bytes.page_at.Given as goal

abbrev pub invariant-loop-index : goal.invariant-loop-index
invariant-loop-index l = record {
  whole : length l.lines ≡ 64;
  copied : (k : ℕ) → k < l.index → get_or l.lines k [] ≡ line_at l.bytes (4096 * l.page + 64 * k);
}
