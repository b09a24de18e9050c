use Rattle.std.proofs.Common.{◌≡◌, ◌<◌, ℕ, length, get_or}
use Rattle.sample_lines.specs.Words.{byte_of}
use Rattle.sample_lines.proofs.lines.rising.Given as goal

abbrev pub invariant-loop-index : goal.invariant-loop-index
invariant-loop-index l = record {
  whole : length l.line ≡ 64;
  written : (k : ℕ) → k < l.index → get_or l.line k 0 ≡ byte_of l.first l.step k;
}
