use Rattle.std.proofs.Common.{◌≡◌, ◌-◌, ◌≤◌, ◌++◌, length, replicate}
use Rattle.fpc_codec.specs.Line.{words_of}
use Rattle.fpc_codec.proofs.scanner.zero_words.Given as goal

abbrev pub invariant-loop-count : goal.invariant-loop-count
invariant-loop-count l =
    (words_of l.bytes ≡ replicate l.count 0 ++ words_of l.rest) × (l.count ≤ 7) × (length l.rest ≤ length l.bytes)

abbrev pub decreases-loop-count : goal.decreases-loop-count
decreases-loop-count l = 7 - l.count
