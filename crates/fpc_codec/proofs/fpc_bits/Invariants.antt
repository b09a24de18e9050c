use Rattle.std.proofs.Common.{◌≡◌, ◌+◌, ◌*◌, ◌≤◌, length}
use Rattle.fpc_codec.specs.Codes.{bit_count}
use Rattle.fpc_codec.specs.Least.{least_codes}
use Rattle.fpc_codec.specs.Line.{words_of, codes_of}
use Rattle.fpc_codec.proofs.fpc_bits.Given as goal

abbrev pub invariant-loop-code : goal.invariant-loop-code
invariant-loop-code l =
    (4 * l.bits + 35 * length l.rest ≤ 35 * length l.line) × (l.bits + bit_count (least_codes (words_of l.rest)) ≡ bit_count (codes_of l.line))

abbrev pub decreases-loop-code : goal.decreases-loop-code
decreases-loop-code l = length l.rest
