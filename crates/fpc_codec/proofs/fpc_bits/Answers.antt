use Rattle.std.proofs.Common.{◌≡◌, ◌+◌, length, List, ap, arith, rules}
use Rattle.fpc_codec.specs.declared.codes.Code.{Code}
use Rattle.fpc_codec.specs.Codes.{bit_count, code_bits}
use Rattle.fpc_codec.specs.Least.{least_codes}
use Rattle.fpc_codec.specs.Line.{words_of, codes_of, bits_of}
use Rattle.fpc_codec.proofs.LeastLemmas.{bit_count-low}
use Rattle.fpc_codec.proofs.LineLemmas.{length-words_of}
use Rattle.fpc_codec.proofs.CodesOfLemmas.{least_codes-none, codes_of-least}
use Rattle.fpc_codec.proofs.fpc_bits.Goals as goal

pub loop-code-preserved : goal.loop-code-preserved
unfolding bit_count
loop-code-preserved c =
    let first = c.in-Some.ensures in
    let counts : bit_count (least_codes (words_of c.loop-code.rest.now)) ≡ code_bits c.in-Some.code + bit_count (least_codes (words_of c.in-Some.behind.now)) =
    ap (λ (codes : List Code). bit_count codes) first.first in
    (omega (arith, c.bits-bits.ensures.below, first.shorter), omega (arith, c.loop-code.invariant.1, counts, c.bits-bits.ensures.value))

pub returns-clause-bits : goal.returns-clause-bits
unfolding bit_count bits_of
returns-clause-bits c =
    let none : bit_count (least_codes (words_of c.loop-code.rest.now)) ≡ 0 =
    ap (λ (codes : List Code). bit_count codes) (least_codes-none (words_of c.loop-code.rest.now) c.in_default.ensures.none) in
    omega (arith, none)

pub returns-clause-least_codes : goal.returns-clause-least_codes
returns-clause-least_codes c = codes_of-least c.args.line.now (search rules)

pub returns-clause-at_least : goal.returns-clause-at_least
unfolding bits_of
returns-clause-at_least c =
    let line = c.args.line.now in
    let words : length (words_of line) ≡ 16 = length-words_of 16 line (omega arith) in
    omega (arith, returns-clause-bits c, words, bit_count-low (words_of line) (codes_of line) (returns-clause-least_codes c))
