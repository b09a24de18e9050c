use Rattle.std.proofs.Common.{◌≡◌, arith, rules}
use Rattle.fpc_codec.specs.Codes.{payload_bits}
use Rattle.fpc_codec.specs.Line.{words_of}
use Rattle.fpc_codec.proofs.LeastLemmas.{least_run}
use Rattle.fpc_codec.proofs.LineLemmas.{words_of-lt}
use Rattle.fpc_codec.proofs.CodesOfLemmas.{least_codes-first, least_codes-word}
use Rattle.fpc_codec.proofs.scanner.first_code.Goals as goal

pub returns-then-word-ne0-clause-first : goal.returns-then-word-ne0-clause-first
returns-then-word-ne0-clause-first c =
    let bytes = c.args.bytes.now in
    least_codes-word (words_of bytes) c.in-Some.word c.least_for.result (words_of c.in-Some.behind.now)
    (words_of-lt bytes (search rules)) c.if-word-ne0.true c.in-Some.ensures.first c.least_for.ensures

pub returns-clause-first : goal.returns-clause-first
returns-clause-first c =
    let bytes = c.args.bytes.now in
    let zero : c.in-Some.word ≡ 0 = omega arith in
    let run = c.zero_words-more.ensures in
    least_codes-first (words_of bytes) _ _ (words_of-lt bytes (search rules))
    (least_run (words_of bytes) (words_of c.in-Some.behind.now) _ c.zero_words-more.result.0 (rw zero at c.in-Some.ensures.first) run.words run.below run.longest)

pub returns-clause-is_code : goal.returns-clause-is_code
unfolding payload_bits
returns-clause-is_code c = omega (arith, c.zero_words-more.ensures.below)
