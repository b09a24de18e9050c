use Rattle.std.proofs.Common.{length}
use Rattle.fpc_codec.specs.Least.{least_codes}
use Rattle.fpc_codec.specs.Line.{words_of, codes_of}
use Rattle.fpc_codec.proofs.PackLemmas.{IsWritten}
use Rattle.fpc_codec.proofs.encoder.packed_codes.Given as goal

abbrev pub invariant-loop-code : goal.invariant-loop-code
invariant-loop-code l =
    IsWritten (codes_of l.line) (least_codes (words_of l.rest)) l.writer.bytes.items l.writer.count l.writer.pending

abbrev pub decreases-loop-code : goal.decreases-loop-code
decreases-loop-code l = length l.rest
