use Rattle.std.proofs.Common.{ap, length, arith, rules}
use Rattle.fpc_codec.specs.Line.{size_of}
use Rattle.fpc_codec.proofs.PackLemmas.{Means-encoding_of, length-encoding_of}
use Rattle.fpc_codec.proofs.fpc_encode.Goals as goal

pub returns-clause-size : goal.returns-clause-size
unfolding size_of
returns-clause-size c =
    omega (arith, ap length c.packed_codes.ensures, length-encoding_of c.args.line.now, c.fpc_size.ensures.size)

pub returns-clause-reads_back : goal.returns-clause-reads_back
returns-clause-reads_back c =
    λ behind. rw c.packed_codes.ensures (Means-encoding_of c.args.line.now behind (omega arith) (search rules))
