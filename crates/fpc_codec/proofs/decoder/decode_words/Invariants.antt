use Rattle.std.proofs.Common.{◌+◌, ◌-◌, ◌*◌, ◌≤◌, length}
use Rattle.arrayvec.specs.ArrayVec.{array_vec_len}
use Rattle.fpc_codec.specs.Bits.{joined, number_of}
use Rattle.fpc_codec.proofs.AlongLemmas.{Along}
use Rattle.fpc_codec.proofs.decoder.decode_words.Given as goal

abbrev pub invariant-loop-reader : goal.invariant-loop-reader
invariant-loop-reader l =
    (array_vec_len l.out ≤ 16)
    × Along (number_of l.bytes) (8 * length l.bytes) (joined l.reader.count l.reader.pending (number_of l.reader.rest.now)) (l.reader.count + 8 * length l.reader.rest.now) l.out.items

abbrev pub decreases-loop-reader : goal.decreases-loop-reader
decreases-loop-reader l = 16 - array_vec_len l.out
