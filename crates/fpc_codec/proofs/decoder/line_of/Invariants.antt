use Rattle.std.proofs.Common.{◌≡◌, ◌*◌, take}
use Rattle.arrayvec.specs.ArrayVec.{array_vec_len}
use Rattle.fpc_codec.specs.Line.{line_of}
use Rattle.fpc_codec.proofs.decoder.line_of.Given as goal

abbrev pub invariant-loop-word : goal.invariant-loop-word
invariant-loop-word l =
    (array_vec_len l.line ≡ 4 * l.word-index) × (l.line.items ≡ line_of (take l.word-index l.words))
