use Rattle.std.proofs.Common.{◌≡◌, ◌+◌, ◌++◌, take, w32}
use Rattle.std.specs.Int.{to_le_bytes}
use Rattle.arrayvec.specs.ArrayVec.{array_vec_len}
use Rattle.fpc_codec.proofs.decoder.push_word.Given as goal

abbrev pub invariant-loop-byte : goal.invariant-loop-byte
invariant-loop-byte l =
    (array_vec_len l.line ≡ array_vec_len l.fn.line + l.byte-index) × (l.line.items ≡ l.fn.line.items ++ take l.byte-index (to_le_bytes w32 l.word))
