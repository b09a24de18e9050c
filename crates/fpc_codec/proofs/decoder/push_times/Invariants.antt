use Rattle.std.proofs.Common.{◌≡◌, ◌+◌, ◌++◌, replicate}
use Rattle.arrayvec.specs.ArrayVec.{array_vec_len}
use Rattle.fpc_codec.proofs.decoder.push_times.Given as goal

abbrev pub invariant-loop : goal.invariant-loop
invariant-loop l =
    (array_vec_len l.out ≡ array_vec_len l.fn.out + l.counter) × (l.out.items ≡ l.fn.out.items ++ replicate l.counter l.word)
