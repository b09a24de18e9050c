use Rattle.std.proofs.Common.{◌≡◌, ◌+◌, ◌-◌, ◌*◌, ◌++◌, length, replicate}
use Rattle.std.specs.List.{concat}
use Rattle.arrayvec.specs.ArrayVec.{array_vec_len}
use Rattle.bdi_codec.proofs.decode.push_copies.Given as goal

abbrev pub invariant-loop : goal.invariant-loop
invariant-loop l =
    (array_vec_len l.out ≡ array_vec_len l.fn.out + length l.bytes * l.counter)
    × (l.out.items ++ concat (replicate (l.count - l.counter) l.bytes) ≡ l.fn.out.items ++ concat (replicate l.count l.bytes))
