use Rattle.std.proofs.Common.{◌≡◌, ◌-◌, ◌+◌, ◌++◌}
use Rattle.arrayvec.specs.ArrayVec.{array_vec_len}
use Rattle.bdi_codec.specs.Bytes.{bytes_of}
use Rattle.bdi_codec.proofs.bytes.push_number.Given as goal

abbrev pub invariant-loop : goal.invariant-loop
invariant-loop l =
    (array_vec_len l.out ≡ array_vec_len l.fn.out + l.counter)
    × (l.out.items ++ bytes_of (l.count - l.counter) l.rest ≡ l.fn.out.items ++ bytes_of l.count l.n)
