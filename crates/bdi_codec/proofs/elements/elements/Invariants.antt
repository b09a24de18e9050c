use Rattle.std.proofs.Common.{◌≡◌, ◌+◌, ◌-◌, ◌*◌, ◌/◌, ◌^◌, ◌<◌, ◌++◌, length, All}
use Rattle.arrayvec.specs.ArrayVec.{array_vec_len}
use Rattle.bdi_codec.specs.Bytes.{elements}
use Rattle.bdi_codec.proofs.elements.elements.Given as goal

abbrev pub invariant-loop : goal.invariant-loop
invariant-loop l =
    (array_vec_len l.out ≡ l.counter)
    × (length l.rest + l.width * l.counter ≡ 64)
    × (l.out.items ++ elements l.width (64 / l.width - l.counter) l.rest ≡ elements l.width (64 / l.width) l.line)
    × All (λ n. n < 256 ^ l.width) l.out.items
