use Rattle.std.proofs.Common.{◌≡◌, ◌+◌, ◌*◌, ◌++◌, take}
use Rattle.std.specs.List.{flat_map}
use Rattle.arrayvec.specs.ArrayVec.{array_vec_len}
use Rattle.bdi_codec.specs.Bytes.{bytes_of}
use Rattle.bdi_codec.specs.Deltas.{delta_of}
use Rattle.bdi_codec.proofs.encode.push_deltas.Given as goal

abbrev pub invariant-loop-n : goal.invariant-loop-n
invariant-loop-n l =
    (array_vec_len l.out ≡ array_vec_len l.fn.out + l.shape.delta * l.n-index)
    × (l.out.items ≡ l.fn.out.items ++ flat_map (λ n. bytes_of l.shape.delta (delta_of (l.shape.top + 1) l.shape.half l.base n)) (take l.n-index l.elements))
