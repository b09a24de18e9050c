use Rattle.std.proofs.Common.{◌≡◌, ◌+◌, ◌-◌, ◌*◌, ◌/◌, ◌++◌, length}
use Rattle.std.specs.List.{flat_map}
use Rattle.arrayvec.specs.ArrayVec.{array_vec_len}
use Rattle.bdi_codec.specs.Bytes.{bytes_of, elements}
use Rattle.bdi_codec.specs.Deltas.{restored_all}
use Rattle.bdi_codec.proofs.decode.restored_bytes.Given as goal

abbrev pub invariant-loop : goal.invariant-loop
invariant-loop l =
    let left = 64 / l.shape.width - l.counter in
    (array_vec_len l.out ≡ l.shape.width * l.counter)
    × (length l.rest ≡ l.shape.delta * left)
    × (l.out.items ++ flat_map (bytes_of l.shape.width) (restored_all (l.shape.top + 1) l.shape.half l.base l.mask (elements l.shape.delta left l.rest))
    ≡ flat_map (bytes_of l.shape.width) (restored_all (l.shape.top + 1) l.shape.half l.base l.fn.mask (elements l.shape.delta (64 / l.shape.width) l.deltas)))
