use Rattle.std.proofs.Common.{◌+◌, ℕ, List, take, get_or, arith}
use Rattle.std.specs.List.{flat_map}
use Rattle.std.proofs.lemmas.List.{append_assoc}
use Rattle.bdi_codec.specs.Bytes.{bytes_of}
use Rattle.bdi_codec.specs.Deltas.{delta_of}
use Rattle.bdi_codec.proofs.BytesLemmas.{flat_map_step}
use Rattle.bdi_codec.proofs.encode.push_deltas.Goals as goal

pub loop-n-preserved : goal.loop-n-preserved
loop-n-preserved c =
    let shape = c.args.shape in
    let piece : ℕ → List ℕ = λ n. bytes_of shape.delta (delta_of (shape.top + 1) shape.half c.args.base n) in
    let before = flat_map piece (take c.loop-n.n-index c.args.elements.now) in
    let step = flat_map_step piece c.args.elements.now c.loop-n.n-index (omega arith) in
    let joined = append_assoc c.args.out.now.items before (piece (get_or c.args.elements.now c.loop-n.n-index 0)) in
    (omega arith, cc)
