use Rattle.std.proofs.Common.{◌≡◌, ◌-◌, ◌+◌, ◌≤◌, length, get_or, if◌then◌else◌, Bool, ap, ◌∙◌, arith}
use Rattle.bdi_codec.specs.Deltas.{is_small}
use Rattle.bdi_codec.proofs.DeltaLemmas.{doubled_fits, doubled-lt, large_bit, mask_of-drop}
use Rattle.bdi_codec.proofs.encode.mask.Goals as goal

pub overflow_mul-mask : goal.overflow_mul-mask
overflow_mul-mask c =
    omega (arith, doubled_fits c.loop-place.mask (length c.args.elements.now - c.loop-place.place) c.loop-place.invariant.1 (omega arith))

pub overflow_add-mask : goal.overflow_add-mask
overflow_add-mask c =
    let room = doubled_fits c.loop-place.mask (length c.args.elements.now - c.loop-place.place) c.loop-place.invariant.1 (omega arith) in
    let bit = c.from-bit.ensures in
    grind arith

pub loop-place-preserved : goal.loop-place-preserved
loop-place-preserved c =
    let shape = c.args.shape in
    let es = c.args.elements.now in
    let place = c.loop-place.place in
    let small = is_small (shape.top + 1) shape.half (get_or es (place - 1) 0) in
    let bit : c.from-bit.result ≡ (if small then 0 else 1) = c.from-bit.ensures ∙ large_bit c.is_small.result ∙ ap (λ (b : Bool). if b then 0 else 1) c.is_small.ensures in
    let one : c.from-bit.result ≤ 1 = grind arith in
    let more = mask_of-drop (shape.top + 1) shape.half es (place - 1) place (omega arith) (omega arith) in (
      omega (arith, more, bit),
      doubled-lt c.loop-place.mask c.from-bit.result (length es - place) (length es - (place - 1)) c.loop-place.invariant.1 one (omega arith),
    )
