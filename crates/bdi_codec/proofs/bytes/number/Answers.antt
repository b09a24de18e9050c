use Rattle.std.proofs.Common.{◌-◌, length, refl, arith}
use Rattle.std.proofs.Math.Nat.{sub_self}
use Rattle.std.proofs.Math.Seq.{drop-length}
use Rattle.bdi_codec.proofs.BytesLemmas.{shifted_fits, shifted-lt, number_of-drop}
use Rattle.bdi_codec.proofs.bytes.number.Goals as goal

pub loop-place-init : goal.loop-place-init
loop-place-init c = (rw drop-length refl, rw sub_self (omega arith))

pub overflow_mul-n : goal.overflow_mul-n
overflow_mul-n c =
    omega (arith, shifted_fits c.loop-place.n (length c.args.bytes.now - c.loop-place.place) c.loop-place.invariant.1 (omega arith))

pub overflow_add-n : goal.overflow_add-n
overflow_add-n c =
    omega (
      arith,
      c.type_inv.bytes (c.loop-place.place - 1),
      shifted_fits c.loop-place.n (length c.args.bytes.now - c.loop-place.place) c.loop-place.invariant.1 (omega arith),
    )

pub loop-place-preserved : goal.loop-place-preserved
loop-place-preserved c =
    let place = c.loop-place.place in
    let more = number_of-drop c.args.bytes.now (place - 1) place (omega arith) (omega arith) in
    let value = c.from.ensures in (
      omega (arith, more),
      shifted-lt c.loop-place.n c.from.result (length c.args.bytes.now - place) (length c.args.bytes.now - (place - 1)) c.loop-place.invariant.1 (omega (arith, c.type_inv.bytes (place - 1))) (omega arith),
    )
