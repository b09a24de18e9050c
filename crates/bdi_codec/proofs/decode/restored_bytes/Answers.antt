use Rattle.std.proofs.Common.{◌≡◌, ◌+◌, ◌-◌, ◌/◌, take, drop, sym, ◌∙◌, arith}
use Rattle.std.proofs.lemmas.List.{append_assoc, append-nil}
use Rattle.bdi_codec.specs.Bytes.{number_of}
use Rattle.bdi_codec.proofs.BytesLemmas.{elements-more, elements-none}
use Rattle.bdi_codec.proofs.DeltaLemmas.{bit_again, mul-one_less}
use Rattle.bdi_codec.proofs.decode.restored_bytes.Goals as goal

pub loop-preserved : goal.loop-preserved
loop-preserved c =
    let shape = c.args.shape in
    let count = 64 / shape.width in
    let more = elements-more (count - c.loop.counter) (count - (c.loop.counter + 1)) shape.delta c.loop.rest.now (omega arith) in
    let kept = rw more at c.loop.invariant.2 in
    let items = c.push_number.ensures.items in
    let bit = bit_again c.loop.mask in
    let front : c.number.result ≡ number_of (take shape.delta c.loop.rest.now) = cc in
    let back : c.split_at.result.1.now ≡ drop shape.delta c.loop.rest.now = c.split_at.ensures.back in
    let value = rw (bit, front) at c.restored-element.ensures in
    let fewer = mul-one_less shape.delta (count - c.loop.counter) (count - (c.loop.counter + 1)) (omega arith) in (
      omega arith,
      omega (arith, fewer, c.split_at.ensures.back_len),
      rw (items, append_assoc, back, value) kept,
    )

pub returns-clause-items : goal.returns-clause-items
returns-clause-items c =
    let none = elements-none (64 / c.args.shape.width - c.loop.counter) c.args.shape.delta c.loop.rest.now (omega arith) in
    let kept = rw none at c.loop.invariant.2 in
    sym (append-nil c.loop.out.items) ∙ kept
