use Rattle.std.proofs.Common.{◌≡◌, ◌-◌, ◌+◌, ◌/◌, ◌<◌, ◌^◌, take, drop, ◌∙◌, sym, arith}
use Rattle.std.proofs.lemmas.List.{append_assoc, append-nil}
use Rattle.std.proofs.lemmas.List.Elements.{All-push}
use Rattle.bdi_codec.specs.Bytes.{number_of}
use Rattle.bdi_codec.proofs.BytesLemmas.{elements-more, elements-none}
use Rattle.bdi_codec.proofs.elements.elements.Goals as goal

pub loop-preserved : goal.loop-preserved
loop-preserved c =
    let more = elements-more (64 / c.args.width - c.loop.counter) (64 / c.args.width - (c.loop.counter + 1)) c.args.width c.loop.rest.now (omega arith) in
    let items = c.push.ensures.items in
    let kept = rw more at c.loop.invariant.2 in
    let front : c.number.result ≡ number_of (take c.args.width c.loop.rest.now) = cc in
    let back : c.split_at.result.1.now ≡ drop c.args.width c.loop.rest.now = c.split_at.ensures.back in (
      omega arith,
      omega (arith, c.split_at.ensures.back_len),
      rw (items, append_assoc, back, front) kept,
      rw items (All-push (λ n. n < 256 ^ c.args.width) c.loop.out.items c.number.result c.loop.invariant.3 (let e = c.number.ensures.below in rw c.split_at.ensures.front_len at e)),
    )

pub returns-clause-value : goal.returns-clause-value
returns-clause-value c =
    let none = elements-none (64 / c.args.width - c.loop.counter) c.args.width c.loop.rest.now (omega arith) in
    let kept = rw none at c.loop.invariant.2 in
    sym (append-nil c.loop.out.items) ∙ kept
