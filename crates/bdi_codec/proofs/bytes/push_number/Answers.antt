use Rattle.std.proofs.Common.{◌-◌, ◌+◌, sym, ◌∙◌, arith}
use Rattle.std.proofs.lemmas.List.{append_assoc, append-nil}
use Rattle.bdi_codec.proofs.BytesLemmas.{bytes_of-more, bytes_of-none}
use Rattle.bdi_codec.proofs.bytes.push_number.Goals as goal

pub loop-preserved : goal.loop-preserved
loop-preserved c =
    let more = bytes_of-more (c.args.count - c.loop.counter) (c.args.count - (c.loop.counter + 1)) c.loop.rest (omega arith) in
    let items = c.push.ensures.items in
    let kept = c.loop.invariant.1 in
    (omega arith, rw (items, append_assoc) (rw more at kept))

pub returns-clause-items : goal.returns-clause-items
returns-clause-items c =
    let none = bytes_of-none (c.args.count - c.loop.counter) c.loop.rest (omega arith) in
    let kept = rw none at c.loop.invariant.1 in
    sym (append-nil c.loop.out.items) ∙ kept
