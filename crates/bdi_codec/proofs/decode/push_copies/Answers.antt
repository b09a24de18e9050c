use Rattle.std.proofs.Common.{◌-◌, ◌+◌, sym, ◌∙◌, arith}
use Rattle.std.proofs.lemmas.List.{append_assoc, append-nil}
use Rattle.bdi_codec.proofs.BytesLemmas.{copies-more, copies-none}
use Rattle.bdi_codec.proofs.decode.push_copies.Goals as goal

pub loop-preserved : goal.loop-preserved
loop-preserved c =
    let more = copies-more (c.args.count - c.loop.counter) (c.args.count - (c.loop.counter + 1)) c.args.bytes.now (omega arith) in
    let items = c.push_bytes.ensures.items in
    let kept = rw more at c.loop.invariant.1 in
    (omega arith, rw (items, append_assoc) kept)

pub returns-clause-items : goal.returns-clause-items
returns-clause-items c =
    let none = copies-none (c.args.count - c.loop.counter) c.args.bytes.now (omega arith) in
    let kept = rw none at c.loop.invariant.1 in
    sym (append-nil c.loop.out.items) ∙ kept
