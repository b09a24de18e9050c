use Rattle.page_store.proofs.ChangeLemmas.{taken_gets, none_taken}
use Rattle.page_store.proofs.page_block.block_for.Goals as goal

pub returns-in-Some-clause-gets : goal.returns-in-Some-clause-gets
returns-in-Some-clause-gets c =
    let ends = c.in-Some.ensures in
    let gets = taken_gets c.args.frames.now c.args.order c.in-Some.block c.take.new.self ends.some ends.live ends.keeps ends.apart in
    rw c.in-Zero.is gets

pub returns-in-None-clause-none : goal.returns-in-None-clause-none
returns-in-None-clause-none c = rw c.in-Zero.is (none_taken c.args.frames.now c.args.order c.in-None.ensures.none)
