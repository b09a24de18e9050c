use Rattle.std.proofs.Common.{arith}
use Rattle.std.proofs.lemmas.Result.{on_err_weaker}
use Rattle.page_store.proofs.ChangeLemmas.{trimmed_gets, grown_or_same, none_grown}
use Rattle.page_store.proofs.page_block.reorder.Goals as goal

pub returns-then-order-clause-gets : goal.returns-then-order-clause-gets
returns-then-order-clause-gets c =
    let ends = c.trim.ensures in
    trimmed_gets c.args.frames.now c.args.block c.args.order c.trim.result c.trim.new.self (omega arith) ends.first ends.freed ends.after ends.units ends.live ends.keeps ends.apart

pub returns-clause-gets : goal.returns-clause-gets
returns-clause-gets c =
    let ends = c.resize.ensures in
    grown_or_same c.args.frames.now c.args.block c.args.order c.resize.result c.resize.new.self (omega arith) ends.freed ends.ok ends.live ends.keeps ends.apart

pub returns-clause-none : goal.returns-clause-none
returns-clause-none c = on_err_weaker c.resize.result (λ none. none_grown c.args.frames.now c.args.block c.args.order c.resize.ensures.freed none) c.resize.ensures.none
