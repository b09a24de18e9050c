use Rattle.std.proofs.Common.{ap, ℕ, ◌*◌, arith}
use Rattle.page_mover.proofs.KeepLemmas.{laid_front}
use Rattle.page_mover.proofs.making.lay_front.Goals as goal

pub returns : goal.returns
returns c =
    laid_front c.args.codec c.args.order c.args.target _ c.args.lines.now c.args.bytes.now c.lay.new.bytes (ap (λ (n : ℕ). 64 * n) c.chunks_in.ensures.value)
    c.requires.order_in (omega (arith, c.chunks_in.ensures.value, c.requires.size_in)) c.lay.auto.bytes (c.lay.ensures c.args.order)
