use Rattle.buddy_frames.proofs.CountLemmas.{count_blocks, count_beyond}
use Rattle.buddy_frames.proofs.frames.Frames.free.Goals as goal

pub returns-then-order-gt3 : goal.returns-then-order-gt3
returns-then-order-gt3 c = count_beyond _ _ c.if-order-gt3.true

pub returns : goal.returns
returns c = count_blocks _ _ _ c.if-order-gt3.false c.index-index.ensures.indexed.counts
