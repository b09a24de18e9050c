use Rattle.page_store.proofs.BlockLemmas.{fresh_sound}
use Rattle.page_store.proofs.blocks.Blocks.new.Goals as goal

pub invariant_of-result : goal.invariant_of-result
invariant_of-result c = rw c.in_ok-descriptors.ensures (fresh_sound c.args.pages c.in_ok-frames.frames c.in_ok-frames.ensures.free)

pub returns-clause-sound : goal.returns-clause-sound
returns-clause-sound c = rw c.in_ok-descriptors.ensures (fresh_sound c.args.pages c.in_ok-frames.frames c.in_ok-frames.ensures.free)
