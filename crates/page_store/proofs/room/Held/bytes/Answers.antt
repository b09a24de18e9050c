use Rattle.page_store.proofs.HeldLemmas.{block_part}
use Rattle.page_store.proofs.room.Held.bytes.Goals as goal

pub returns : goal.returns
returns c = block_part c.args.self c.start-at.result c.size-size.result c.args.memory.now c.start-at.ensures.value c.size-size.ensures.value
