use Rattle.page_mover.proofs.KeepLemmas.{halved_at}
use Rattle.page_mover.proofs.making.halve.Goals as goal

pub returns-clause-keeps : goal.returns-clause-keeps
returns-clause-keeps c = halved_at c.args.codec c.args.slots c.in-Packed.order c.in-Packed.target c.args.bytes.now c.in-Packed.is c.requires.sound c.requires.can
