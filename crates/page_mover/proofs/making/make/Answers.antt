use Rattle.page_mover.proofs.NeedLemmas.{zeros_stay}
use Rattle.page_mover.proofs.making.make.Goals as goal

pub returns-in-Zero : goal.returns-in-Zero
returns-in-Zero c = zeros_stay c.args.codec c.args.shape c.args.turn c.args.bytes.now c.in-Zero.is c.requires.sound c.requires.turn
