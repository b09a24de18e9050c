use Rattle.page_mover.proofs.FallLemmas.{falls}
use Rattle.page_mover.proofs.making.make_turn.Goals as goal

pub returns-clause-falls : goal.returns-clause-falls
returns-clause-falls c some =
    falls c.args.codec c.args.shape c.args.bytes.now c.args.turn c.make.result c.make.new.bytes c.requires.turn some c.requires.sound
    c.make.ensures.makes c.make.ensures.keeps
