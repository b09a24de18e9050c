use Rattle.page_mover.proofs.FrontLemmas.{sound_whole}
use Rattle.page_mover.proofs.tests.lay_in_front.Goals as goal

pub returns : goal.returns
returns c = sound_whole c.args.codec c.args.shape c.lay.new.bytes _ c.lay.ensures.sound
