use Rattle.page_mover.proofs.FrontLemmas.{sound_take, sound_whole}
use Rattle.page_mover.proofs.tests.put_in_front.Goals as goal

pub put-requires-clause-sound : goal.put-requires-clause-sound
put-requires-clause-sound c = sound_take c.args.codec c.args.shape c.args.size c.args.bytes.now c.requires.is_size c.requires.sound

pub returns : goal.returns
returns c = sound_whole c.args.codec c.args.shape c.put.new.bytes _ c.put.ensures.sound
