use Rattle.page_mover.proofs.FrontLemmas.{sound_take, sound_front}
use Rattle.page_mover.proofs.tests.turn_in_front.Goals as goal

pub find_turn-turn-requires : goal.find_turn-turn-requires
find_turn-turn-requires c = sound_take c.args.codec c.args.shape c.args.size c.args.bytes.now c.requires.is_size c.requires.sound

pub make_turn-requires-clause-sound : goal.make_turn-requires-clause-sound
make_turn-requires-clause-sound c = sound_take c.args.codec c.args.shape c.args.size c.args.bytes.now c.requires.is_size c.requires.sound

pub returns : goal.returns
returns c = sound_front c.args.codec c.make_turn.result c.make_turn.new.bytes _ c.make_turn.ensures.makes.keeps.sound
