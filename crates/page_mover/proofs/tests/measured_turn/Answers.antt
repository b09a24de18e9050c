use Rattle.std.specs.Prelude.{take}
use Rattle.page_mover.proofs.FrontLemmas.{measured_take, measured_next}
use Rattle.page_mover.proofs.tests.measured_turn.Goals as goal

pub turn_by-turn-requires : goal.turn_by-turn-requires
turn_by-turn-requires c =
    (c.args.codec, measured_take c.args.codec c.args.shape c.args.size c.args.bytes.now c.args.plan c.args.sizes.now c.requires.is_size c.requires.measured)

pub make_turn-requires-clause-sound : goal.make_turn-requires-clause-sound
make_turn-requires-clause-sound c = (measured_take c.args.codec c.args.shape c.args.size c.args.bytes.now c.args.plan c.args.sizes.now c.requires.is_size c.requires.measured).sound

pub make_turn-requires-clause-turn : goal.make_turn-requires-clause-turn
make_turn-requires-clause-turn c =
    c.turn_by-turn.ensures c.args.codec (measured_take c.args.codec c.args.shape c.args.size c.args.bytes.now c.args.plan c.args.sizes.now c.requires.is_size c.requires.measured)

pub returns : goal.returns
returns c =
    measured_next c.args.codec c.args.shape c.make_turn.result (take c.args.size c.args.bytes.now) c.make_turn.new.bytes _ c.args.plan c.args.sizes.now
    (measured_take c.args.codec c.args.shape c.args.size c.args.bytes.now c.args.plan c.args.sizes.now c.requires.is_size c.requires.measured) c.make_turn.ensures.makes.keeps
