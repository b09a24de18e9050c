use Rattle.page_mover.proofs.CallLemmas.{hoist_call_falls, hoist_call_keeps}
use Rattle.page_mover.proofs.calls.hoist.Goals as goal

pub returns-clause-sound : goal.returns-clause-sound
returns-clause-sound c =
    (hoist_call_keeps c.args.codec c.args.desc.now c.shape-shape.result c.make_turn.result c.find_turn-turn.result c.args.bytes.now c.make_turn.new.bytes
    c.shape-shape.ensures c.find_turn-turn.ensures c.requires.told c.requires.sound c.make_turn.auto.bytes c.make_turn.ensures.makes.makes c.make_turn.ensures.makes.keeps).0

pub returns-clause-content : goal.returns-clause-content
returns-clause-content c =
    (hoist_call_keeps c.args.codec c.args.desc.now c.shape-shape.result c.make_turn.result c.find_turn-turn.result c.args.bytes.now c.make_turn.new.bytes
    c.shape-shape.ensures c.find_turn-turn.ensures c.requires.told c.requires.sound c.make_turn.auto.bytes c.make_turn.ensures.makes.makes c.make_turn.ensures.makes.keeps).1

pub returns-clause-falls : goal.returns-clause-falls
returns-clause-falls c =
    hoist_call_falls c.args.codec c.args.desc.now c.shape-shape.result c.make_turn.result c.find_turn-turn.result c.args.bytes.now c.make_turn.new.bytes
    c.shape-shape.ensures c.find_turn-turn.ensures c.requires.told c.requires.sound c.make_turn.auto.bytes c.make_turn.ensures.makes.makes c.make_turn.ensures.falls
