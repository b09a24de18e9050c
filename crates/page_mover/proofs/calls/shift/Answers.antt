use Rattle.page_slots.specs.Descs.{shape_of}
use Rattle.page_mover.proofs.CallLemmas.{shift_call_block, shift_call_falls, shift_call_keeps}
use Rattle.page_mover.proofs.calls.shift.Goals as goal

pub with_slots-requires : goal.with_slots-requires
with_slots-requires c =
    shift_call_block c.args.codec c.args.desc c.shape-shape.result c.make_turn.result c.in-Slotted.slots c.find_turn-turn.result c.args.bytes.now c.make_turn.new.bytes
    c.shape-shape.ensures c.find_turn-turn.ensures c.requires.told c.in-Slotted.is c.make_turn.ensures.makes.makes

pub returns-clause-sound : goal.returns-clause-sound
returns-clause-sound c =
    (shift_call_keeps c.args.codec c.args.desc c.shape-shape.result c.make_turn.result (shape_of c.with_slots.result) c.in-Slotted.slots c.find_turn-turn.result c.args.bytes.now c.make_turn.new.bytes
    c.shape-shape.ensures c.find_turn-turn.ensures c.requires.told c.in-Slotted.is c.with_slots.ensures.shape c.requires.sound c.make_turn.auto.bytes
    c.make_turn.ensures.makes.makes c.make_turn.ensures.makes.keeps).0

pub returns-clause-content : goal.returns-clause-content
returns-clause-content c =
    (shift_call_keeps c.args.codec c.args.desc c.shape-shape.result c.make_turn.result (shape_of c.with_slots.result) c.in-Slotted.slots c.find_turn-turn.result c.args.bytes.now c.make_turn.new.bytes
    c.shape-shape.ensures c.find_turn-turn.ensures c.requires.told c.in-Slotted.is c.with_slots.ensures.shape c.requires.sound c.make_turn.auto.bytes
    c.make_turn.ensures.makes.makes c.make_turn.ensures.makes.keeps).1

pub returns-clause-falls : goal.returns-clause-falls
returns-clause-falls c =
    shift_call_falls c.args.codec c.args.desc c.shape-shape.result c.make_turn.result (shape_of c.with_slots.result) c.in-Slotted.slots c.find_turn-turn.result c.args.bytes.now c.make_turn.new.bytes
    c.shape-shape.ensures c.find_turn-turn.ensures c.requires.told c.in-Slotted.is c.with_slots.ensures.shape c.requires.sound c.make_turn.auto.bytes
    c.make_turn.ensures.makes.makes c.make_turn.ensures.falls
