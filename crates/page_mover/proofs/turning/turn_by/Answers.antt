use Rattle.page_slots.specs.Descs.{content_of}
use Rattle.page_mover.proofs.TurnLemmas.{goal_is}
use Rattle.page_mover.proofs.turning.turn_by.Goals as goal

pub slots_turn-requires-clause-goal : goal.slots_turn-requires-clause-goal
slots_turn-requires-clause-goal c =
    goal_is c.requires.0 (content_of c.args.shape c.args.bytes.now) c.args.plan c.in-Slotted-Packed.order c.in-Slotted-Packed.target c.in-Slotted-Packed.exceptions-1
    c.in-Slotted-Packed.is-1 c.requires.1.plan_is
