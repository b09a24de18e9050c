use Rattle.std.proofs.Common.{◌∙◌, ◌<◌, sym, subst, ap, ℕ, List}
use Rattle.page_mover.specs.Far.{far_of}
use Rattle.page_mover.specs.Moves.{MakesTurn, body}
use Rattle.page_mover.specs.Turns.{turn_of}
use Rattle.page_slots.specs.Sound.{IsSound}
use Rattle.page_store.specs.Rooms.{bytes_of}
use Rattle.page_store.proofs.HeldLemmas.{block_part, block_there}
use Rattle.page_store.proofs.room.Held.turn.Goals as goal

pub make_turn-requires-clause-sound : goal.make_turn-requires-clause-sound
make_turn-requires-clause-sound c =
    let before = block_part c.args.self c.start-at.result c.size-size.result c.args.memory.now c.start-at.ensures.value c.size-size.ensures.value in
    subst (IsSound c.args.codec c.args.self.shape) (sym before) c.requires.sound

pub make_turn-requires-clause-turn : goal.make_turn-requires-clause-turn
make_turn-requires-clause-turn c =
    let before = block_part c.args.self c.start-at.result c.size-size.result c.args.memory.now c.start-at.ensures.value c.size-size.ensures.value in
    c.requires.turn ∙ ap (turn_of c.args.codec c.args.self.shape) (sym before)

pub returns-clause-makes : goal.returns-clause-makes
returns-clause-makes c =
    let before = block_part c.args.self c.start-at.result c.size-size.result c.args.memory.now c.start-at.ensures.value c.size-size.ensures.value in
    let after = block_there c.args.self c.start-at.result c.size-size.result c.args.memory.now c.make_turn.new.bytes c.start-at.ensures.value c.size-size.ensures.value c.requires.within c.make_turn.auto.bytes in
    subst (MakesTurn c.args.codec c.args.self.shape (bytes_of c.args.memory.now c.args.self) c.args.turn c.make_turn.result) (sym after)
    (subst (λ (b : List ℕ). MakesTurn c.args.codec c.args.self.shape b c.args.turn c.make_turn.result c.make_turn.new.bytes) before c.make_turn.ensures.makes)

pub returns-clause-falls : goal.returns-clause-falls
returns-clause-falls c off =
    let before = block_part c.args.self c.start-at.result c.size-size.result c.args.memory.now c.start-at.ensures.value c.size-size.ensures.value in
    let after = block_there c.args.self c.start-at.result c.size-size.result c.args.memory.now c.make_turn.new.bytes c.start-at.ensures.value c.size-size.ensures.value c.requires.within c.make_turn.auto.bytes in
    subst (λ (b : List ℕ). far_of c.args.codec c.make_turn.result (body c.make_turn.result b) < far_of c.args.codec c.args.self.shape (bytes_of c.args.memory.now c.args.self)) (sym after)
    (subst (λ (b : List ℕ). far_of c.args.codec c.make_turn.result (body c.make_turn.result c.make_turn.new.bytes) < far_of c.args.codec c.args.self.shape b) before (c.make_turn.ensures.falls off))
