use Rattle.std.proofs.Common.{◌∙◌, sym, subst, ap, ℕ, List}
use Rattle.std.specs.Prelude.{slice_set}
use Rattle.page_slots.specs.Descs.{content_of}
use Rattle.page_slots.specs.Puts.{GoesRight, Overflows}
use Rattle.page_slots.specs.Sound.{IsSound}
use Rattle.page_store.specs.Rooms.{bytes_of}
use Rattle.page_store.proofs.HeldLemmas.{block_part, block_there}
use Rattle.page_store.proofs.room.Held.put.Goals as goal

pub put-requires-clause-sound : goal.put-requires-clause-sound
put-requires-clause-sound c =
    let before = block_part c.args.self c.start-at.result c.size-size.result c.args.memory.now c.start-at.ensures.value c.size-size.ensures.value in
    subst (IsSound c.args.codec c.args.self.shape) (sym before) c.requires.sound

pub returns-clause-content : goal.returns-clause-content
returns-clause-content c done =
    let before = block_part c.args.self c.start-at.result c.size-size.result c.args.memory.now c.start-at.ensures.value c.size-size.ensures.value in
    let after = block_there c.args.self c.start-at.result c.size-size.result c.args.memory.now c.put.new.bytes c.start-at.ensures.value c.size-size.ensures.value c.requires.within c.put.auto.bytes in
    ap (content_of c.args.self.shape) after ∙ c.put.ensures.content done
    ∙ ap (λ (b : List ℕ). slice_set (content_of c.args.self.shape b) c.args.line c.args.from.now) before

pub returns-clause-right : goal.returns-clause-right
returns-clause-right c done =
    let before = block_part c.args.self c.start-at.result c.size-size.result c.args.memory.now c.start-at.ensures.value c.size-size.ensures.value in
    let after = block_there c.args.self c.start-at.result c.size-size.result c.args.memory.now c.put.new.bytes c.start-at.ensures.value c.size-size.ensures.value c.requires.within c.put.auto.bytes in
    subst (GoesRight c.args.codec c.args.self.shape c.args.line c.args.from.now (bytes_of c.args.memory.now c.args.self)) (sym after)
    (subst (λ (b : List ℕ). GoesRight c.args.codec c.args.self.shape c.args.line c.args.from.now b c.put.new.bytes) before (c.put.ensures.right done))

pub returns-clause-overflow : goal.returns-clause-overflow
returns-clause-overflow c =
    let before = block_part c.args.self c.start-at.result c.size-size.result c.args.memory.now c.start-at.ensures.value c.size-size.ensures.value in (
      λ over. subst (λ (b : List ℕ). Overflows c.args.codec c.args.self.shape b c.args.line c.args.from.now) before (c.put.ensures.overflow.0 over),
      λ none. c.put.ensures.overflow.1 (subst (λ (b : List ℕ). Overflows c.args.codec c.args.self.shape b c.args.line c.args.from.now) (sym before) none),
    )
