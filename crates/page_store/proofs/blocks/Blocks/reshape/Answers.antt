use Rattle.std.proofs.Common.{◌<◌, length, Option, subst}
use Rattle.buddy_frames.specs.Units.{Place}
use Rattle.page_store.specs.PageBlocks.{block_at}
use Rattle.page_store.specs.Turns.{CanTrim}
use Rattle.page_store.proofs.BlockLemmas.{IsTaken, block_at-get, taken_at, taken_live, taken_reshaped, taken_sound}
use Rattle.page_store.proofs.blocks.Blocks.reshape.Goals as goal
use Rattle.page_store.proofs.blocks.Blocks.reshape.Goals.{After-replace-held}

taken : (c : After-replace-held) → IsTaken c.self.inside.descriptors.items c.args.page c.replace-held.result
taken c =
    let within : c.args.page < length c.self.inside.descriptors.items = rw (← c.self.view_is) at c.requires.page_in in
    taken_at c.self.inside.descriptors.items c.args.page c.index_mut.result.now c.replace-held.result within c.index_mut.ensures.value c.replace-held.ensures.value

pub reshape-requires-clause-live : goal.reshape-requires-clause-live
reshape-requires-clause-live c =
    taken_live c.self.inside.descriptors.items c.self.inside.frames c.args.page c.replace-held.result c.self.invariant (taken (goal.at.reshape-requires-clause-live c).After-replace-held)

pub reshape-requires-clause-can : goal.reshape-requires-clause-can
reshape-requires-clause-can c =
    let can : CanTrim (block_at c.self.inside.descriptors.items c.args.page) c.args.shape = rw (← c.self.view_is) at c.requires.can in
    subst (λ (o : Option Place). CanTrim o c.args.shape)
    (block_at-get c.self.inside.descriptors.items c.args.page c.replace-held.result (taken (goal.at.reshape-requires-clause-can c).After-replace-held).there) can

pub invariant_of-self : goal.invariant_of-self
invariant_of-self c =
    taken_sound c.self.inside.descriptors.items c.self.inside.frames c.args.page c.replace-held.result c.self.invariant (taken (goal.at.invariant_of-self c).After-replace-held)
    c.replace-held.new.dest c.reshape.result c.reshape.new.frames c.reshape.ensures.changes

pub returns-clause-sound : goal.returns-clause-sound
returns-clause-sound c =
    taken_sound c.self.inside.descriptors.items c.self.inside.frames c.args.page c.replace-held.result c.self.invariant (taken (goal.at.returns-clause-sound c).After-replace-held)
    c.replace-held.new.dest c.reshape.result c.reshape.new.frames c.reshape.ensures.changes

pub returns-clause-comes : goal.returns-clause-comes
returns-clause-comes c =
    rw (← c.self.view_is) (taken_reshaped c.self.inside.descriptors.items c.self.inside.frames c.args.page c.replace-held.result c.self.invariant
    (taken (goal.at.returns-clause-comes c).After-replace-held) c.replace-held.new.dest c.reshape.result c.args.shape c.reshape.new.frames
    c.reshape.ensures.shape c.reshape.ensures.changes)
