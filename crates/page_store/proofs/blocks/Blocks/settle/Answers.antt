use Rattle.std.proofs.Common.{◌≡◌, ◌<◌, length, refl, set}
use Rattle.page_slots.specs.declared.desc.Desc.{Desc}
use Rattle.std.proofs.lemmas.Option.{slice_get_read}
use Rattle.page_store.proofs.BlockLemmas.{IsTaken, stays_at, taken_at, taken_live, taken_comes, taken_sound, put_back, taken_lacks}
use Rattle.page_store.proofs.blocks.Blocks.settle.Goals as goal
use Rattle.page_store.proofs.blocks.Blocks.settle.Goals.{After-replace-held}

taken : (c : After-replace-held) → IsTaken c.self.inside.descriptors.items c.args.page c.replace-held.result
taken c =
    let within : c.args.page < length c.self.inside.descriptors.items = rw (← c.self.view_is) at c.requires in
    taken_at c.self.inside.descriptors.items c.args.page c.index_mut.result.now c.replace-held.result within c.index_mut.ensures.value c.replace-held.ensures.value

pub settle-requires : goal.settle-requires
settle-requires c =
    taken_live c.self.inside.descriptors.items c.self.inside.frames c.args.page c.replace-held.result c.self.invariant (taken (goal.at.settle-requires c).After-replace-held)

pub invariant_of-self : goal.invariant_of-self
invariant_of-self c =
    taken_sound c.self.inside.descriptors.items c.self.inside.frames c.args.page c.replace-held.result c.self.invariant (taken (goal.at.invariant_of-self c).After-replace-held)
    c.replace-held.new.dest c.in-Ok.desc c.settle.new.frames c.in-Ok.ensures.changes

pub returns-in-Ok-clause-sound : goal.returns-in-Ok-clause-sound
returns-in-Ok-clause-sound c =
    taken_sound c.self.inside.descriptors.items c.self.inside.frames c.args.page c.replace-held.result c.self.invariant (taken (goal.at.returns-in-Ok-clause-sound c).After-replace-held)
    c.replace-held.new.dest c.in-Ok.desc c.settle.new.frames c.in-Ok.ensures.changes

pub returns-in-Ok-clause-ok : goal.returns-in-Ok-clause-ok
returns-in-Ok-clause-ok c =
    rw (← c.self.view_is) (taken_comes c.self.inside.descriptors.items c.self.inside.frames c.args.page c.replace-held.result c.self.invariant
    (taken (goal.at.returns-in-Ok-clause-ok c).After-replace-held) c.replace-held.new.dest c.in-Ok.desc c.args.plan c.settle.new.frames
    c.in-Ok.ensures.at_plan c.in-Ok.ensures.changes)

back : (c : After-replace-held) (kept : Desc) → kept ≡ c.replace-held.result → set (set c.self.inside.descriptors.items c.args.page c.replace-held.new.dest) c.args.page kept ≡ c.self.inside.descriptors.items
back c kept same = put_back c.self.inside.descriptors.items c.self.inside.frames c.args.page c.replace-held.result c.self.invariant (taken c) c.replace-held.new.dest kept same

pub invariant_of-self-in-Err : goal.invariant_of-self-in-Err
invariant_of-self-in-Err c = rw (back (goal.at.invariant_of-self-in-Err c).After-replace-held c.in-Err.no_place.held c.in-Err.ensures.back, c.in-Err.ensures.unchanged) c.self.invariant

pub returns-in-Err-clause-sound : goal.returns-in-Err-clause-sound
returns-in-Err-clause-sound c = rw (back (goal.at.returns-in-Err-clause-sound c).After-replace-held c.in-Err.no_place.held c.in-Err.ensures.back, c.in-Err.ensures.unchanged) c.self.invariant

pub returns-in-Err-clause-err : goal.returns-in-Err-clause-err
returns-in-Err-clause-err c =
    rw (← c.self.view_is) (taken_lacks c.self.inside.descriptors.items c.self.inside.frames c.args.page c.replace-held.result c.self.invariant
    (taken (goal.at.returns-in-Err-clause-err c).After-replace-held) c.args.plan c.in-Err.no_place.order c.in-Err.ensures.order c.in-Err.ensures.none c.in-Err.ensures.outgrown)

pub returns-in-Err-clause-unchanged : goal.returns-in-Err-clause-unchanged
returns-in-Err-clause-unchanged c =
    rw (← c.self.view_is, back (goal.at.returns-in-Err-clause-unchanged c).After-replace-held c.in-Err.no_place.held c.in-Err.ensures.back, c.in-Err.ensures.unchanged) refl

pub returns-then-is_at-clause-ok : goal.returns-then-is_at-clause-ok
returns-then-is_at-clause-ok c =
    let ds = c.self.inside.descriptors.items in
    let within : c.args.page < length ds = rw (← c.self.view_is) at c.requires in
    let there = slice_get_read ds (length ds) c.args.page c.index.result.now refl within c.index.ensures in
    rw (← c.self.view_is) (stays_at ds c.self.inside.frames c.args.page c.index.result.now c.args.plan c.self.invariant there (c.is_at.ensures.0 c.if-is_at.true))
