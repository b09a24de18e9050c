use Rattle.buddy_frames.specs.Units.{AreApart, IsUsedPlace}
use Rattle.buddy_frames.proofs.MoveLemmas.{AreApart-swap}
use Rattle.buddy_frames.proofs.tests.one_frame_of_blocks.Goals as goal

pub resize-requires : goal.resize-requires
resize-requires g c = c.in-Some-take.ensures.keeps _ c.in-Some.ensures.live

pub resize-requires-2 : goal.resize-requires-2
resize-requires-2 g c =
    let apart : AreApart c.in-Some-take.second c.in-Some.first = c.in-Some-take.ensures.apart _ c.in-Some.ensures.live in
    c.in-None.ensures.keeps _ (c.in-Ok-resize.ensures.keeps _ c.in-Some-take.ensures.live (AreApart-swap _ _ apart))

pub give-requires : goal.give-requires
give-requires g c = c.in-Err.ensures.live

pub give-requires-2 : goal.give-requires-2
give-requires-2 g c =
    let before : AreApart c.in-Some-take.second c.in-Some.first = c.in-Some-take.ensures.apart _ c.in-Some.ensures.live in
    let apart : AreApart c.in-Ok-resize.third c.in-Some-take.second = c.in-Ok-resize.ensures.apart _ c.in-Some-take.ensures.live (AreApart-swap _ _ before) in
    let kept : IsUsedPlace c.take-3.new.self c.in-Ok-resize.third = c.in-None.ensures.keeps _ c.in-Ok-resize.ensures.live in
    let still : IsUsedPlace c.resize-2.new.self c.in-Ok-resize.third = c.in-Err.ensures.keeps _ kept (AreApart-swap _ _ apart) in
    c.give.ensures.keeps _ still (rw c.in-Err.ensures.same (AreApart-swap _ _ apart))
