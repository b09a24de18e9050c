use Rattle.std.proofs.Common.{length-set}
use Rattle.recency.proofs.LevelLemmas.{length-overlay, touch_sound, touch_same, viewed, copied_kept}
use Rattle.l2_cache.proofs.l2.L2.hit.Goals as goal

pub invariant_of-self : goal.invariant_of-self
invariant_of-self g c =
    let kept = copied_kept c.self.inside.rooms.sets c.args.line.0 c.copy_of.result c.args.into.now c.copy_of.new.into c.copy_of.ensures c.if-not-copy_of.false in
    rw c.touch.ensures.after (record {
      sound = touch_sound (g.B.Layer.content c.self.inside.below) c.self.inside.rooms.sets c.args.line.0 c.self.invariant.sound kept;
      turn = rw length-set c.self.invariant.turn;
      few = rw length-set c.self.invariant.few;
    })

pub returns-clause-content : goal.returns-clause-content
returns-clause-content g c =
    let kept = copied_kept c.self.inside.rooms.sets c.args.line.0 c.copy_of.result c.args.into.now c.copy_of.new.into c.copy_of.ensures c.if-not-copy_of.false in
    rw (← c.self.view_is) (rw c.touch.ensures.after (touch_same (g.B.Layer.content c.self.inside.below) c.self.inside.rooms.sets c.args.line.0 c.self.invariant.sound kept))

pub returns-clause-bytes : goal.returns-clause-bytes
returns-clause-bytes g c = λ t.
    rw (← c.self.view_is) (viewed (g.B.Layer.content c.self.inside.below) c.self.inside.rooms.sets c.args.line.0 (rw length-overlay at (rw (← c.self.view_is) at c.requires)) c.copy_of.result c.args.into.now c.copy_of.new.into c.copy_of.ensures c.if-not-copy_of.false)
