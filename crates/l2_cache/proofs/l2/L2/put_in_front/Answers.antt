use Rattle.std.proofs.Common.{◌<◌, ◌∙◌, sym, length, length-set}
use Rattle.recency.proofs.LevelLemmas.{length-overlay}
use Rattle.l2_cache.proofs.LeaveLemmas.{front_sound, front_written, shown_below}
use Rattle.l2_cache.proofs.l2.L2.put_in_front.Goals as goal

pub invariant_of-self : goal.invariant_of-self
invariant_of-self g c =
    let inside : c.args.entry.now.line < length (g.B.Layer.content c.self.inside.below) = rw length-overlay at (rw (← c.self.view_is) at (rw (← c.in_default.ensures.content) at c.requires.inside)) in
    rw c.put_front.ensures (record {
      sound = front_sound (g.B.Layer.content c.self.inside.below) c.self.inside.rooms.sets c.args.entry.now c.self.invariant.sound inside c.requires.full
          (λ clean.
          let held = c.requires.held clean in
          let shown = rw (← c.self.view_is) at (rw (← c.in_default.ensures.content) at held.0) in
          let none = rw (← c.self.view_is) at (c.in_default.ensures.absent held.1) in
          sym (shown_below (g.B.Layer.content c.self.inside.below) c.self.inside.rooms.sets c.args.entry.now.line none) ∙ shown);
      turn = rw length-set c.self.invariant.turn;
      few = rw length-set c.self.invariant.few;
    })

pub returns-clause-ok : goal.returns-clause-ok
returns-clause-ok g c =
    let inside : c.args.entry.now.line < length (g.B.Layer.content c.self.inside.below) = rw length-overlay at (rw (← c.self.view_is) at (rw (← c.in_default.ensures.content) at c.requires.inside)) in
    rw (← c.in_default.ensures.content, ← c.self.view_is, c.put_front.ensures) (front_written (g.B.Layer.content c.self.inside.below) c.self.inside.rooms.sets c.args.entry.now c.self.invariant.sound inside)
