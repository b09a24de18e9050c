use Rattle.recency.proofs.LevelLemmas.{sound_under}
use Rattle.l2_cache.proofs.l2.L2.below_do.Goals as goal

pub invariant_of-self : goal.invariant_of-self
invariant_of-self g c =
    let keeps = rw (← c.self.view_is) at (c.requires.keeps c.go.new.self c.go.new.below (rw (← c.self.view_is) c.go.ensures)) in
    record {
      sound = sound_under (g.B.Layer.content c.self.inside.below) (g.B.Layer.content c.go.new.below) c.self.inside.rooms.sets keeps c.lines-count.ensures.whole c.self.invariant.sound;
      turn = c.self.invariant.turn;
      few = c.self.invariant.few;
    }
