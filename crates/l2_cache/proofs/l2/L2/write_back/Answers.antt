use Rattle.std.proofs.Common.{length-set}
use Rattle.recency.proofs.FlushLemmas.{back_inside, back_sound, back_same}
use Rattle.l2_cache.proofs.l2.L2.write_back.Goals as goal

pub write-requires : goal.write-requires
write-requires g c = back_inside (g.B.Layer.content c.self.inside.below) c.self.inside.rooms.sets c.self.invariant.sound c.args.entry.now (rw (← c.self.view_is) at c.requires)

pub invariant_of-self-2 : goal.invariant_of-self-2
invariant_of-self-2 g c =
    rw (c.clean.ensures, c.in_default.ensures.ok) (record {
      sound = back_sound (g.B.Layer.content c.self.inside.below) c.self.inside.rooms.sets c.self.invariant.sound c.args.entry.now (rw (← c.self.view_is) at c.requires);
      turn = rw length-set c.self.invariant.turn;
      few = rw length-set c.self.invariant.few;
    })

pub returns-clause-content : goal.returns-clause-content
returns-clause-content g c =
    rw (← c.self.view_is) (rw (c.clean.ensures, c.in_default.ensures.ok) (back_same (g.B.Layer.content c.self.inside.below) c.self.inside.rooms.sets c.self.invariant.sound c.args.entry.now (rw (← c.self.view_is) at c.requires)))
