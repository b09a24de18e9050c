use Rattle.recency.proofs.LevelLemmas.{length-overlay, viewed, viewed_below}
use Rattle.l2_cache.proofs.l2.L2Layer.view.Goals as goal

pub returns-then-copy_of : goal.returns-then-copy_of
returns-then-copy_of g c =
    rw (← c.self.view_is) (viewed (g.B.Layer.content c.self.inside.below) c.self.inside.rooms.sets c.args.line.0 (rw length-overlay at (rw (← c.self.view_is) at c.requires)) c.copy_of.result c.args.into.now c.copy_of.new.into c.copy_of.ensures c.if-copy_of.true)

pub view-requires : goal.view-requires
view-requires g c = rw length-overlay at (rw (← c.self.view_is) at c.requires)

pub returns : goal.returns
returns g c =
    rw (← c.self.view_is) (viewed_below (g.B.Layer.content c.self.inside.below) c.self.inside.rooms.sets c.args.line.0 c.copy_of.result c.args.into.now c.copy_of.new.into c.view.new.into c.copy_of.ensures c.if-copy_of.false c.view.ensures)
