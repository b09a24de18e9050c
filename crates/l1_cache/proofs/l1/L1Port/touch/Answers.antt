use Rattle.std.proofs.Common.{◌<◌, length, arith}
use Rattle.recency.specs.Levels.{overlay}
use Rattle.recency.proofs.LevelLemmas.{length-overlay}
use Rattle.l1_cache.proofs.l1.L1Port.touch.Goals as goal

pub touch_line-requires : goal.touch_line-requires
touch_line-requires g c =
    let lines = g.B.Layer.content c.self.inside.below in
    let has = rw (← c.self.view_is) at c.requires in
    let size = c.self.invariant.size in
    let inside : c.args.line.0 < length (overlay lines c.self.inside.sets) = omega (arith, length-overlay lines c.self.inside.sets) in
    rw (← c.self.view_is) inside
