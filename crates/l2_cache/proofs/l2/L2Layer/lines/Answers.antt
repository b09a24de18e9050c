use Rattle.std.proofs.Common.{sym, ◌∙◌}
use Rattle.recency.proofs.LevelLemmas.{length-overlay, whole_overlay}
use Rattle.l2_cache.proofs.l2.L2Layer.lines.Goals as goal

pub returns-clause-count : goal.returns-clause-count
returns-clause-count g c = rw (← c.self.view_is) (c.lines.ensures.count ∙ sym (length-overlay (g.B.Layer.content c.self.inside.below) c.self.inside.rooms.sets))

pub returns-clause-whole : goal.returns-clause-whole
returns-clause-whole g c = rw (← c.self.view_is) (whole_overlay (g.B.Layer.content c.self.inside.below) c.self.inside.rooms.sets c.self.invariant.sound)
