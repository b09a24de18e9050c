use Rattle.std.proofs.Common.{◌≡◌, ◌≤◌, List}
use Rattle.hier_types.specs.Calls.{Answer, Makes}
use Rattle.recency.specs.Kept.{Kept}
use Rattle.recency.specs.Steps.{Flushes}
use Rattle.recency.proofs.FlushLemmas.{AreClean, dirty_sum}
use Rattle.l1_cache.specs.FirstLevel.{lines_of_first}
use Rattle.l1_cache.proofs.l1.L1.flush.Given as goal

abbrev pub invariant-loop-entry : goal.invariant-loop-entry
invariant-loop-entry g l = record {
  content : lines_of_first g.B.Layer.content l.self ≡ lines_of_first g.B.Layer.content l.fn.self;
  held : l.self.held ≡ l.fn.self.held;
  counts : l.self.counts ≡ l.fn.self.counts;
  span : l.self.span ≡ l.fn.self.span;
  later : g.B.Layer.stops l.fn.self.below ≤ g.B.Layer.stops l.self.below;
  clean : AreClean l.self.sets l.from;
  on : (result : Answer) (new : List Kept) (t : g.row.B.Denot)
      → Makes g.B.Layer.did_read g.B.Layer.did_write l.self.below (Flushes result new l.self.sets) t
      → Makes g.B.Layer.did_read g.B.Layer.did_write l.fn.self.below (Flushes result new l.fn.self.sets) t;
}

abbrev pub decreases-loop-entry : goal.decreases-loop-entry
decreases-loop-entry g l = dirty_sum l.self.sets
