use Rattle.std.proofs.Common.{◌≡◌, ◌≤◌, List}
use Rattle.hier_types.specs.Calls.{Answer, Makes}
use Rattle.recency.specs.Kept.{Kept}
use Rattle.recency.specs.Steps.{Flushes}
use Rattle.recency.proofs.FlushLemmas.{AreClean, dirty_sum}
use Rattle.l2_cache.specs.SecondLevel.{lines_of_second}
use Rattle.l2_cache.proofs.l2.L2.flush.Given as goal

abbrev pub invariant-loop-entry : goal.invariant-loop-entry
invariant-loop-entry g l = record {
  content : lines_of_second g.B.Layer.content l.self ≡ lines_of_second g.B.Layer.content l.fn.self;
  codec : l.self.codec ≡ l.fn.self.codec;
  cursor : l.self.cursor ≡ l.fn.self.cursor;
  counts : l.self.counts ≡ l.fn.self.counts;
  later : g.B.Layer.stops l.fn.self.below ≤ g.B.Layer.stops l.self.below;
  clean : AreClean l.self.sets l.from;
  on : (result : Answer) (new : List Kept) (t : g.row.B.Denot)
      → Makes g.B.Layer.did_read g.B.Layer.did_write l.self.below (Flushes result new l.self.sets) t
      → Makes g.B.Layer.did_read g.B.Layer.did_write l.fn.self.below (Flushes result new l.fn.self.sets) t;
}

abbrev pub decreases-loop-entry : goal.decreases-loop-entry
decreases-loop-entry g l = dirty_sum l.self.sets
