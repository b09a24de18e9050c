use Rattle.std.proofs.Common.{◌≡◌, ◌≤◌, List, None, length}
use Rattle.hier_types.specs.Calls.{Answer, Makes}
use Rattle.line_codec.specs.Slots.{size_under}
use Rattle.recency.specs.Kept.{Kept}
use Rattle.recency.specs.Levels.{kept_of, set_of}
use Rattle.recency.specs.Steps.{Changes}
use Rattle.l2_cache.specs.SecondLevel.{lines_of_second}
use Rattle.l2_cache.specs.Turns.{MakesRoom}
use Rattle.l2_cache.proofs.l2.L2.make_room.Given as goal

abbrev pub invariant-loop-entry : goal.invariant-loop-entry
invariant-loop-entry g l = record {
  content : lines_of_second g.B.Layer.content l.self ≡ lines_of_second g.B.Layer.content l.fn.self;
  codec : l.self.codec ≡ l.fn.self.codec;
  cursor : l.self.cursor ≡ l.fn.self.cursor;
  counts : l.self.counts ≡ l.fn.self.counts;
  later : g.B.Layer.stops l.fn.self.below ≤ g.B.Layer.stops l.self.below;
  absent : kept_of l.fn.self.sets l.line ≡ None → kept_of l.self.sets l.line ≡ None;
  on : (result : Answer) (new : List Kept) (t : g.row.B.Denot)
      → Makes g.B.Layer.did_read g.B.Layer.did_write l.self.below (Changes (MakesRoom (size_under l.self.codec) l.bytes) l.self.sets l.line result new) t
      → Makes g.B.Layer.did_read g.B.Layer.did_write l.fn.self.below (Changes (MakesRoom (size_under l.fn.self.codec) l.bytes) l.fn.self.sets l.line result new) t;
}

abbrev pub decreases-loop-entry : goal.decreases-loop-entry
decreases-loop-entry g l = length (set_of l.self.sets l.line).lines
