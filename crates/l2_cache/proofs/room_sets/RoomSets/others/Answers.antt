use Rattle.std.proofs.Common.{◌≡◌, ◌*◌, ◌-◌, ◌∙◌, sym, length, arith}
use Rattle.line_codec.specs.Slots.{size_under}
use Rattle.recency.specs.Kept.{without}
use Rattle.l2_cache.specs.Room.{segments_sum}
use Rattle.l2_cache.proofs.RoomLemmas.{set_of-kept, alike_at, sum-split, sum-absent, length-split, length-absent}
use Rattle.l2_cache.proofs.room_sets.RoomSets.others.Goals as goal

pub overflow_sub-result-in-Some : goal.overflow_sub-result-in-Some
overflow_sub-result-in-Some c =
    let alike = alike_at c.self.invariant c.index_of-index.result c.index-set.result.now c.index_of-index.ensures.inside c.index-set.ensures in
    let taken = rw alike.0 at c.room.ensures in
    let split = sum-split (size_under c.self.inside.codec) c.index-set.result.now.kept.lines c.args.line c.in-Some.old (sym c.in-Some.ensures) in
    let own = c.segments_of.ensures.count in
    let tags = alike.1 in
    omega arith

pub returns-in-Some-clause-count : goal.returns-in-Some-clause-count
returns-in-Some-clause-count c =
    let here = set_of-kept c.self.inside.sets.items c.args.line c.index_of-index.result c.index-set.result.now c.index_of-index.ensures.index c.index_of-index.ensures.inside c.index-set.ensures in
    let count = c.len-count.ensures in
    let split = length-split c.index-set.result.now.kept.lines c.args.line c.in-Some.old (sym c.in-Some.ensures) in
    let left : c.len-count.result - 1 ≡ length (without c.index-set.result.now.kept.lines c.args.line) = omega arith in
    rw (← c.self.view_is, here) left

pub returns-in-Some-clause-segments : goal.returns-in-Some-clause-segments
returns-in-Some-clause-segments c =
    let here = set_of-kept c.self.inside.sets.items c.args.line c.index_of-index.result c.index-set.result.now c.index_of-index.ensures.index c.index_of-index.ensures.inside c.index-set.ensures in
    let alike = alike_at c.self.invariant c.index_of-index.result c.index-set.result.now c.index_of-index.ensures.inside c.index-set.ensures in
    let taken = rw alike.0 at c.room.ensures in
    let split = sum-split (size_under c.self.inside.codec) c.index-set.result.now.kept.lines c.args.line c.in-Some.old (sym c.in-Some.ensures) in
    let own = c.segments_of.ensures.count in
    let tags = alike.1 in
    let left : 4 * c.self.inside.tags - c.room.result - c.segments_of.result ≡ segments_sum (size_under c.self.inside.codec) (without c.index-set.result.now.kept.lines c.args.line) = omega arith in
    rw (← c.self.view_is, here) left

pub returns-in-None-clause-count : goal.returns-in-None-clause-count
returns-in-None-clause-count c =
    let here = set_of-kept c.self.inside.sets.items c.args.line c.index_of-index.result c.index-set.result.now c.index_of-index.ensures.index c.index_of-index.ensures.inside c.index-set.ensures in
    rw (← c.self.view_is, here) (c.len-count.ensures ∙ sym (length-absent c.index-set.result.now.kept.lines c.args.line (sym c.in-None.ensures)))

pub returns-in-None-clause-segments : goal.returns-in-None-clause-segments
returns-in-None-clause-segments c =
    let here = set_of-kept c.self.inside.sets.items c.args.line c.index_of-index.result c.index-set.result.now c.index_of-index.ensures.index c.index_of-index.ensures.inside c.index-set.ensures in
    let alike = alike_at c.self.invariant c.index_of-index.result c.index-set.result.now c.index_of-index.ensures.inside c.index-set.ensures in
    let taken = rw alike.0 at c.room.ensures in
    let tags = alike.1 in
    let left : 4 * c.self.inside.tags - c.room.result ≡ segments_sum (size_under c.self.inside.codec) c.index-set.result.now.kept.lines = omega arith in
    rw (← c.self.view_is, here) (left ∙ sym (sum-absent (size_under c.self.inside.codec) c.index-set.result.now.kept.lines c.args.line (sym c.in-None.ensures)))
