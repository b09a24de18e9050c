use Rattle.std.proofs.Common.{◌≡◌, ◌≤◌, ◌<◌, ◌+◌, ◌*◌, ◌&&◌, ◌∙◌, nat_le, sym, ap, length, arith}
use Rattle.std.proofs.lemmas.Bool.{lt-ltb, le-ltb, le-leb}
use Rattle.line_codec.specs.Slots.{size_under}
use Rattle.recency.specs.Kept.{without}
use Rattle.recency.specs.Levels.{set_of}
use Rattle.l2_cache.specs.PackedSet.{kept_sets}
use Rattle.l2_cache.specs.Room.{segments_sum}
use Rattle.l2_cache.proofs.RoomLemmas.{last_none, ways_are, space_test}
use Rattle.l2_cache.proofs.room_sets.RoomSets.has_space.Goals as goal

pub returns-then-others-self-clause-alone : goal.returns-then-others-self-clause-alone
returns-then-others-self-clause-alone c = λ none.
    let none_taken : c.others-others.result.segments ≡ 0 = c.others-others.ensures.segments ∙ ap (segments_sum (size_under c.args.self.now.codec)) (last_none _ none) in
    let most = c.segments_of-needed.ensures.most in
    let two = c.self.invariant.two in
    let fits : c.segments_of-needed.result + c.others-others.result.segments ≤ 4 * c.self.inside.tags = omega arith in
    le-leb _ _ fits

pub returns-else-others-self-clause-alone : goal.returns-else-others-self-clause-alone
returns-else-others-self-clause-alone c = λ none.
    let none_there : c.others-others.result.count ≡ 0 = c.others-others.ensures.count ∙ ap (λ (es : _). length es) (last_none _ none) in
    let two = c.self.invariant.two in
    let fits : c.others-others.result.count < c.self.inside.tags = omega arith in
    lt-ltb _ _ fits

pub returns-then-others-self-clause-test : goal.returns-then-others-self-clause-test
returns-then-others-self-clause-test c =
    let few = lt-ltb c.others-others.result.count c.self.inside.tags c.if-others-self.true in
    let set = set_of (kept_sets c.self.inside.sets.items) c.args.line in
    rw (← c.self.view_is) (sym (ap (λ b. b && nat_le (c.segments_of-needed.result + c.others-others.result.segments) (4 * c.self.inside.tags)) few)
    ∙ space_test (size_under c.self.inside.codec) c.self.inside.tags c.args.bytes.now (without set.lines c.args.line) (ways_are c.self.invariant c.args.line)
    (rw (← c.self.view_is) at c.others-others.ensures.count) c.segments_of-needed.ensures.count (rw (← c.self.view_is) at c.others-others.ensures.segments))

pub returns-else-others-self-clause-test : goal.returns-else-others-self-clause-test
returns-else-others-self-clause-test c =
    let many = le-ltb c.others-others.result.count c.self.inside.tags c.if-others-self.false in
    let set = set_of (kept_sets c.self.inside.sets.items) c.args.line in
    rw (← c.self.view_is) (many ∙ sym (ap (λ b. b && nat_le (c.segments_of-needed.result + c.others-others.result.segments) (4 * c.self.inside.tags)) many)
    ∙ space_test (size_under c.self.inside.codec) c.self.inside.tags c.args.bytes.now (without set.lines c.args.line) (ways_are c.self.invariant c.args.line)
    (rw (← c.self.view_is) at c.others-others.ensures.count) c.segments_of-needed.ensures.count (rw (← c.self.view_is) at c.others-others.ensures.segments))
