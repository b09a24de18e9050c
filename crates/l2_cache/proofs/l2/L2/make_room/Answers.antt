use Rattle.std.proofs.Common.{◌≡◌, ◌%◌, ◌<◌, ◌∙◌, Some, None, Ok, Err, sym, length, arith}
use Rattle.hier_types.proofs.CallLemmas.{Makes-none}
use Rattle.line_codec.specs.Slots.{size_under}
use Rattle.recency.specs.Levels.{set_of}
use Rattle.recency.specs.Steps.{Changes}
use Rattle.recency.proofs.LevelLemmas.{in_range}
use Rattle.l2_cache.specs.Room.{leaver}
use Rattle.l2_cache.specs.Turns.{MakesRoom}
use Rattle.l2_cache.proofs.LeaveLemmas.{room_none, room_refused, room_more, Makes-more, Makes-refused, absent_left}
use Rattle.l2_cache.proofs.l2.L2.make_room.Goals as goal

pub returns-in-Err-clause-did : goal.returns-in-Err-clause-did
returns-in-Err-clause-did g c =
    let next : leaver (size_under c.loop-entry.self.codec) (set_of c.loop-entry.self.sets c.args.line) c.args.line c.args.bytes.now ≡ Some c.in-Some.entry = rw (← c.self.view_is) (sym c.in-Some.ensures.leaver) in
    let inside : c.args.line % length c.loop-entry.self.sets < length c.loop-entry.self.sets = rw (← c.self.view_is) (in_range (g.B.Layer.content c.self.inside.below) c.self.inside.rooms.sets c.args.line c.self.invariant.sound) in
    c.loop-entry.invariant.on (Err c.in-Err.refusal) c.put_out.new.self.sets c.put_out.new.self.below
    (rw c.in-Err.ensures.err (Makes-refused g.B.Layer.did_read g.B.Layer.did_write c.loop-entry.self.below c.put_out.new.self.below
    (Changes (MakesRoom (size_under c.loop-entry.self.codec) c.args.bytes.now) c.loop-entry.self.sets c.args.line (Err c.in-Err.refusal) c.loop-entry.self.sets) c.in-Some.entry c.in-Err.refusal c.in-Err.ensures.did
    (λ dirty. room_refused (size_under c.loop-entry.self.codec) c.loop-entry.self.sets c.args.line c.args.bytes.now c.in-Some.entry c.in-Err.refusal inside next dirty)))

pub loop-entry-preserved : goal.loop-entry-preserved
loop-entry-preserved g c =
    let next : leaver (size_under c.loop-entry.self.codec) (set_of c.loop-entry.self.sets c.args.line) c.args.line c.args.bytes.now ≡ Some c.in-Some.entry = rw (← c.self.view_is) (sym c.in-Some.ensures.leaver) in
    let inside : c.args.line % length c.loop-entry.self.sets < length c.loop-entry.self.sets = rw (← c.self.view_is) (in_range (g.B.Layer.content c.self.inside.below) c.self.inside.rooms.sets c.args.line c.self.invariant.sound) in
    record {
      content = c.in_default-put_out.ensures.content ∙ c.loop-entry.invariant.content;
      codec = c.in_default-put_out.ensures.codec ∙ c.loop-entry.invariant.codec;
      cursor = c.in_default-put_out.ensures.cursor ∙ c.loop-entry.invariant.cursor;
      counts = c.in_default-put_out.ensures.counts ∙ c.loop-entry.invariant.counts;
      later = omega (arith, c.loop-entry.invariant.later, c.in_default-put_out.ensures.cause.later);
      absent = λ none. rw c.in_default-put_out.ensures.ok (absent_left c.loop-entry.self.sets c.args.line c.in-Some.entry.line inside (c.loop-entry.invariant.absent none));
      on = λ result new t rest. c.loop-entry.invariant.on result new t
          (Makes-more g.B.Layer.did_read g.B.Layer.did_write c.loop-entry.self.below c.put_out.new.self.below t
          (Changes (MakesRoom (size_under c.loop-entry.self.codec) c.args.bytes.now) c.put_out.new.self.sets c.args.line result new)
          (Changes (MakesRoom (size_under c.loop-entry.self.codec) c.args.bytes.now) c.loop-entry.self.sets c.args.line result new) c.in-Some.entry c.in_default-put_out.ensures.did (rw c.in_default-put_out.ensures.codec at rest)
          (λ calls ch. room_more (size_under c.loop-entry.self.codec) c.loop-entry.self.sets c.args.line c.args.bytes.now c.in-Some.entry result new calls inside next (rw c.in_default-put_out.ensures.ok at ch)));
    }

pub returns-clause-did : goal.returns-clause-did
returns-clause-did g c =
    let none : leaver (size_under c.loop-entry.self.codec) (set_of c.loop-entry.self.sets c.args.line) c.args.line c.args.bytes.now ≡ None = rw (← c.self.view_is) (sym c.leaver.ensures.leaver ∙ c.in_default.is) in
    let inside : c.args.line % length c.loop-entry.self.sets < length c.loop-entry.self.sets = rw (← c.self.view_is) (in_range (g.B.Layer.content c.self.inside.below) c.self.inside.rooms.sets c.args.line c.self.invariant.sound) in
    c.loop-entry.invariant.on (Ok tt) c.loop-entry.self.sets c.loop-entry.self.below (Makes-none (room_none (size_under c.loop-entry.self.codec) c.loop-entry.self.sets c.args.line c.args.bytes.now inside none))
