use Rattle.std.proofs.Common.{length-set}
use Rattle.line_codec.specs.Slots.{size_under}
use Rattle.l2_cache.proofs.LeaveLemmas.{leaver_kept, leaver_good, leaver_fewer, left_written_sound, left_written_same, left_clean_sound, left_clean_same}
use Rattle.l2_cache.proofs.l2.L2.put_out.Goals as goal

pub write-requires : goal.write-requires
write-requires g c = (leaver_good (size_under c.self.inside.rooms.codec) (g.B.Layer.content c.self.inside.below) c.self.inside.rooms.sets c.args.line c.args.bytes.now c.self.invariant.sound c.args.entry.now (rw (← c.self.view_is) at c.requires)).inside

pub take_out-requires : goal.take_out-requires
take_out-requires g c = leaver_kept (size_under c.self.inside.rooms.codec) (g.B.Layer.content c.self.inside.below) c.self.inside.rooms.sets c.args.line c.args.bytes.now c.self.invariant.sound c.args.entry.now (rw (← c.self.view_is) at c.requires)

pub invariant_of-self-then-entry : goal.invariant_of-self-then-entry
invariant_of-self-then-entry g c =
    rw (c.take_out.ensures, c.in_default.ensures.ok) (record {
      sound = left_written_sound (size_under c.self.inside.rooms.codec) (g.B.Layer.content c.self.inside.below) c.self.inside.rooms.sets c.args.line c.args.bytes.now c.self.invariant.sound c.args.entry.now (rw (← c.self.view_is) at c.requires);
      turn = rw length-set c.self.invariant.turn;
      few = rw length-set c.self.invariant.few;
    })

pub returns-then-entry-clause-content : goal.returns-then-entry-clause-content
returns-then-entry-clause-content g c =
    rw (← c.self.view_is) (rw (c.take_out.ensures, c.in_default.ensures.ok) (left_written_same (size_under c.self.inside.rooms.codec) (g.B.Layer.content c.self.inside.below) c.self.inside.rooms.sets c.args.line c.args.bytes.now c.self.invariant.sound c.args.entry.now (rw (← c.self.view_is) at c.requires)))

pub returns-then-entry-clause-fewer : goal.returns-then-entry-clause-fewer
returns-then-entry-clause-fewer g c =
    rw (← c.self.view_is) (rw c.take_out.ensures (leaver_fewer (size_under c.self.inside.rooms.codec) (g.B.Layer.content c.self.inside.below) c.self.inside.rooms.sets c.args.line c.args.bytes.now c.self.invariant.sound c.args.entry.now (rw (← c.self.view_is) at c.requires)))

pub take_out-requires-2 : goal.take_out-requires-2
take_out-requires-2 g c = leaver_kept (size_under c.self.inside.rooms.codec) (g.B.Layer.content c.self.inside.below) c.self.inside.rooms.sets c.args.line c.args.bytes.now c.self.invariant.sound c.args.entry.now (rw (← c.self.view_is) at c.requires)

pub invariant_of-self-2 : goal.invariant_of-self-2
invariant_of-self-2 g c =
    rw c.take_out-2.ensures (record {
      sound = left_clean_sound (size_under c.self.inside.rooms.codec) (g.B.Layer.content c.self.inside.below) c.self.inside.rooms.sets c.args.line c.args.bytes.now c.self.invariant.sound c.args.entry.now (rw (← c.self.view_is) at c.requires);
      turn = rw length-set c.self.invariant.turn;
      few = rw length-set c.self.invariant.few;
    })

pub returns-clause-content : goal.returns-clause-content
returns-clause-content g c =
    rw (← c.self.view_is) (rw c.take_out-2.ensures (left_clean_same (size_under c.self.inside.rooms.codec) (g.B.Layer.content c.self.inside.below) c.self.inside.rooms.sets c.args.line c.args.bytes.now c.self.invariant.sound c.args.entry.now (rw (← c.self.view_is) at c.requires) c.if-entry.false))

pub returns-clause-fewer : goal.returns-clause-fewer
returns-clause-fewer g c =
    rw (← c.self.view_is) (rw c.take_out-2.ensures (leaver_fewer (size_under c.self.inside.rooms.codec) (g.B.Layer.content c.self.inside.below) c.self.inside.rooms.sets c.args.line c.args.bytes.now c.self.invariant.sound c.args.entry.now (rw (← c.self.view_is) at c.requires)))
