use Rattle.std.proofs.Common.{Ok, Err, sym}
use Rattle.hier_types.proofs.CallLemmas.{Makes-write, Makes-write_then}
use Rattle.recency.proofs.LevelLemmas.{in_range}
use Rattle.l1_cache.proofs.StepLemmas.{miss_refused, miss_written, absent_cleaned, ready_cleaned}
use Rattle.l1_cache.proofs.l1.L1.miss.Goals as goal

pub returns-in-Err-clause-did : goal.returns-in-Err-clause-did
returns-in-Err-clause-did g c =
    let inside = in_range (g.B.Layer.content c.self.inside.below) c.self.inside.sets c.args.line.0 c.self.invariant.sound in
    rw (c.in-Err.ensures.err, c.in-Err.ensures.uncounted, ← c.self.view_is) (Makes-write c.in-Some.victim.line c.in-Some.victim.bytes (Err c.in-Err.refusal) c.in-Err.ensures.did
    (miss_refused c.self.inside.sets c.self.inside.counts c.args.line.0 c.in-Some.victim c.in-Err.refusal inside (sym c.in-Some.ensures)))

pub bring-requires-2-clause-absent : goal.bring-requires-2-clause-absent
bring-requires-2-clause-absent g c =
    let inside = in_range (g.B.Layer.content c.self.inside.below) c.self.inside.sets c.args.line.0 c.self.invariant.sound in
    rw c.in_default-put_out.ensures.ok (absent_cleaned c.self.inside.sets c.args.line.0 inside (rw (← c.self.view_is) at c.requires.absent))

pub bring-requires-2-clause-ready : goal.bring-requires-2-clause-ready
bring-requires-2-clause-ready g c =
    let inside = in_range (g.B.Layer.content c.self.inside.below) c.self.inside.sets c.args.line.0 c.self.invariant.sound in
    rw c.in_default-put_out.ensures.ok (ready_cleaned c.self.inside.sets c.args.line.0 inside)

pub returns-clause-did : goal.returns-clause-did
returns-clause-did g c =
    let inside = in_range (g.B.Layer.content c.self.inside.below) c.self.inside.sets c.args.line.0 c.self.invariant.sound in
    let rest = rw (c.in_default-put_out.ensures.ok, c.in_default-put_out.ensures.counted) at c.bring-2.ensures.did in
    rw (← c.self.view_is) (Makes-write_then c.in-Some.victim.line c.in-Some.victim.bytes (Ok tt) c.in_default-put_out.ensures.did rest
    (λ calls s. miss_written c.self.inside.sets c.self.inside.counts c.args.line.0 c.bring-2.result c.bring-2.new.self.sets c.bring-2.new.self.counts calls c.in-Some.victim inside (sym c.in-Some.ensures) s))
