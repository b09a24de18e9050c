use Rattle.std.proofs.Common.{Ok, Err}
use Rattle.hier_types.proofs.CallLemmas.{Makes-read}
use Rattle.recency.proofs.LevelLemmas.{length-overlay, in_range}
use Rattle.l1_cache.proofs.StepLemmas.{bring_refused, bring_read, put_level, put_same}
use Rattle.l1_cache.proofs.l1.L1.bring.Goals as goal

pub read-requires : goal.read-requires
read-requires g c = rw length-overlay at (rw (← c.self.view_is) at c.requires.inside)

pub returns-in-Err-clause-did : goal.returns-in-Err-clause-did
returns-in-Err-clause-did g c =
    let inside = in_range (g.B.Layer.content c.self.inside.below) c.self.inside.sets c.args.line.0 c.self.invariant.sound in
    rw (← c.self.view_is) (Makes-read c.args.line.0 (Err c.in-Err.refusal) c.in-Err.ensures.did (bring_refused c.self.inside.sets c.self.inside.counts c.args.line.0 c.in-Err.refusal inside))

pub invariant_of-self-2 : goal.invariant_of-self-2
invariant_of-self-2 g c =
    rw (c.put_in.ensures, c.in_default.ensures.content) (put_level c.self.invariant c.args.line.0 c.read.new.into c.in_default.ensures.ok (rw (← c.self.view_is) at c.requires.absent))

pub returns-clause-content : goal.returns-clause-content
returns-clause-content g c =
    rw (← c.self.view_is) (rw (c.put_in.ensures, c.in_default.ensures.content)
    (put_same (g.B.Layer.content c.self.inside.below) c.self.inside.sets c.args.line.0 c.self.invariant.sound c.read.new.into c.in_default.ensures.ok (rw (← c.self.view_is) at c.requires.absent) (rw (← c.self.view_is) at c.requires.ready)))

pub returns-clause-did : goal.returns-clause-did
returns-clause-did g c =
    rw (← c.self.view_is) (Makes-read c.args.line.0 (Ok c.read.new.into) c.in_default.ensures.did
    (rw (c.put_in.ensures, c.raise.ensures) (bring_read c.self.inside.sets c.self.inside.counts c.args.line.0 c.read.new.into)))
