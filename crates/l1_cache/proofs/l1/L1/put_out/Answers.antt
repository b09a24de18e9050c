use Rattle.l1_cache.proofs.StepLemmas.{clean_same, victim_good, clean_level}
use Rattle.l1_cache.proofs.l1.L1.put_out.Goals as goal

pub write-requires : goal.write-requires
write-requires g c = (victim_good (g.B.Layer.content c.self.inside.below) c.self.inside.sets c.args.line.0 c.self.invariant.sound c.args.victim.now (rw (← c.self.view_is) at c.requires.victim)).inside

pub invariant_of-self-2 : goal.invariant_of-self-2
invariant_of-self-2 g c =
    rw (c.clean_last.ensures, c.in_default.ensures.ok) (clean_level c.self.invariant c.args.line.0 c.args.victim.now (rw (← c.self.view_is) at c.requires.victim) (rw (← c.self.view_is) at c.requires.free))

pub returns-clause-content : goal.returns-clause-content
returns-clause-content g c =
    rw (← c.self.view_is) (rw (c.clean_last.ensures, c.in_default.ensures.ok) (clean_same (g.B.Layer.content c.self.inside.below) c.self.inside.sets c.args.line.0 c.self.invariant.sound c.args.victim.now (rw (← c.self.view_is) at c.requires.victim)))
