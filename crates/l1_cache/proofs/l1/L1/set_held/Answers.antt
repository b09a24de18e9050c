use Rattle.recency.proofs.LevelLemmas.{length-overlay}
use Rattle.l1_cache.proofs.BytesLemmas.{held_some, over_here, over_level, over_lines}
use Rattle.l1_cache.proofs.l1.L1.set_held.Goals as goal

pub set_first-requires : goal.set_first-requires
set_first-requires g c = held_some c.self.invariant c.args.line.0 (rw (← c.self.view_is) at c.requires.held)

pub invariant_of-self : goal.invariant_of-self
invariant_of-self g c =
    let held = rw (← c.self.view_is) at c.requires.held in
    rw (over_here c.self.invariant c.args.line.0 held c.args.from.now c.set_first.new.self c.set_first.ensures) (over_level c.self.invariant c.args.line.0 held c.args.from.now c.told-from)

pub returns-clause-content : goal.returns-clause-content
returns-clause-content g c =
    let held = rw (← c.self.view_is) at c.requires.held in
    rw (← c.self.view_is) (rw (over_here c.self.invariant c.args.line.0 held c.args.from.now c.set_first.new.self c.set_first.ensures)
    (over_lines c.self.invariant c.args.line.0 held c.args.from.now (rw length-overlay at (rw (← c.self.view_is) at c.requires.inside))))

pub returns-clause-sets : goal.returns-clause-sets
returns-clause-sets g c =
    rw (← c.self.view_is) (over_here c.self.invariant c.args.line.0 (rw (← c.self.view_is) at c.requires.held) c.args.from.now c.set_first.new.self c.set_first.ensures)
