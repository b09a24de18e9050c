use Rattle.std.proofs.Common.{refl}
use Rattle.hier_types.specs.Span.{line_at}
use Rattle.l1_cache.proofs.BytesLemmas.{held_some, poked_here, poked_bytes, poked_level}
use Rattle.l1_cache.proofs.l1.L1Port.poke.Goals as goal

pub set_first_byte-requires-clause-some : goal.set_first_byte-requires-clause-some
set_first_byte-requires-clause-some g c = rw c.first.ensures.first (held_some c.self.invariant (line_at c.self.inside.span c.args.at) (rw (← c.self.view_is) at c.requires.held))

pub invariant_of-self : goal.invariant_of-self
invariant_of-self g c =
    let has = rw (← c.self.view_is) at c.requires.has in
    let held = rw (← c.self.view_is) at c.requires.held in
    rw (poked_here c.self.invariant c.args.at has held c.args.byte c.set_first_byte.new.self (rw c.first.ensures.first at c.set_first_byte.ensures)) (poked_level c.self.invariant c.args.at has held c.args.byte)

pub returns-clause-bytes : goal.returns-clause-bytes
returns-clause-bytes g c =
    let has = rw (← c.self.view_is) at c.requires.has in
    let held = rw (← c.self.view_is) at c.requires.held in
    rw (← c.self.view_is) (rw (poked_here c.self.invariant c.args.at has held c.args.byte c.set_first_byte.new.self (rw c.first.ensures.first at c.set_first_byte.ensures)) (poked_bytes c.self.invariant c.args.at has held c.args.byte))

pub returns-clause-did : goal.returns-clause-did
returns-clause-did g c =
    let has = rw (← c.self.view_is) at c.requires.has in
    let held = rw (← c.self.view_is) at c.requires.held in
    rw (← c.self.view_is) (record {
      span = refl;
      held = refl;
      below = refl;
      counts = refl;
      sets = poked_here c.self.invariant c.args.at has held c.args.byte c.set_first_byte.new.self (rw c.first.ensures.first at c.set_first_byte.ensures);
    })
