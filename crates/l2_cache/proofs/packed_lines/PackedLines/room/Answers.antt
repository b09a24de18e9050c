use Rattle.std.proofs.Common.{arith}
use Rattle.l2_cache.proofs.PackedLemmas.{length-lines_of, few_forms}
use Rattle.l2_cache.proofs.packed_lines.PackedLines.room.Goals as goal

pub returns-clause-most : goal.returns-clause-most
returns-clause-most c =
    rw (← c.self.view_is) (omega (arith, c.room.ensures.room, c.self.invariant.slots, length-lines_of c.self.inside.forms.items c.self.inside.strings.texts))

pub returns-clause-few : goal.returns-clause-few
returns-clause-few c = rw (← c.self.view_is) (omega (arith, few_forms c.self.invariant, length-lines_of c.self.inside.forms.items c.self.inside.strings.texts))
