use Rattle.page_mover.proofs.FrontLemmas.{packed_room, zeros_room}
use Rattle.page_mover.proofs.tests.shape_for.Goals as goal

pub returns-in-Zero : goal.returns-in-Zero
returns-in-Zero c = zeros_room c.args.codec c.args.lines.now c.plan.result c.in-Zero.is c.plan.ensures.value

pub returns-in-Packed : goal.returns-in-Packed
returns-in-Packed c =
    packed_room c.args.codec c.args.lines.now c.plan.result c.packed.result c.in-Packed.order c.in-Packed.target c.in-Packed.exceptions c.in-Packed.is c.plan.ensures.value c.packed.ensures
