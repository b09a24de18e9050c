use Rattle.page_mover.proofs.FrontLemmas.{measured_take}
use Rattle.page_mover.proofs.tests.measured_far.Goals as goal

pub far_by-requires : goal.far_by-requires
far_by-requires c =
    (c.requires.measured.0, measured_take c.requires.measured.0 c.args.shape c.args.size c.args.bytes.now c.args.plan c.args.sizes.now c.requires.is_size c.requires.measured.1)
