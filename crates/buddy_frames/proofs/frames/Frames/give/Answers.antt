use Rattle.buddy_frames.proofs.MoveLemmas.{set_keeps}
use Rattle.buddy_frames.proofs.frames.Frames.give.Goals as goal

pub returns-clause-keeps : goal.returns-clause-keeps
returns-clause-keeps c = set_keeps _ _ 0 _ c.clear.ensures.units
