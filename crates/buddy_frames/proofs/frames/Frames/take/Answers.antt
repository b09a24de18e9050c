use Rattle.buddy_frames.proofs.MoveLemmas.{chosen_free, mark_keeps, used_after, free_apart}
use Rattle.buddy_frames.proofs.frames.Frames.take.Goals as goal

pub mark-requires : goal.mark-requires
mark-requires c = chosen_free _ _ _ _ c.at-chosen.ensures c.in-Some.ensures

pub returns-clause-live : goal.returns-clause-live
returns-clause-live c = used_after _ _ _ (chosen_free _ _ _ _ c.at-chosen.ensures c.in-Some.ensures).lies c.mark.ensures.units

pub returns-clause-keeps : goal.returns-clause-keeps
returns-clause-keeps c = mark_keeps _ _ _ (chosen_free _ _ _ _ c.at-chosen.ensures c.in-Some.ensures) c.mark.ensures.units

pub returns-clause-apart : goal.returns-clause-apart
returns-clause-apart c = λ other live. free_apart _ _ other (chosen_free _ _ _ _ c.at-chosen.ensures c.in-Some.ensures) live
