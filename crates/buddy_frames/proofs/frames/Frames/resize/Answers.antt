use Rattle.buddy_frames.proofs.MoveLemmas.{chosen_free, mark_keeps, set_keeps, used_after, free_apart}
use Rattle.buddy_frames.proofs.frames.Frames.resize.Goals as goal

pub mark-requires-2 : goal.mark-requires-2
mark-requires-2 c = chosen_free _ _ _ _ c.at-moved.ensures c.in-Some.ensures

pub returns-clause-live : goal.returns-clause-live
returns-clause-live c = used_after _ _ _ (chosen_free _ _ _ _ c.at-moved.ensures c.in-Some.ensures).lies c.mark-2.ensures.units

pub returns-clause-keeps : goal.returns-clause-keeps
returns-clause-keeps c = λ other live apart.
    mark_keeps _ _ _ (chosen_free _ _ _ _ c.at-moved.ensures c.in-Some.ensures) c.mark-2.ensures.units other (set_keeps _ _ 0 _ c.clear.ensures.units other live apart)

pub returns-clause-apart : goal.returns-clause-apart
returns-clause-apart c = λ other live apart.
    free_apart _ _ other (chosen_free _ _ _ _ c.at-moved.ensures c.in-Some.ensures) (set_keeps _ _ 0 _ c.clear.ensures.units other live apart)
