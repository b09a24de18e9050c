use Rattle.buddy_frames.proofs.MoveLemmas.{first_free, used_after, mark_keeps, set_keeps, free_apart}
use Rattle.buddy_frames.proofs.frames.Frames.trim.Goals as goal

pub mark-requires : goal.mark-requires
mark-requires c = first_free _ c.args.block _ _ _ _ c.at-kept.ensures c.unit.ensures c.requires.smaller c.requires.live.lies c.clear.ensures.units

pub returns-clause-live : goal.returns-clause-live
returns-clause-live c = used_after _ _ _ (first_free _ c.args.block _ _ _ _ c.at-kept.ensures c.unit.ensures c.requires.smaller c.requires.live.lies c.clear.ensures.units).lies c.mark.ensures.units

pub returns-clause-keeps : goal.returns-clause-keeps
returns-clause-keeps c = λ other live apart.
    mark_keeps _ _ _ (first_free _ c.args.block _ _ _ _ c.at-kept.ensures c.unit.ensures c.requires.smaller c.requires.live.lies c.clear.ensures.units) c.mark.ensures.units other
    (set_keeps _ _ 0 _ c.clear.ensures.units other live apart)

pub returns-clause-apart : goal.returns-clause-apart
returns-clause-apart c = λ other live apart.
    free_apart _ _ other (first_free _ c.args.block _ _ _ _ c.at-kept.ensures c.unit.ensures c.requires.smaller c.requires.live.lies c.clear.ensures.units)
    (set_keeps _ _ 0 _ c.clear.ensures.units other live apart)
