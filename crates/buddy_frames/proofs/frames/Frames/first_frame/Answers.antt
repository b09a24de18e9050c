use Rattle.buddy_frames.proofs.IndexLemmas.{first_of_index}
use Rattle.buddy_frames.proofs.frames.Frames.first_frame.Goals as goal

pub returns : goal.returns
returns c = first_of_index _ _ _ _ c.index-index.ensures.indexed c.index-index.ensures.most _ c.first.ensures
