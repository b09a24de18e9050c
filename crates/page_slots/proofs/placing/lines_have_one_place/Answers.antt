use Rattle.page_slots.proofs.PlaceLemmas.{one_place}
use Rattle.page_slots.proofs.placing.lines_have_one_place.Goals as goal

pub returns : goal.returns
returns c = one_place
