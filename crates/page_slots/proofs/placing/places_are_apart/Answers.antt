use Rattle.page_slots.proofs.PlaceLemmas.{apart}
use Rattle.page_slots.proofs.placing.places_are_apart.Goals as goal

pub returns : goal.returns
returns c = apart
