use Rattle.page_slots.proofs.PlaceLemmas.{fit}
use Rattle.page_slots.proofs.placing.places_fit.Goals as goal

pub returns : goal.returns
returns c = fit
