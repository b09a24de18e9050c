use Rattle.page_slots.proofs.PlaceLemmas.{suits}
use Rattle.page_slots.proofs.placing.places_suit_lines.Goals as goal

pub returns : goal.returns
returns c = suits
