use Rattle.page_slots.proofs.CountLemmas.{slotted_room}
use Rattle.page_slots.proofs.laying.slotted_pages_have_room.Goals as goal

pub returns : goal.returns
returns c = slotted_room
