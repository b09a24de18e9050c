use Rattle.line_codec.proofs.SlotLemmas.{slots_say}
use Rattle.line_codec.proofs.slots.slots_say_lines.Goals as goal

pub returns : goal.returns
returns c = slots_say
