use Rattle.std.proofs.Common.{rules, ◌∙◌}
use Rattle.line_codec.specs.Slots.{encoding}
use Rattle.byte_parts.proofs.PartLemmas.{put_mid_there}
use Rattle.page_slots.proofs.PutLemmas.{padded_begins}
use Rattle.page_slots.proofs.putting.write_slot.Goals as goal

pub returns-clause-begins : goal.returns-clause-begins
returns-clause-begins c done =
    padded_begins _ (encoding c.args.codec c.args.from.now) _
    (put_mid_there c.args.start _ c.args.room c.args.bytes.now c.to_slot.new.slot (search rules) (search rules) (search rules) ∙ c.to_slot.ensures.written done)
