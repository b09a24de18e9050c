use Rattle.page_slots.proofs.HoistLemmas.{hoist_sound, hoist_content}
use Rattle.page_slots.proofs.desc.Slots.hoist.Goals as goal

pub returns-clause-sound : goal.returns-clause-sound
returns-clause-sound c codec sound =
    let lines = rw c.form-form.ensures.value at c.hoist_line.ensures.lines in
    hoist_sound codec c.args.self c.args.bytes.now c.hoist_line.new.bytes c.hoist_line.auto.bytes sound.holds (lines codec sound.lines)

pub returns-clause-content : goal.returns-clause-content
returns-clause-content c =
    let lines = rw c.form-form.ensures.value at c.hoist_line.ensures.lines in
    hoist_content c.requires.sound.0 c.args.self c.args.bytes.now c.hoist_line.new.bytes (lines c.requires.sound.0 c.requires.sound.1.lines)
