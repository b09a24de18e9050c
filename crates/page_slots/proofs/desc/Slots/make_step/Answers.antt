use Rattle.page_slots.proofs.StepLemmas.{step_others, step_chunk, step_sound, step_content}
use Rattle.page_slots.proofs.desc.Slots.make_step.Goals as goal

pub move_line-requires-clause-others : goal.move_line-requires-clause-others
move_line-requires-clause-others c =
    step_others c.args.codec c.args.self c.args.bytes.now c.args.step c.form-before.result c.form-before.ensures.value c.requires.is_step c.requires.sound

pub move_line-requires-clause-chunk_in : goal.move_line-requires-clause-chunk_in
move_line-requires-clause-chunk_in c = step_chunk c.args.codec c.args.self c.args.bytes.now c.args.step c.requires.is_step c.requires.sound

pub returns-clause-sound : goal.returns-clause-sound
returns-clause-sound c =
    step_sound c.args.codec c.args.self c.args.bytes.now c.move_line.new.bytes c.args.step c.form-before.result c.form-before.ensures.value c.move_line.auto.bytes
    c.requires.is_step c.move_line.ensures.lines

pub returns-clause-content : goal.returns-clause-content
returns-clause-content c =
    step_content c.args.codec c.args.self c.args.bytes.now c.move_line.new.bytes c.args.step c.form-before.result c.form-before.ensures.value
    c.requires.is_step c.move_line.ensures.lines
