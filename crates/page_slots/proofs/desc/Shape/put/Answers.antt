use Rattle.page_slots.specs.Lines.{content_at}
use Rattle.page_slots.specs.Forms.{form_of}
use Rattle.page_slots.specs.Puts.{with_line}
use Rattle.page_slots.proofs.LineLemmas.{exception_of}
use Rattle.page_slots.proofs.SoundLemmas.{others_of, slotted_by, content_by, raw_by}
use Rattle.page_slots.proofs.desc.Shape.put.Goals as goal

pub put_line-requires-clause-chunk_in : goal.put_line-requires-clause-chunk_in
put_line-requires-clause-chunk_in c high =
    let sound = rw c.in-Slotted.is at c.requires.sound in
    rw c.form-form.ensures.value (exception_of c.args.codec (form_of c.in-Slotted.slots) c.args.bytes.now c.args.line _ (sound.lines.has c.args.line c.requires.line_in) high)

pub returns-in-Raw-clause-content : goal.returns-in-Raw-clause-content
returns-in-Raw-clause-content c done =
    let whole = rw c.in-Raw.is at c.requires.sound in
    rw c.in-Raw.is (raw_by c.args.bytes.now c.write_chunk.new.bytes c.args.line c.args.from.now whole c.requires.line_in c.write_chunk.ensures.changes c.write_chunk.ensures.there)

pub returns-in-Slotted-clause-sound : goal.returns-in-Slotted-clause-sound
returns-in-Slotted-clause-sound c =
    let sound = rw c.in-Slotted.is at c.requires.sound in
    let form = form_of c.in-Slotted.slots in
    let done = rw c.form-form.ensures.value at c.put_line.ensures.done in
    rw c.in-Slotted.is (slotted_by c.args.codec c.in-Slotted.slots c.args.bytes.now c.put_line.new.bytes (with_line (content_at form c.args.bytes.now) c.args.line c.args.from.now)
    c.put_line.result c.put_line.auto.bytes sound
    (λ e. done e _ (others_of c.args.codec form c.args.bytes.now c.args.line _ sound.lines)) c.put_line.ensures.unchanged)

pub returns-in-Slotted-clause-content : goal.returns-in-Slotted-clause-content
returns-in-Slotted-clause-content c e =
    let sound = rw c.in-Slotted.is at c.requires.sound in
    let form = form_of c.in-Slotted.slots in
    let done = rw c.form-form.ensures.value at c.put_line.ensures.done in
    rw c.in-Slotted.is (content_by c.args.codec form c.args.bytes.now c.put_line.new.bytes c.args.line c.args.from.now c.requires.line_in
    (done e _ (others_of c.args.codec form c.args.bytes.now c.args.line _ sound.lines)))
