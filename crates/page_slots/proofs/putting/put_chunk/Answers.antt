use Rattle.std.proofs.Common.{rules, ℕ, ◌+◌, ap}
use Rattle.std.specs.Prelude.{slice_set}
use Rattle.page_slots.proofs.LineLemmas.{bytes_below}
use Rattle.page_slots.proofs.PutLemmas.{put_in_chunk}
use Rattle.page_slots.proofs.putting.put_chunk.Goals as goal

pub returns-clause-puts : goal.returns-clause-puts
returns-clause-puts c codec unfit =
    put_in_chunk codec c.args.form c.args.bytes.now c.write_chunk.new.bytes _ c.args.line c.args.number c.args.from.now
    c.requires.is_form c.requires.line_in (search rules) (bytes_below c.args.from.now (λ i. search rules)) unfit c.requires.above c.requires.below
    c.write_chunk.ensures.changes c.write_chunk.ensures.there
    (ap (λ (v : ℕ). slice_set c.write_chunk.new.bytes c.args.line (128 + v + c.args.number)) c.mark.ensures.value)
