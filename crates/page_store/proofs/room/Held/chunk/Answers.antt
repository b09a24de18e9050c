use Rattle.std.proofs.Common.{◌∙◌, ap, ℕ}
use Rattle.std.proofs.lemmas.List.{append-nil}
use Rattle.byte_parts.specs.Parts.{part}
use Rattle.page_store.proofs.HeldLemmas.{first_bytes}
use Rattle.page_store.proofs.room.Held.chunk.Goals as goal

pub returns : goal.returns
returns c =
    c.read_part.ensures ∙ append-nil (part c.start.result 64 c.args.memory.now) ∙ ap (λ (i : ℕ). part i 64 c.args.memory.now) c.start.ensures.value
    ∙ first_bytes c.args.self 64 c.args.memory.now c.requires.some
