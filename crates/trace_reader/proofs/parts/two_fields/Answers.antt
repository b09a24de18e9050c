use Rattle.std.proofs.Common.{◌≡◌, ◌∙◌, ◌==◌, List, ℕ, ◌∷◌, Option, ap, sym}
use Rattle.std.specs.Borrow.{Bor}
use Rattle.trace_reader.specs.Fields.{two_of}
use Rattle.trace_reader.specs.Parts.{parts, parts_behind}
use Rattle.trace_reader.proofs.PartLemmas.{two-none}
use Rattle.trace_reader.proofs.parts.two_fields.Goals as goal

pub returns-in-Some : goal.returns-in-Some
returns-in-Some c =
    let one = c.cut.result.0.now in
    let two = c.cut-2.result.0.now in
    let more = c.in-Some.field-0.now in
    let found : parts_behind 32 c.args.bytes ≡ one ∷ two ∷ parts 32 more =
    ap (parts_behind 32) c.in_ok-bytes.was
    ∙ c.cut.ensures.parts
    ∙ ap (λ (behind : Option (Bor (List ℕ))). one ∷ parts_behind 32 behind) c.in_ok-behind.was
    ∙ ap (λ (rest : List (List ℕ)). one ∷ rest) c.cut-2.ensures.parts
    ∙ ap (λ (behind : Option (Bor (List ℕ))). one ∷ two ∷ parts_behind 32 behind) c.in-Some.is in
    sym (ap two_of found ∙ two-none (λ byte. byte == 32) one two more)
