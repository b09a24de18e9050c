use Rattle.std.proofs.Common.{◌≡◌, ◌∙◌, List, length, replicate, sym, ap, subst}
use Rattle.recency.specs.Kept.{Kept}
use Rattle.recency.specs.Levels.{KeepsUnder}
use Rattle.recency.proofs.LevelLemmas.{length-overlay}
use Rattle.hier_machine.specs.Memory.{Memory, lines_below}
use Rattle.hier_machine.proofs.MemoryLemmas.{empty_set, keeps_none}
use Rattle.hier_machine.proofs.errands.place_under.Goals as goal

pub below_do-requires-clause-keeps : goal.below_do-requires-clause-keeps
below_do-requires-clause-keeps c = λ after below did.
    let settings = c.args.settings.now in
    let old = c.args.memory.now in
    let sets : old.sets ≡ replicate settings.l1_sets (empty_set settings.l1_ways) = ap (λ (m : Memory). m.sets) c.requires.empty in
    let size : length (lines_below below) ≡ length (lines_below old.below) =
    length-overlay below.below.lines below.sets ∙ did.0.size ∙ sym (length-overlay old.below.below.lines old.below.sets) in
    subst (λ (kept : List Kept). KeepsUnder kept (lines_below old.below) (lines_below below)) (sym sets)
    (keeps_none settings.l1_sets settings.l1_ways (lines_below old.below) (lines_below below) size)
