use Rattle.std.proofs.Common.{◌∙◌, ap, ◌%◌, length}
use Rattle.std.proofs.lemmas.List.{length-map}
use Rattle.recency.proofs.LevelLemmas.{masked}
use Rattle.l2_cache.specs.PackedSet.{KeptUnder, kept_sets}
use Rattle.l2_cache.proofs.room_sets.index_of.Goals as goal

pub returns-clause-index : goal.returns-clause-index
returns-clause-index c = masked c.args.line c.args.mask (length (kept_sets c.args.sets.now.items)) 4096 c.requires.size c.requires.power ∙ ap (λ n. c.args.line % n) (length-map c.args.sets.now.items (λ (set : KeptUnder). set.kept))
