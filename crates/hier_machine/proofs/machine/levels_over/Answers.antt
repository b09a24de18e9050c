use Rattle.std.proofs.Common.{◌∙◌, ◌*◌, length, ap}
use Rattle.l2_cache.specs.SecondLevel.{lines_of_second}
use Rattle.page_store.specs.Store.{Store}
use Rattle.hier_machine.specs.Memory.{Below}
use Rattle.hier_machine.proofs.MemoryLemmas.{overlay_none}
use Rattle.hier_machine.proofs.machine.levels_over.Goals as goal

pub new-requires-2-clause-size : goal.new-requires-2-clause-size
new-requires-2-clause-size c =
    let settings = c.args.settings.now in
    ap (λ (s : Below). length (lines_of_second (λ (p : Store). p.lines) s)) c.in_ok-second.ensures ∙ ap length (overlay_none c.args.store.lines settings.l2_sets (2 * settings.l2_ways)) ∙ c.requires.lines
