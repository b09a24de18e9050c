use Rattle.std.proofs.Common.{◌*◌, length}
use Rattle.buddy_frames.specs.Units.{place_at, IsFreeBlock}
use Rattle.page_store.specs.PageBlocks.{AreSound}
use Rattle.page_store.proofs.CrowdLemmas.{none_counted, none_free}
use Rattle.page_store.proofs.pages.Pages.free.Goals as goal

pub returns-clause-crowded : goal.returns-clause-crowded
returns-clause-crowded c refusal crowded le =
    let now = c.args.self.now in
    let sound : AreSound now.descriptors now.used = rw (← c.self.view_is) c.self.invariant.kept.sound.blocks_are in
    none_counted (8 * length now.used) (λ unit. IsFreeBlock now.used (place_at c.args.order unit)) c.free.result
    (λ unit block. none_free now refusal c.args.order unit sound crowded le block) (rw (← c.self.view_is) c.free.ensures)
