use Rattle.std.proofs.Common.{◌≡◌, ◌∙◌}
use Rattle.page_store.specs.Rows.{totals_at}
use Rattle.page_store.specs.Store.{IsSound}
use Rattle.page_store.proofs.TotalLemmas.{totals_planned}
use Rattle.page_store.proofs.pages.Pages.totals.Goals as goal

pub returns-clause-at_plan : goal.returns-clause-at_plan
returns-clause-at_plan c planned =
    let sound : IsSound c.args.self.now = rw (← c.self.view_is) c.self.invariant.kept.sound in
    let are : c.self.inside.ledger ≡ totals_at c.args.self.now = rw (← c.self.view_is) c.self.invariant.totals_are in
    c.totals.ensures ∙ are ∙ totals_planned c.args.self.now sound planned
