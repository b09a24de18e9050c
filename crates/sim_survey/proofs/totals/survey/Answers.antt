use Rattle.std.proofs.Common.{◌∙◌, ap}
use Rattle.page_plan.specs.Pages.{pages_of}
use Rattle.sim_survey.specs.Filled.{lines_of_filled}
use Rattle.size_ledger.specs.Shares.{totals_of}
use Rattle.sim_survey.proofs.TotalLemmas.{rows_few, totals_are}
use Rattle.page_plan.proofs.TotalLemmas.{rows_known}
use Rattle.sim_survey.proofs.totals.survey.Goals as goal

pub sum-requires-clause-few : goal.sum-requires-clause-few
sum-requires-clause-few g c =
    rw (c.deref.ensures.value, c.in_ok-rows.ensures) (rows_few c.args.codec c.args.bytes.now c.requires)

pub sum-requires-clause-known : goal.sum-requires-clause-known
sum-requires-clause-known g c =
    rw (c.deref.ensures.value, c.in_ok-rows.ensures) (rows_known c.args.codec (pages_of (lines_of_filled c.args.bytes.now)))

pub returns : goal.returns
returns g c =
    c.sum.ensures ∙ ap totals_of (c.deref.ensures.value ∙ c.in_ok-rows.ensures) ∙ totals_are c.args.codec (lines_of_filled c.args.bytes.now)
