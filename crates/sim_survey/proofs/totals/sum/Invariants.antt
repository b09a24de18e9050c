use Rattle.std.proofs.Common.{◌≡◌, take}
use Rattle.size_ledger.specs.Ranges.{AreWithinPages}
use Rattle.size_ledger.specs.Shares.{totals_of}
use Rattle.sim_survey.proofs.totals.sum.Given as goal

abbrev pub invariant-loop-page : goal.invariant-loop-page
invariant-loop-page l = record {
  so_far : l.ledger ≡ totals_of (take l.page l.rows);
  most : AreWithinPages l.page l.ledger;
}
