use Rattle.std.proofs.Common.{◌≡◌}
use Rattle.hier_types.specs.Tabulate.{tabulate}
use Rattle.page_store.proofs.LedgerLemmas.{zeros_row}
use Rattle.size_ledger.specs.Ranges.{AreWithinPages}
use Rattle.size_ledger.specs.Shares.{totals_of}
use Rattle.page_store.proofs.pages.Pages.new.Given as goal

abbrev pub invariant-loop-page : goal.invariant-loop-page
invariant-loop-page l = record {
  so_far : l.ledger ≡ totals_of (tabulate (λ q. zeros_row) l.page);
  most : AreWithinPages l.page l.ledger;
}
