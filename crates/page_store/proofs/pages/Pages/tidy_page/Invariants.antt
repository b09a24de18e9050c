use Rattle.std.proofs.Common.{ℕ}
use Rattle.page_store.specs.Lays.{KeepsLines}
use Rattle.page_store.specs.Turns.{TidyTurns, far_at}
use Rattle.page_store.proofs.pages.Pages.tidy_page.Given as goal

abbrev pub invariant-loop-self : goal.invariant-loop-self
invariant-loop-self l = record {
  turns : (count : ℕ) × TidyTurns l.fn.self l.page count l.self;
  keeps : KeepsLines l.fn.self l.self;
}

abbrev pub decreases-loop-self : goal.decreases-loop-self
decreases-loop-self l = far_at l.self l.page
