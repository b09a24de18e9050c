use Rattle.std.proofs.Common.{◌≢◌, ◌<◌, ℕ}
use Rattle.page_store.specs.Lays.{KeepsLines, TidiedUpTo, plan_at}
use Rattle.page_store.specs.PageBlocks.{IsAtPlan}
use Rattle.page_store.specs.Store.{desc_at}
use Rattle.page_store.proofs.pages.Pages.tidy_others.Given as goal

abbrev pub invariant-loop-page : goal.invariant-loop-page
invariant-loop-page l = record {
  tidied : TidiedUpTo l.fn.self l.fn.but l.page l.self;
  keeps : KeepsLines l.fn.self l.self;
  at_plan : (q : ℕ) → q < l.page → q ≢ l.fn.but → IsAtPlan (plan_at l.fn.self q) (desc_at l.self.descriptors q);
}
