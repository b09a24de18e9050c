use Rattle.std.proofs.Common.{ℕ, ◌≤◌, ◌<◌}
use Rattle.page_store.specs.Store.{HasZero}
use Rattle.page_store.proofs.tests.places_eight_pages_in_a_frame.Given as goal

abbrev pub invariant-loop-page : goal.invariant-loop-page
invariant-loop-page g l = (other : ℕ) → l.page ≤ other → other < 9 → HasZero l.pages other
