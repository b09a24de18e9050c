use Rattle.std.proofs.Common.{◌≡◌, length}
use Rattle.page_store.proofs.tests.turns.lines_stay_over_turns_and_refusals.Given as goal

abbrev pub invariant-loop-step : goal.invariant-loop-step
invariant-loop-step g l = length l.pages.lines ≡ 256
