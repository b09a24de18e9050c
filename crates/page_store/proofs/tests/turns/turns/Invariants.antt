use Rattle.std.proofs.Common.{◌≡◌, length}
use Rattle.page_store.proofs.tests.turns.turns.Given as goal

abbrev pub invariant-loop-turn : goal.invariant-loop-turn
invariant-loop-turn l = length l.pages.lines ≡ length l.fn.pages.lines
