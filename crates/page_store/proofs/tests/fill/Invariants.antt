use Rattle.std.proofs.Common.{◌≡◌, length}
use Rattle.page_store.proofs.tests.fill.Given as goal

abbrev pub invariant-loop-index : goal.invariant-loop-index
invariant-loop-index l = length l.pages.lines ≡ length l.fn.pages.lines
