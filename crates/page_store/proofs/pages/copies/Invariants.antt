use Rattle.std.proofs.Common.{◌≡◌, replicate}
use Rattle.page_store.proofs.pages.copies.Given as goal

abbrev pub invariant-loop-done : goal.invariant-loop-done
invariant-loop-done g l = l.made.items ≡ replicate l.done l.value
