use Rattle.std.proofs.Common.{ℕ, ◌<◌, ◌≤◌, ◌≢◌}
use Rattle.page_slots.specs.Lines.{meta, chunk_of}
use Rattle.page_slots.proofs.putting.is_taken.Given as goal

abbrev pub invariant-loop-index : goal.invariant-loop-index
invariant-loop-index l = (j : ℕ) → j < l.index → 128 ≤ meta l.bytes j → chunk_of (meta l.bytes j) ≢ l.number
