use Rattle.std.proofs.Common.{ℕ, ◌<◌, ◌≤◌, ◌≢◌}
use Rattle.page_slots.specs.Lines.{meta, chunk_of}
use Rattle.page_slots.proofs.moving.owner.Given as goal

abbrev pub invariant-loop-line : goal.invariant-loop-line
invariant-loop-line l = (j : ℕ) → j < l.line → 128 ≤ meta l.bytes j → chunk_of (meta l.bytes j) ≢ l.number
