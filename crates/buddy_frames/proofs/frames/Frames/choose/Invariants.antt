use Rattle.std.proofs.Common.{◌≤◌, ◌<◌, ℕ}
use Rattle.buddy_frames.specs.Units.{place_at, IsFreeBlock}
use Rattle.buddy_frames.proofs.frames.Frames.choose.Given as goal

abbrev pub invariant-loop-k : goal.invariant-loop-k
invariant-loop-k l = (j u : ℕ) → l.order ≤ j → j < l.k → IsFreeBlock l.self (place_at j u) → ⊥
