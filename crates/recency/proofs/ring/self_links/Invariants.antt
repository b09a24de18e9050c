use Rattle.std.proofs.Common.{◌≡◌, ◌<◌, ℕ, length, get_or}
use Rattle.recency.proofs.ring.self_links.Given as goal

abbrev pub invariant-loop-number : goal.invariant-loop-number
invariant-loop-number l = (length l.links.items ≡ l.number) × ((number : ℕ) → number < l.number → get_or l.links.items number 0 ≡ number)
