-- Counts that never fall.
use Rattle.std.proofs.Common.{ℕ, ◌≤◌, arith}
use Rattle.hier_types.specs.Causes.{Rose, raised}

pub later_raised : (count : ℕ) → count ≤ raised count
later_raised count = grind arith

raised-le : (a b : ℕ) → a ≤ b → raised a ≤ raised b
raised-le a b le = grind arith

-- a count that rose since a moment rose since an earlier one
pub rose_since : (old mid now : ℕ) → old ≤ mid → Rose mid now → Rose old now
rose_since old mid now le rose = omega (arith, raised-le old mid le)
