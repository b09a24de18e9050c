-- Parts of a list of bytes, and writes to a part.
use Rattle.std.specs.Prelude.{◌≡◌, ◌⊎◌, ◌<◌, ◌≤◌, ◌+◌, ℕ, List, ◌++◌, length, take, drop, slice_index_or}

-- the n bytes from index `at` on
unfoldable pub part : ℕ → ℕ → List ℕ → List ℕ
part at n bytes = take n (drop at bytes)

-- the bytes with these in place of as many from index `at` on
abbrev pub written : ℕ → List ℕ → List ℕ → List ℕ
written at bytes old = take at old ++ bytes ++ drop (at + length bytes) old

-- nothing changed but the n bytes from `at` on
pub record ChangesWithin (at n : ℕ) (old new : List ℕ) : Type 0 where
  pub same_length : length new ≡ length old
  pub others : (i d : ℕ) → (i < at) ⊎ (at + n ≤ i) → slice_index_or new i d ≡ slice_index_or old i d
