-- A ring of slots, by the links of each.
use Rattle.std.specs.Prelude.{◌≡◌, ◌<◌, ◌+◌, ◌==◌, ℕ, zero, suc, false, List, [], ◌∷◌, length, slice_index, if◌then◌else◌}
use Rattle.recency.specs.Uses.{has, IsDistinct, AllBelow}

-- the links lead through the slots, from one number to another
abbrev pub Links : List ℕ → ℕ → List ℕ → ℕ → Type 0
Links next from [] to = slice_index next from ≡ to
Links next from (s ∷ slots) to = (slice_index next from ≡ s) × Links next s slots to

-- and lead back
abbrev pub Back : List ℕ → ℕ → List ℕ → ℕ → Type 0
Back prev from [] to = slice_index prev to ≡ from
Back prev from (s ∷ slots) to = (slice_index prev s ≡ from) × Back prev s slots to

-- the numbers that are met until one, at most so many
abbrev pub walk : List ℕ → ℕ → ℕ → ℕ → List ℕ
walk next zero at to = []
walk next (suc fuel) at to = if at == to then [] else at ∷ walk next fuel (slice_index next at) to

-- the slots of the ring that goes through the number of ways
abbrev pub slots_of : List ℕ → ℕ → List ℕ
slots_of next ways = walk next (length next) (slice_index next ways) ways

-- These slots stand in the ring that goes through the number of ways, and each other slot leads to itself.
pub record IsRing (next prev : List ℕ) (ways : ℕ) (slots : List ℕ) : Type 0 where
  pub next_len : length next ≡ ways + 1
  pub prev_len : length prev ≡ ways + 1
  pub forth : Links next ways slots ways
  pub back : Back prev ways slots ways
  pub distinct : IsDistinct slots
  pub below : AllBelow slots ways
  pub short : length slots < ways + 1
  pub alone : (slot : ℕ) → slot < ways → has slots slot ≡ false → slice_index next slot ≡ slot

-- The links are a ring, with its first number and the count of its slots.
pub record IsLinked (next prev : List ℕ) (ways head count : ℕ) : Type 0 where
  pub ring : IsRing next prev ways (slots_of next ways)
  pub first_is : head ≡ slice_index next ways
  pub count_is : count ≡ length (slots_of next ways)

-- each number up to the last one leads to itself
pub record LeadsToItself (links : List ℕ) (last : ℕ) : Type 0 where
  pub len : length links ≡ last + 1
  pub each : (number : ℕ) → number < last + 1 → slice_index links number ≡ number
