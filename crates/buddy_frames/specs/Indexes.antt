-- The index of one order's free blocks, against the frames' bytes.
use Rattle.std.specs.Prelude.{◌≡◌, ◌<◌, ◌≤◌, ◌==◌, not, ℕ, true, List, length, slice_index}
use Rattle.std.specs.List.{sum_by}
use Rattle.buddy_frames.specs.FrameByte.{block_free, blocks_of}
use Rattle.number_set.specs.Numbers.{has, bit_of}
use Rattle.buddy_frames.specs.Units.{place_at, IsFreeBlock}

-- a set has the frames with a free block of an order, and a count is the number of these blocks
pub record IsIndexed (bytes : List ℕ) (order : ℕ) (set : List ℕ) (count : ℕ) : Type 0 where
  pub marks : (f : ℕ) → f < length bytes → has set f ≡ bit_of (not (blocks_of order (slice_index bytes f) == 0))
  pub beyond : (f : ℕ) → length bytes ≤ f → f < 65536 → has set f ≡ 0
  pub counts : count ≡ sum_by (blocks_of order) bytes

-- no frame has a free block of an order
abbrev pub HasNoFrame : List ℕ → ℕ → Type 0
HasNoFrame used order = (f at : ℕ) → f < length used → at < 8 → block_free (slice_index used f) order at ≡ true → ⊥

-- a frame has a free block of an order, and none before it has one
pub record IsFirstFrame (used : List ℕ) (order frame : ℕ) : Type 0 where
  pub within : frame < length used
  pub at : ℕ
  pub at_lt : at < 8
  pub block : block_free (slice_index used frame) order at ≡ true
  pub before : (f a : ℕ) → f < frame → a < 8 → block_free (slice_index used f) order a ≡ true → ⊥

-- there is no free block of an order
abbrev pub HasNoBlock : List ℕ → ℕ → Type 0
HasNoBlock used order = (unit : ℕ) → IsFreeBlock used (place_at order unit) → ⊥

-- the lowest free block of an order
pub record IsLowestBlock (used : List ℕ) (order unit : ℕ) : Type 0 where
  pub block : IsFreeBlock used (place_at order unit)
  pub lowest : (u : ℕ) → IsFreeBlock used (place_at order u) → unit ≤ u
