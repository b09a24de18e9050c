-- The frames as they are kept: a byte each, and an index for each order.
use Rattle.std.specs.Prelude.{◌<◌, ◌≤◌, ℕ, List, length, slice_index}
use Rattle.buddy_frames.specs.Indexes.{IsIndexed}
use Rattle.buddy_frames.specs.declared.free_index.FreeIndex.{FreeIndex}

-- 1 to 65,536 bytes
pub record AreFrames (bytes : List ℕ) : Type 0 where
  pub some : 1 ≤ length bytes
  pub most : length bytes ≤ 65536
  pub small : (f : ℕ) → slice_index bytes f < 256

-- the bytes are frames, and each order's index is true of them
pub record IsKept (bytes : List ℕ) (singles pairs fours wholes : FreeIndex) : Type 0 where
  pub frames_are : AreFrames bytes
  pub singles_are : IsIndexed bytes 0 singles.frames singles.count
  pub pairs_are : IsIndexed bytes 1 pairs.frames pairs.count
  pub fours_are : IsIndexed bytes 2 fours.frames fours.count
  pub wholes_are : IsIndexed bytes 3 wholes.frames wholes.count
