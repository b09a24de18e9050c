-- A second level above a layer.
use Rattle.std.specs.Prelude.{◌≡◌, ◌<◌, ◌≤◌, ℕ, List, length, All}
use Rattle.hier_types.specs.declared.counts.L2Counts.{L2Counts}
use Rattle.hier_types.specs.declared.settings.Codec.{Codec}
use Rattle.recency.specs.Kept.{Kept}
use Rattle.recency.specs.Levels.{overlay, IsSound, IsMasked}
use Rattle.l2_cache.specs.PackedSet.{KeptUnder, kept_sets}

-- what is seen of sets in bounded room
pub record Rooms : Type 0 where
  pub codec : Codec
  pub sets : List Kept

-- The sets are a power of two, and each has so many tags and the codec.
pub record AreRooms (codec : Codec) (tags mask : ℕ) (sets : List KeptUnder) : Type 0 where
  pub two : 2 ≤ tags
  pub few : tags ≤ 32
  pub masked : IsMasked (kept_sets sets) mask
  pub alike : All (λ (set : KeptUnder). (set.codec ≡ codec) × (set.kept.ways ≡ tags)) sets

-- what is seen of a second level; the cursor is the number of the cleaner's set
pub record SecondLevel (B : Type 0) : Type 0 where
  pub below : B
  pub codec : Codec
  pub sets : List Kept
  pub cursor : ℕ
  pub counts : L2Counts

-- its lines: the copies that it keeps, and else the lines below
abbrev pub lines_of_second : {B : Type 0} → (B → List (List ℕ)) → SecondLevel B → List (List ℕ)
lines_of_second content level = overlay (content level.below) level.sets

-- The sets fit the lines below, and the cleaner stands at one of them.
pub record IsSecondLevel (lines : List (List ℕ)) (sets : List Kept) (cursor : ℕ) : Type 0 where
  pub sound : IsSound lines sets
  pub turn : cursor < length sets
  pub few : length sets ≤ 4096
