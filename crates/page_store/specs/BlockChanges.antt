-- One page's block among the units in use, before and after the page comes to another plan.
use Rattle.std.specs.Prelude.{◌≡◌, ℕ, ◌⊎◌, List, length, Option, Some, IfSome, IsSomeAnd}
use Rattle.buddy_frames.specs.Units.{Place, place_at, in_use, IsPlace, IsUsedPlace, AreApart}
use Rattle.page_store.specs.PageBlocks.{moved, IsNewBlock, IsIn}

-- another place shares no unit with a page's block
abbrev pub IsApartFrom : Option Place → Place → Type 0
IsApartFrom held other = IfSome held (λ block. AreApart block other)

-- a place whose units in use are all of a page's block
pub record IsFreeBut (used : List ℕ) (held : Option Place) (place : Place) : Type 0 where
  pub lies : IsPlace used place
  pub free : (unit : ℕ) → IsIn unit place → in_use used unit ≡ 1 → IsSomeAnd held (IsIn unit)

-- no place of an order is free, the page's block counted as free
abbrev pub HasNoneBut : List ℕ → Option Place → ℕ → Type 0
HasNoneBut used held order = (unit : ℕ) → IsFreeBut used held (place_at order unit) → ⊥

-- The page's block is changed for another as it is to be, and the blocks of other pages stay in use and apart from it. A unit in
-- use after it is the new block's, or was in use and not the old block's.
pub record ChangesBlock (used : List ℕ) (before after : Option Place) (used' : List ℕ) : Type 0 where
  pub new_block : IsNewBlock used before after
  pub used_is : used' ≡ moved used before after
  pub same : length used' ≡ length used
  pub live : IfSome after (IsUsedPlace used')
  pub keeps : (other : Place) → IsUsedPlace used other → IsApartFrom before other → IsUsedPlace used' other
  pub apart : (other : Place) → IsUsedPlace used other → IsApartFrom before other → IsApartFrom after other
  pub owned : (unit : ℕ) → in_use used' unit ≡ 1 → IsSomeAnd after (IsIn unit) ⊎ ((in_use used unit ≡ 1) × ¬ IsSomeAnd before (IsIn unit))

-- a page comes into a block of an order
pub record GetsBlock (used : List ℕ) (before : Option Place) (order : ℕ) (block : Place) (used' : List ℕ) : Type 0 where
  pub order_is : block.order ≡ order
  pub changes : ChangesBlock used before (Some block) used'
