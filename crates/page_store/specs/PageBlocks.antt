-- The blocks that pages have in the frames.
use Rattle.std.specs.Prelude.{◌≡◌, ◌≢◌, ℕ, ◌<◌, ◌≤◌, ◌*◌, List, Option, Some, None, IfSome, slice_get, slice_set}
use Rattle.std.specs.Option.{option_and_then, option_map}
use Rattle.buddy_frames.specs.Units.{Place, place_at, past, in_use, IsPlace, IsUsedPlace, IsChoice, AreApart, taken, given}
use Rattle.page_plan.specs.declared.least.PagePlan.{PagePlan}
use Rattle.page_plan.specs.declared.least.PagePlan.TheVariants as plan
use Rattle.page_plan.specs.Sizes.{order_of}
use Rattle.page_slots.specs.declared.desc.Desc.{Desc}
use Rattle.page_slots.specs.declared.desc.Desc.TheVariants.{Zero, Packed, Raw}
use Rattle.page_slots.specs.Descs.{block_of}

-- the block of the page of a number
abbrev pub block_at : List Desc → ℕ → Option Place
block_at descriptors page = option_and_then block_of (slice_get descriptors page)

-- the first byte of a page's block, of 512 bytes a unit
abbrev pub base_at : List Desc → ℕ → Option ℕ
base_at descriptors page = option_map (λ (block : Place). 512 * block.unit) (block_at descriptors page)

-- a page is kept as its plan says
abbrev pub IsAtPlan : PagePlan → Desc → Type 0
IsAtPlan plan.Zero Zero = Unit {0}
IsAtPlan (plan.Packed order target exceptions) (Packed block t) = (block.order ≡ order) × (t ≡ target)
IsAtPlan plan.Raw (Raw block) = block.order ≡ 3
IsAtPlan plan desc = ⊥

-- the units in use without those of a block
abbrev pub without : List ℕ → Option Place → List ℕ
without used None = used
without used (Some block) = given used block

-- and with those of a block
abbrev pub with_block : List ℕ → Option Place → List ℕ
with_block used None = used
with_block used (Some block) = taken used block

-- the units in use where one block takes the place of another
abbrev pub moved : List ℕ → Option Place → Option Place → List ℕ
moved used before after = with_block (without used before) after

-- Where the new block of a page lies: in the first units of its old one, where that has room for it, and else where the
-- frames choose with the old one's units counted as free.
abbrev pub IsNewBlock : List ℕ → Option Place → Option Place → Type 0
IsNewBlock used before None = Unit {0}
IsNewBlock used None (Some block) = IsChoice used block.order block
IsNewBlock used (Some old) (Some block) = (block.order ≤ old.order → block.unit ≡ old.unit)
    × (old.order < block.order → IsChoice (given used old) block.order block)

-- a page has no block of this order or above
abbrev pub Outgrows : Option Place → ℕ → Type 0
Outgrows held order = IfSome held (λ block. block.order < order)

-- one page comes to its plan, and every other stays as it is
pub record ComesToPlan (descriptors : List Desc) (used : List ℕ) (page : ℕ) (plan : PagePlan) (descriptors' : List Desc) (used' : List ℕ) : Type 0 where
  pub desc : Desc
  pub at_plan : IsAtPlan plan desc
  pub new_block : IsNewBlock used (block_at descriptors page) (block_of desc)
  pub descriptors_are : descriptors' ≡ slice_set descriptors page desc
  pub used_is : used' ≡ moved used (block_at descriptors page) (block_of desc)

-- a place of the frames that no block of another page meets
pub record IsFreeFor (descriptors : List Desc) (used : List ℕ) (page : ℕ) (place : Place) : Type 0 where
  pub lies : IsPlace used place
  pub free : (other : ℕ) (block : Place) → other ≢ page → block_at descriptors other ≡ Some block → AreApart block place

-- where the plan asks for a block, a place of its order is free for the page
abbrev pub HasRoom : List Desc → List ℕ → ℕ → PagePlan → Type 0
HasRoom descriptors used page plan = (order : ℕ) → order_of plan ≡ Some order → (unit : ℕ) × IsFreeFor descriptors used page (place_at order unit)

-- no place of the order of the plan is free for the page, and its own block is of a lower order
pub record LacksRoom (descriptors : List Desc) (used : List ℕ) (page : ℕ) (plan : PagePlan) (order : ℕ) : Type 0 where
  pub order_is : order_of plan ≡ Some order
  pub none : (unit : ℕ) → IsFreeFor descriptors used page (place_at order unit) → ⊥
  pub outgrown : Outgrows (block_at descriptors page) order

-- a unit is one of a place's
abbrev pub IsIn : ℕ → Place → Type 0
IsIn unit place = (place.unit ≤ unit) × (unit < past place)

-- each block is in use, those of different pages share no unit, and every unit in use is one of a block
pub record AreSound (descriptors : List Desc) (used : List ℕ) : Type 0 where
  pub live : (page : ℕ) (block : Place) → block_at descriptors page ≡ Some block → IsUsedPlace used block
  pub apart : (page other : ℕ) (block others : Place) → page ≢ other → block_at descriptors page ≡ Some block
      → block_at descriptors other ≡ Some others → AreApart block others
  pub owned : (unit : ℕ) → in_use used unit ≡ 1 → (page : ℕ) × ((block : Place) × ((block_at descriptors page ≡ Some block) × IsIn unit block))

-- how each page is kept, and the bytes of the frames
pub record HeldBlocks : Type 0 where
  pub descriptors : List Desc
  pub used : List ℕ
