-- The units of frames. Frames are a list of bytes, one a frame: bit i of the byte tells whether its unit i is in use.
-- Places and free blocks are those of the binary buddy system (Knuth, The Art of Computer Programming 1, 2.5).
use Rattle.std.specs.Prelude.{◌≡◌, ◌<◌, ◌≤◌, ◌+◌, ◌-◌, ◌*◌, ◌/◌, ◌%◌, ◌^◌, ◌&&◌, ◌⊎◌, ℕ, zero, suc, List, length, slice_index, slice_set, if◌then◌else◌, nat_lt, nat_le}
use Rattle.std.specs.Int.{bit_at}

-- 1 where the unit is in use, else 0
abbrev pub in_use : List ℕ → ℕ → ℕ
in_use used unit = bit_at (slice_index used (unit / 8)) (unit % 8)

-- the units of a block: 2 ^ order of them, from one on
pub record Place : Type 0 where
  pub order : ℕ
  pub unit : ℕ

abbrev pub place_at : ℕ → ℕ → Place
place_at order unit = record { order = order; unit = unit }

-- the unit behind the last one
abbrev pub past : Place → ℕ
past place = place.unit + 2 ^ place.order

-- an aligned run of 1, 2, 4 or 8 units of the frames
pub record IsPlace (used : List ℕ) (place : Place) : Type 0 where
  pub known : place.order ≤ 3
  pub aligned : place.unit % 2 ^ place.order ≡ 0
  pub within : past place ≤ 8 * length used

-- each unit of a place has this state: 1 in use, 0 free
abbrev pub AllUnits : List ℕ → Place → ℕ → Type 0
AllUnits used place state = (unit : ℕ) → place.unit ≤ unit → unit < past place → in_use used unit ≡ state

-- a place with no unit in use
pub record IsFreePlace (used : List ℕ) (place : Place) : Type 0 where
  pub lies : IsPlace used place
  pub free : AllUnits used place 0

-- a place with each unit in use; a block of the frames is live where it is one
pub record IsUsedPlace (used : List ℕ) (place : Place) : Type 0 where
  pub lies : IsPlace used place
  pub full : AllUnits used place 1

-- the first unit of the place of the next order that a place lies in
abbrev pub enclosing_unit : ℕ → ℕ → ℕ
enclosing_unit order unit = unit / 2 ^ (order + 1) * 2 ^ (order + 1)

-- the place of the next order that a place lies in
abbrev pub enclosing : Place → Place
enclosing place = place_at (place.order + 1) (enclosing_unit place.order place.unit)

-- a free place that lies in no free place of the next order
pub record IsFreeBlock (used : List ℕ) (place : Place) : Type 0 where
  pub place_free : IsFreePlace used place
  pub alone : IsFreePlace used (enclosing place) → ⊥

-- no place of an order is free
abbrev pub HasNone : List ℕ → ℕ → Type 0
HasNone used order = (unit : ℕ) → IsFreePlace used (place_at order unit) → ⊥

-- the first units of a free block of the least order that is enough, and of the lowest of these
pub record IsChoice (used : List ℕ) (order : ℕ) (chosen : Place) : Type 0 where
  pub order_is : chosen.order ≡ order
  pub from : ℕ
  pub enough : order ≤ from
  pub block : IsFreeBlock used (place_at from chosen.unit)
  pub least : (other : Place) → IsFreeBlock used other → order ≤ other.order → from ≤ other.order
  pub lowest : (unit : ℕ) → IsFreeBlock used (place_at from unit) → chosen.unit ≤ unit

-- the units of a place have this state, and every other unit has the state that it had
pub record SetsUnits (before : List ℕ) (place : Place) (state : ℕ) (after : List ℕ) : Type 0 where
  pub same : length after ≡ length before
  pub units : (unit : ℕ) → in_use after unit ≡ (if nat_le place.unit unit && nat_lt unit (past place) then state else in_use before unit)

-- the bits of a run of 2 ^ order units in the byte of its frame
abbrev pub run_bits : ℕ → ℕ → ℕ
run_bits order at = (2 ^ 2 ^ order - 1) * 2 ^ at

-- the frames with a free place brought into use
abbrev pub taken : List ℕ → Place → List ℕ
taken used place = slice_set used (place.unit / 8) (slice_index used (place.unit / 8) + run_bits place.order (place.unit % 8))

-- the frames with a used place made free
abbrev pub given : List ℕ → Place → List ℕ
given used place = slice_set used (place.unit / 8) (slice_index used (place.unit / 8) - run_bits place.order (place.unit % 8))

-- the place chosen for an order comes into use
pub record Takes (before : List ℕ) (order : ℕ) (chosen : Place) (after : List ℕ) : Type 0 where
  pub choice : IsChoice before order chosen
  pub after_is : after ≡ taken before chosen
  pub units : SetsUnits before chosen 1 after

-- two places share no unit
abbrev pub AreApart : Place → Place → Type 0
AreApart place other = (past place ≤ other.unit) ⊎ (past other ≤ place.unit)

-- each used place that shares no unit with this one stays in use
abbrev pub KeepsOthers : List ℕ → Place → List ℕ → Type 0
KeepsOthers before place after = (other : Place) → IsUsedPlace before other → AreApart place other → IsUsedPlace after other

-- every used place stays in use
abbrev pub KeepsUsed : List ℕ → List ℕ → Type 0
KeepsUsed before after = (other : Place) → IsUsedPlace before other → IsUsedPlace after other

-- a place shares no unit with a used one
abbrev pub IsApart : List ℕ → Place → Type 0
IsApart used place = (other : Place) → IsUsedPlace used other → AreApart place other

-- a place shares no unit with a used one that another place shares none with
abbrev pub StaysApart : List ℕ → Place → Place → Type 0
StaysApart used before after = (other : Place) → IsUsedPlace used other → AreApart before other → AreApart after other

-- of the numbers below a limit so many, and no more, meet a fact
abbrev pub IsCount : ℕ → (ℕ → Type 0) → ℕ → Type 0
IsCount zero Meets count = count ≡ 0
IsCount (suc n) Meets count = (Meets n × ((rest : ℕ) × ((count ≡ suc rest) × IsCount n Meets rest))) ⊎ ((Meets n → ⊥) × IsCount n Meets count)
