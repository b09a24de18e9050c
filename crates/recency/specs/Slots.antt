-- Lines that stand in slots.
use Rattle.std.specs.Prelude.{◌≡◌, ◌<◌, ℕ, true, false, List, [], Option, Some, None, map, length, slice_index_or}
use Rattle.recency.specs.declared.entry.Entry.{Entry}
use Rattle.recency.specs.declared.entry.Tag.{Tag}
use Rattle.recency.specs.Uses.{Used, has, IsDistinct, AllBelow}

-- the tag of a slot
abbrev pub tag_at : List Tag → ℕ → Tag
tag_at tags slot = slice_index_or tags slot (record { line = 0; dirty = false })

-- what a slot keeps
abbrev pub entry_at : List Tag → List (List ℕ) → ℕ → Entry
entry_at tags bytes slot = record { line = (tag_at tags slot).line; bytes = slice_index_or bytes slot []; dirty = (tag_at tags slot).dirty }

-- what the slots keep
abbrev pub entries_of : List Tag → List (List ℕ) → List ℕ → List Entry
entries_of tags bytes slots = map (entry_at tags bytes) slots

-- Each slot has a tag, and no two slots in use have one line.
pub record IsTagged (order : Used) (tags : List Tag) : Type 0 where
  pub len : length tags ≡ order.ways
  pub distinct : IsDistinct order.slots
  pub below : AllBelow order.slots order.ways
  pub unique : (s t : ℕ) → has order.slots s ≡ true → has order.slots t ≡ true → (tag_at tags s).line ≡ (tag_at tags t).line → s ≡ t

-- Each slot has a tag and bytes, and there are some.
pub record IsStored (ways : ℕ) (order : Used) (tags : List Tag) (bytes : List (List ℕ)) : Type 0 where
  pub some : 0 < ways
  pub ways_are : order.ways ≡ ways
  pub tagged : IsTagged order tags
  pub full : length bytes ≡ ways

-- the slot in use that has the line, or that none has it
abbrev pub IsSlotOf : List ℕ → List Tag → ℕ → Option ℕ → Type 0
IsSlotOf slots tags line None = (s : ℕ) → has slots s ≡ true → (tag_at tags s).line ≡ line → ⊥
IsSlotOf slots tags line (Some s) = (has slots s ≡ true) × ((tag_at tags s).line ≡ line)
