-- The memory under the guest: two cache levels over a memory of pages.
use Rattle.std.specs.Prelude.{ℕ, List}
use Rattle.hier_types.specs.Calls.{Answer}
use Rattle.hier_types.specs.Lines.{flatten}
use Rattle.l2_cache.specs.SecondLevel.{SecondLevel, lines_of_second}
use Rattle.page_store.specs.Calls.{StoreRead, StoreWrite}
use Rattle.page_store.specs.Store.{Store}
use Rattle.hier_machine.specs.Levels.{Levels, TouchLevels, lines_over}

abbrev pub Below : Type 0
Below = SecondLevel Store

abbrev pub Memory : Type 0
Memory = Levels Store

abbrev pub store_of : Memory → Store
store_of m = m.below.below

-- the same first level over another second one
abbrev pub with_second : Memory → Below → Memory
with_second m below = record m { below = below }

abbrev pub content_of : Store → List (List ℕ)
content_of store = store.lines

-- the lines of the second level: the copies that it keeps, else the store's
abbrev pub lines_below : Below → List (List ℕ)
lines_below s = lines_of_second content_of s

-- the guest's lines: the copies of the first level, else the lines below
abbrev pub guest_lines : Memory → List (List ℕ)
guest_lines m = lines_over content_of m

-- the guest's bytes
abbrev pub guest_bytes : Memory → List ℕ
guest_bytes m = flatten (guest_lines m)

-- a touch of the first level, over the memory of pages
abbrev pub TouchMemory : Memory → ℕ → Answer → Memory → Type 0
TouchMemory s line answer t = TouchLevels StoreRead StoreWrite s line answer t
