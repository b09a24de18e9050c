-- Exceptions by the chunks in which they stand.
use Rattle.std.specs.Prelude.{ℕ, Bool, List, nat_le, nat_lt, ◌&&◌, count_by}
use Rattle.hier_types.specs.Tabulate.{tabulate}
use Rattle.page_slots.specs.Lines.{meta, chunk_of}

-- the metadata is that of an exception in a chunk from `low` on and below `high`
abbrev pub stands_in : ℕ → ℕ → ℕ → Bool
stands_in low high byte = nat_le 128 byte && (nat_le low (chunk_of byte) && nat_lt (chunk_of byte) high)

-- how many of the first n lines are exceptions in such chunks
unfoldable pub count_in : ℕ → ℕ → List ℕ → ℕ → ℕ
count_in low high bytes n = count_by (stands_in low high) (tabulate (meta bytes) n)
