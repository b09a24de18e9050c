-- The addresses of the guest: a run of pages of 4,096 bytes.
use Rattle.std.specs.Prelude.{ℕ, ◌+◌, ◌-◌, ◌*◌, ◌/◌, ◌<◌, ◌≤◌, Bool, ◌&&◌, nat_le, nat_lt}

-- the first page, and how many there are
pub record Span : Type 0 where
  pub base : ℕ
  pub pages : ℕ

-- the first address
abbrev pub first : Span → ℕ
first s = 4096 * s.base

-- the address behind the last one
abbrev pub past : Span → ℕ
past s = 4096 * (s.base + s.pages)

-- the test that an address is in the span
abbrev pub has : Span → ℕ → Bool
has s at = nat_le (first s) at && nat_lt at (past s)

-- the address is in the span
abbrev pub Has : Span → ℕ → Type 0
Has s at = (first s ≤ at) × (at < past s)

-- the line is in the span
abbrev pub HasLine : Span → ℕ → Type 0
HasLine s line = line < 64 * s.pages

-- the number of an address's line, counted from the beginning of the span
abbrev pub line_at : Span → ℕ → ℕ
line_at s at = (at - first s) / 64
