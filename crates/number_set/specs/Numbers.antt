-- Sets of numbers below 65,536, as words of 64 bits: bit i of word w tells whether the set has 64 * w + i.
use Rattle.std.specs.Prelude.{◌≡◌, ◌<◌, ◌≤◌, ◌/◌, ◌%◌, ◌==◌, ℕ, Bool, List, length, slice_index, if◌then◌else◌}
use Rattle.std.specs.Int.{bit_at}

-- 1 where the set has the number, else 0
abbrev pub has : List ℕ → ℕ → ℕ
has words n = bit_at (slice_index words (n / 64)) (n % 64)

-- the bit of a flag
abbrev pub bit_of : Bool → ℕ
bit_of on = if on then 1 else 0

-- one number is put into a set or taken out, and every other number stays as it was
abbrev pub Puts : List ℕ → ℕ → Bool → List ℕ → Type 0
Puts before n on after = (m : ℕ) → m < 65536 → has after m ≡ (if m == n then bit_of on else has before m)

-- the set has the numbers below a limit, and no other
pub record HasBelow (words : List ℕ) (limit : ℕ) : Type 0 where
  pub below : (n : ℕ) → n < limit → has words n ≡ 1
  pub above : (n : ℕ) → limit ≤ n → n < 65536 → has words n ≡ 0

-- the summary is the set of the words that are not 0
pub record IsSummed (words summary : List ℕ) : Type 0 where
  pub words_are : length words ≡ 1024
  pub summary_is : length summary ≡ 16
  pub full : (w : ℕ) → w < 1024 → slice_index words w ≡ 0 → has summary w ≡ 0
  pub none : (w : ℕ) → w < 1024 → has summary w ≡ 0 → slice_index words w ≡ 0

-- the place of the lowest 1 of a word
pub record IsLowestBit (word at : ℕ) : Type 0 where
  pub within : at < 64
  pub there : bit_at word at ≡ 1
  pub below : (i : ℕ) → i < at → bit_at word i ≡ 0

-- the least number of a set
pub record IsLeast (words : List ℕ) (n : ℕ) : Type 0 where
  pub within : n < 65536
  pub there : has words n ≡ 1
  pub below : (m : ℕ) → m < n → has words m ≡ 0
