-- Numbers in a file, little-endian, by the place of their first byte.
use Rattle.std.specs.Prelude.{ℕ, List, drop}
use Rattle.byteorder.specs.Endian.{little_number}

-- 16 bits
unfoldable pub half : List ℕ → ℕ → ℕ
half file at = little_number 2 (drop at file)

-- 32 bits
unfoldable pub word : List ℕ → ℕ → ℕ
word file at = little_number 4 (drop at file)
