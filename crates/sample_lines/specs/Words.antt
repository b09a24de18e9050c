-- Lines of words that rise.
use Rattle.std.specs.Prelude.{ℕ, ◌+◌, ◌*◌, ◌/◌, ◌%◌, ◌^◌, slice_index_or}
use Rattle.std.specs.Int.{w32, to_le_bytes}

-- word number i: so many steps above the first one, modulo 2^32
abbrev pub word_of : ℕ → ℕ → ℕ → ℕ
word_of first step i = (first + step * i % 2 ^ 32) % 2 ^ 32

-- byte number k of the line; a word has its lowest byte first
abbrev pub byte_of : ℕ → ℕ → ℕ → ℕ
byte_of first step k = slice_index_or (to_le_bytes w32 (word_of first step (k / 4))) (k % 4) 0
