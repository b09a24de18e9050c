-- Lines of 64 bytes as sixteen words, and what bytes say of a line.
use Rattle.std.specs.Prelude.{ℕ, ◌≡◌, ◌+◌, ◌*◌, ◌/◌, ◌≤◌, List, [], ◌∷◌, ◌++◌, length, All, min}
use Rattle.std.specs.Int.{from_le_bytes, to_le_bytes, w32}
use Rattle.fpc_codec.specs.declared.codes.Code.{Code}
use Rattle.fpc_codec.specs.Bits.{number_of, bytes_of}
use Rattle.fpc_codec.specs.Codes.{IsCode, meaning, bit_count, codes_row}
use Rattle.fpc_codec.specs.Least.{least_codes}

-- the 32-bit words of bytes, the least significant byte of each word first
unfoldable pub words_of : List ℕ → List ℕ
words_of (a ∷ b ∷ c ∷ d ∷ rest) = from_le_bytes w32 (a ∷ b ∷ c ∷ d ∷ []) ∷ words_of rest
words_of _ = []

-- the bytes of 32-bit words
unfoldable pub line_of : List ℕ → List ℕ
line_of [] = []
line_of (word ∷ words) = to_le_bytes w32 word ++ line_of words

-- the first `count` bits of a row begin with codes that mean the words
pub record BeginsWithCodes (row count : ℕ) (words : List ℕ) : Type 0 where
  pub codes : List Code
  pub behind : ℕ
  pub are_codes : All IsCode codes
  pub within : bit_count codes ≤ count
  pub front : row ≡ codes_row codes behind
  pub says : meaning codes ≡ words

-- the bytes begin with codes of the sixteen words of the line, whatever follows them
pub record Means (bytes line : List ℕ) : Type 0 where
  pub words : List ℕ
  pub sixteen : length words ≡ 16
  pub coded : BeginsWithCodes (number_of bytes) (8 * length bytes) words
  pub says : line_of words ≡ line

-- the least codes of a line
abbrev pub codes_of : List ℕ → List Code
codes_of line = least_codes (words_of line)

-- their bits
unfoldable pub bits_of : List ℕ → ℕ
bits_of line = bit_count (codes_of line)

-- the size of a line in bytes: those that its bits fill, or 64 where the codes save nothing
unfoldable pub size_of : List ℕ → ℕ
size_of line = min ((bits_of line + 7) / 8) 64

-- the bytes that the line's bits fill, the bits left in the last byte being 0
unfoldable pub encoding_of : List ℕ → List ℕ
encoding_of line = bytes_of ((bits_of line + 7) / 8) (codes_row (codes_of line) 0)
