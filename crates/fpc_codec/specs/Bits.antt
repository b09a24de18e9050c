-- Rows of bits: a count and a number, whose least significant bit is the first of the row.
use Rattle.std.specs.Prelude.{ℕ, zero, suc, ◌+◌, ◌-◌, ◌*◌, ◌/◌, ◌%◌, ◌^◌, List, [], ◌∷◌, ◌++◌, length}

-- the bits of bytes one after another, of each byte the least significant one first
abbrev pub number_of : List ℕ → ℕ
number_of [] = 0
number_of (byte ∷ bytes) = byte + 256 * number_of bytes

-- the bytes that the first `8 * count` bits fill
unfoldable pub bytes_of : ℕ → ℕ → List ℕ
bytes_of zero bits = []
bytes_of (suc count) bits = bits % 256 ∷ bytes_of count (bits / 256)

-- the row of the `count` bits `front` and, after them, the bits `behind`
unfoldable pub joined : ℕ → ℕ → ℕ → ℕ
joined count front behind = front + 2 ^ count * behind

-- the first `total` bytes of these: `bytes`, then the `count` bits `pending`, then the bits `behind`
abbrev pub filled : List ℕ → ℕ → ℕ → ℕ → ℕ → List ℕ
filled bytes count pending total behind =
    bytes ++ bytes_of (total - length bytes) (joined count pending behind)

-- the bits left where `count` bits `pending` and then the bytes `rest` are not read yet
abbrev pub row_left : ℕ → ℕ → List ℕ → ℕ
row_left count pending rest = joined count pending (number_of rest)
