-- Numbers as bytes, the lowest byte first.
use Rattle.std.specs.Prelude.{ℕ, zero, suc, ◌+◌, ◌*◌, ◌/◌, ◌%◌, List, [], ◌∷◌, take, drop}

-- the number that the bytes say
abbrev pub number_of : List ℕ → ℕ
number_of [] = 0
number_of (b ∷ bs) = b + 256 * number_of bs

-- the lowest `count` bytes of a number
unfoldable pub bytes_of : ℕ → ℕ → List ℕ
bytes_of zero n = []
bytes_of (suc count) n = n % 256 ∷ bytes_of count (n / 256)

-- the first `count` numbers of `width` bytes each
unfoldable pub elements : ℕ → ℕ → List ℕ → List ℕ
elements width zero bytes = []
elements width (suc count) bytes = number_of (take width bytes) ∷ elements width count (drop width bytes)
