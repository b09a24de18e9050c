-- The hart's registers, and the guest's memory as one list of bytes. Every register holds a whole number below 2^32.
use Rattle.std.specs.Prelude.{ℕ, ℤ, ◌+◌, ◌%◌, ◌^◌, ◌==◌, if◌then◌else◌, List, [], ◌∷◌, slice_index, slice_set}
use Rattle.std.specs.Int.{w16, w32, cast_unsigned, from_le_bytes}

-- pc, the registers x0 to x31, and a byte for each address of the span
pub record Hart : Type 0 where
  pub pc : ℕ
  pub x : List ℕ
  pub bytes : List ℕ

-- a sum modulo 2^32
abbrev pub sum : ℕ → ℕ → ℕ
sum a b = (a + b) % 2 ^ 32

-- the 32 bits of a signed number, in two's complement
abbrev pub bits_of : ℤ → ℕ
bits_of z = cast_unsigned w32 z

-- what a register holds
abbrev pub register : Hart → ℕ → ℕ
register h number = slice_index h.x number

-- the registers after one is written; x0 stays 0
abbrev pub written : List ℕ → ℕ → ℕ → List ℕ
written x rd value = if rd == 0 then x else slice_set x rd value

-- the two bytes from a place on as a number, the lowest first
abbrev pub half_at : List ℕ → ℕ → ℕ
half_at bytes place = from_le_bytes w16 (slice_index bytes place ∷ slice_index bytes (place + 1) ∷ [])

-- the four bytes from a place on as a number, the lowest first
abbrev pub word_at : List ℕ → ℕ → ℕ
word_at bytes place =
    from_le_bytes w32 (slice_index bytes place ∷ slice_index bytes (place + 1) ∷ slice_index bytes (place + 2) ∷ slice_index bytes (place + 3) ∷ [])

-- these bytes in place of those from a place on
abbrev pub put : List ℕ → ℕ → List ℕ → List ℕ
put bytes place [] = bytes
put bytes place (b ∷ more) = put (slice_set bytes place b) (place + 1) more
