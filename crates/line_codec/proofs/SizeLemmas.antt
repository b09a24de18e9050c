-- The least that a line takes in a slot.
use Rattle.std.proofs.Common.{◌≡◌, ℕ, zero, suc, ◌+◌, ◌/◌, ◌≤◌, List, [], ◌∷◌, length, Some, refl, arith}
use Rattle.std.specs.Int.{from_le_bytes, w32}
use Rattle.std.proofs.lemmas.Bool.Decides.{nat_tests}
use Rattle.hier_types.specs.declared.settings.Codec.{Codec}
use Rattle.hier_types.specs.declared.settings.Codec.TheVariants.{Bdi, Fpc}
use Rattle.hier_types.specs.Lines.{zero_line}
use Rattle.bdi_codec.specs.Rows.{IsRow, size_of, mask_size_of, least_row, applies}
use Rattle.bdi_codec.proofs.RowLemmas.{least_row-applies, applies-known}
use Rattle.fpc_codec.specs.Codes.{bit_count, payload_bits}
use Rattle.fpc_codec.specs.Least.{least_codes, codes_behind, leading_zeros}
use Rattle.fpc_codec.specs.Line as patterns
use Rattle.line_codec.specs.Slots.{size_under, stored}
use Rattle.line_codec.proofs.SlotLemmas.{stored-bytes}

-- a row has some byte
size_of-low : (row : ℕ) → IsRow row → 1 ≤ size_of row
unfolding size_of
size_of-low row known = grind (arith, nat_tests)

-- words have some bits
some_bits : (word : ℕ) (words : List ℕ) → 3 ≤ bit_count (least_codes (word ∷ words))
unfolding codes_behind bit_count
some_bits zero words = omega arith
some_bits (suc n) words = omega arith

bits_of-low : (line : List ℕ) → length line ≡ 64 → 3 ≤ patterns.bits_of line
unfolding patterns.bits_of patterns.words_of
bits_of-low [] len = absurd (omega arith)
bits_of-low (a ∷ []) len = absurd (omega arith)
bits_of-low (a ∷ b ∷ []) len = absurd (omega arith)
bits_of-low (a ∷ b ∷ c ∷ []) len = absurd (omega arith)
bits_of-low (a ∷ b ∷ c ∷ d ∷ rest) len = some_bits (from_le_bytes w32 (a ∷ b ∷ c ∷ d ∷ [])) (patterns.words_of rest)

-- so a line has some byte of payload
size_under-low : (codec : Codec) (line : List ℕ) → length line ≡ 64 → 1 ≤ size_under codec line
unfolding patterns.size_of
size_under-low Bdi line len = size_of-low (least_row line) (applies-known line (least_row line) (least_row-applies line))
size_under-low Fpc line len =
    let bits = bits_of-low line len in
    let bytes : 1 ≤ (patterns.bits_of line + 7) / 8 = omega (arith, bits) in
    grind (arith, nat_tests)

-- and takes two bytes or more in a slot
pub stored-low : (codec : Codec) (line : List ℕ) (n : ℕ) → length line ≡ 64 → stored codec line ≡ Some n → 2 ≤ n
stored-low codec line n len short = omega (arith, size_under-low codec line len, stored-bytes codec line n short)

-- a line of zeros takes 2 or 3 bytes
pub stored-zero : (codec : Codec) → (n : ℕ) × (n ≤ 4) × (stored codec zero_line ≡ Some n)
unfolding least_row applies size_of mask_size_of patterns.size_of patterns.bits_of patterns.words_of codes_behind leading_zeros bit_count payload_bits
stored-zero Bdi = (2, omega arith, refl)
stored-zero Fpc = (3, omega arith, refl)
