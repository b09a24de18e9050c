-- The bytes of codes: how they are written, and what they mean.
use Rattle.std.proofs.Common.{◌≡◌, ℕ, zero, suc, ◌+◌, ◌-◌, ◌*◌, ◌/◌, ◌^◌, ◌<◌, ◌≤◌, List, [], ◌∷◌, ◌++◌, length, get_or, All, refl, ap, ◌∙◌, arith}
use Rattle.std.proofs.Math.Nat.{pow-le-pow_right}
use Rattle.std.proofs.lemmas.Nat.{pow-add}
use Rattle.std.proofs.lemmas.List.{length-append}
use Rattle.std.proofs.lemmas.List.Elements.{All-tail, All-head}
use Rattle.fpc_codec.specs.declared.codes.Code.{Code}
use Rattle.fpc_codec.specs.Bits.{number_of, bytes_of, joined, filled}
use Rattle.fpc_codec.specs.Codes.{prefix_of, payload_bits, IsCode, meaning, code_bits, bit_count, code_row, codes_row}
use Rattle.fpc_codec.specs.Line.{words_of, BeginsWithCodes, Means, codes_of, bits_of, encoding_of}
use Rattle.fpc_codec.proofs.RowLemmas.{joined-lt, joined-zero}
use Rattle.fpc_codec.proofs.CodeLemmas.{prefix_of-lt}
use Rattle.fpc_codec.proofs.LeastLemmas.{meaning-least}
use Rattle.fpc_codec.proofs.CodesOfLemmas.{codes_of-least}
use Rattle.fpc_codec.proofs.LineLemmas.{line_of-words_of, length-words_of}

-- of the codes `all` those before `codes` are written to the bytes `items` and to `count` bits `pending`
pub record IsWritten (all codes : List Code) (items : List ℕ) (count pending : ℕ) : Type 0 where
  pub bits : 8 * length items + count + bit_count codes ≡ bit_count all
  pub written : (total : ℕ) → length items ≤ total
      → filled items count pending total (codes_row codes 0) ≡ bytes_of total (codes_row all 0)

pub written_start : (all : List Code) → IsWritten all all [] 0 0
written_start all =
    record { bits = omega arith; written = λ total within. let e : total - 0 ≡ total = omega arith in rw (joined-zero, e) refl }

-- the next code has room
pub written_room : (all codes rest : List Code) (items : List ℕ) (count pending : ℕ) (c : Code)
    → IsWritten all codes items count pending → codes ≡ c ∷ rest → 8 * length items + count + code_bits c ≤ bit_count all
unfolding bit_count
written_room all codes rest items count pending c is first =
    let counts : bit_count codes ≡ code_bits c + bit_count rest = ap (λ (cs : List Code). bit_count cs) first in
    omega (arith, is.bits, counts)

-- one code more
pub written_more : (all codes rest : List Code) (items others : List ℕ) (count pending new_count new_pending : ℕ) (c : Code)
    → IsWritten all codes items count pending → codes ≡ c ∷ rest → new_count < 8
    → 8 * length others + new_count ≡ 8 * length items + count + code_bits c
    → ((total behind : ℕ) → length others ≤ total
    → filled others new_count new_pending total behind ≡ filled items count pending total (code_row c behind))
    → IsWritten all rest others new_count new_pending
unfolding bit_count codes_row
written_more all codes rest items others count pending new_count new_pending c is first few bits written =
    let counts : bit_count codes ≡ code_bits c + bit_count rest = ap (λ (cs : List Code). bit_count cs) first in
    let rows : codes_row codes 0 ≡ code_row c (codes_row rest 0) = ap (λ (cs : List Code). codes_row cs 0) first in
    record {
      bits = omega (arith, is.bits, counts, bits);
      written = λ total within. written total (codes_row rest 0) within ∙ rw rows at (is.written total (omega (arith, bits)));
    }

-- all codes are written
pub written_end : (all codes : List Code) (items : List ℕ) (count pending : ℕ) → IsWritten all codes items count pending → codes ≡ []
    → items ++ bytes_of ((count + 7) / 8) pending ≡ bytes_of ((bit_count all + 7) / 8) (codes_row all 0)
unfolding bit_count codes_row joined
written_end all codes items count pending is none =
    let counts : bit_count codes ≡ 0 = ap (λ (cs : List Code). bit_count cs) none in
    let rows : codes_row codes 0 ≡ 0 = ap (λ (cs : List Code). codes_row cs 0) none in
    let rest : (bit_count all + 7) / 8 - length items ≡ (count + 7) / 8 = omega (arith, is.bits, counts) in
    let bare : pending + 2 ^ count * 0 ≡ pending = omega arith in
    rw (rows, rest, bare) at (is.written ((bit_count all + 7) / 8) (omega (arith, is.bits, counts)))

-- bits behind codes
codes_row-behind : (codes : List Code) (behind : ℕ) → codes_row codes behind ≡ codes_row codes 0 + 2 ^ bit_count codes * behind
unfolding codes_row bit_count joined
codes_row-behind [] behind = omega arith
codes_row-behind (c ∷ codes) behind =
    let rest = codes_row-behind codes behind in
    let e : 2 ^ (3 + payload_bits c.pattern + bit_count codes) ≡ 2 ^ 3 * 2 ^ payload_bits c.pattern * 2 ^ bit_count codes =
    pow-add 2 (3 + payload_bits c.pattern) (bit_count codes) ∙ ap (λ (n : ℕ). n * 2 ^ bit_count codes) (pow-add 2 3 (payload_bits c.pattern)) in
    rw (e, rest) (grind arith)

codes_row-lt : (codes : List Code) → All IsCode codes → codes_row codes 0 < 2 ^ bit_count codes
unfolding codes_row bit_count
codes_row-lt [] are = omega arith
codes_row-lt (c ∷ codes) are =
    let rest = codes_row-lt codes (All-tail IsCode c codes are) in
    let inner = joined-lt (payload_bits c.pattern) c.payload (bit_count codes) (codes_row codes 0) (All-head IsCode c codes are) rest in
    let outer = joined-lt 3 (prefix_of c.pattern) (payload_bits c.pattern + bit_count codes) (joined (payload_bits c.pattern) c.payload (codes_row codes 0))
    (omega (arith, prefix_of-lt c.pattern)) inner in
    let e : 3 + payload_bits c.pattern + bit_count codes ≡ 3 + (payload_bits c.pattern + bit_count codes) = omega arith in
    rw e outer

pub length-bytes_of : (count row : ℕ) → length (bytes_of count row) ≡ count
unfolding bytes_of
length-bytes_of zero row = refl
length-bytes_of (suc count) row = ap suc (length-bytes_of count (row / 256))

-- the bits of bytes that a row fills and of those behind them
number_of-bytes_of : (count row : ℕ) (behind : List ℕ) → row < 2 ^ (8 * count)
    → number_of (bytes_of count row ++ behind) ≡ row + 2 ^ (8 * count) * number_of behind
unfolding bytes_of
number_of-bytes_of zero row behind below = omega arith
number_of-bytes_of (suc count) row behind below =
    let e : 8 * suc count ≡ 8 + 8 * count = omega arith in
    let p : 2 ^ (8 + 8 * count) ≡ 2 ^ 8 * 2 ^ (8 * count) = pow-add 2 8 (8 * count) in
    let small : row < 256 * 2 ^ (8 * count) = rw (e, p) at below in
    let rest = number_of-bytes_of count (row / 256) behind (omega arith) in
    rw (e, p, rest) (omega arith)

-- the bytes of codes, whatever follows them, begin with codes of their words
packed_begins : (codes : List Code) (behind : List ℕ) → All IsCode codes
    → let bytes = bytes_of ((bit_count codes + 7) / 8) (codes_row codes 0) ++ behind in BeginsWithCodes (number_of bytes) (8 * length bytes) (meaning codes)
packed_begins codes behind are =
    let count = (bit_count codes + 7) / 8 in
    let left = 8 * count - bit_count codes in
    let size : 8 * count ≡ bit_count codes + left = omega arith in
    let p : 2 ^ (8 * count) ≡ 2 ^ bit_count codes * 2 ^ left = ap (λ (n : ℕ). 2 ^ n) size ∙ pow-add 2 (bit_count codes) left in
    let wide : 2 ^ bit_count codes ≤ 2 ^ (8 * count) = pow-le-pow_right {n = 2} (omega arith) {i = bit_count codes} {j = 8 * count} (omega arith) in
    let row = number_of-bytes_of count (codes_row codes 0) behind (omega (arith, codes_row-lt codes are, wide)) in
    record {
      codes = codes;
      behind = 2 ^ left * number_of behind;
      are_codes = are;
      within = rw (length-append, length-bytes_of) (omega arith);
      front = row ∙ rw (p, codes_row-behind codes (2 ^ left * number_of behind)) (grind arith);
      says = refl;
    }

-- an encoding means its line, whatever bytes follow
pub Means-encoding_of : (line behind : List ℕ) → length line ≡ 64 → ((i : ℕ) → get_or line i 0 < 256) → Means (encoding_of line ++ behind) line
unfolding encoding_of bits_of
Means-encoding_of line behind whole below =
    let least = meaning-least (words_of line) (codes_of line) (codes_of-least line below) in
    let begins = packed_begins (codes_of line) behind least.1 in record {
      words = words_of line;
      sixteen = length-words_of 16 line whole;
      coded = rw least.0 at begins;
      says = line_of-words_of 16 line whole below;
    }

pub length-encoding_of : (line : List ℕ) → length (encoding_of line) ≡ (bits_of line + 7) / 8
unfolding encoding_of
length-encoding_of line = length-bytes_of ((bits_of line + 7) / 8) (codes_row (codes_of line) 0)
