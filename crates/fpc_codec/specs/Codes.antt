-- Codes of frequent patterns and what they stand for (Alameldeen and Wood, Wisconsin TR 1500).
use Rattle.std.specs.Prelude.{ℕ, ◌+◌, ◌-◌, ◌*◌, ◌/◌, ◌%◌, ◌^◌, ◌<◌, List, [], ◌∷◌, ◌++◌, nat_lt, if◌then◌else◌, replicate}
use Rattle.fpc_codec.specs.declared.codes.Code.{Code}
use Rattle.fpc_codec.specs.declared.codes.Pattern.{Pattern}
use Rattle.fpc_codec.specs.declared.codes.Pattern.TheVariants.{ZeroRun, Signed4, Signed8, Signed16, PaddedHalf, TwoSignedBytes, RepeatedByte, Uncompressed}
use Rattle.fpc_codec.specs.Bits.{joined}

-- the three bits that a pattern's codes begin with
unfoldable pub prefix_of : Pattern → ℕ
prefix_of ZeroRun = 0
prefix_of Signed4 = 1
prefix_of Signed8 = 2
prefix_of Signed16 = 3
prefix_of PaddedHalf = 4
prefix_of TwoSignedBytes = 5
prefix_of RepeatedByte = 6
prefix_of Uncompressed = 7

-- how many bits of payload follow the prefix
unfoldable pub payload_bits : Pattern → ℕ
payload_bits ZeroRun = 3
payload_bits Signed4 = 4
payload_bits Signed8 = 8
payload_bits Signed16 = 16
payload_bits PaddedHalf = 16
payload_bits TwoSignedBytes = 16
payload_bits RepeatedByte = 8
payload_bits Uncompressed = 32

-- `number`, of which values from `half` on stand for negative ones, as one of `values` values
abbrev pub sign_extended : ℕ → ℕ → ℕ → ℕ
sign_extended values half number =
    if nat_lt number half then number else number + (values - 2 * half)

-- the word that a pattern and its payload say
unfoldable pub word_of : Pattern → ℕ → ℕ
word_of ZeroRun n = 0
word_of Signed4 n = sign_extended (2 ^ 32) (2 ^ 3) n
word_of Signed8 n = sign_extended (2 ^ 32) (2 ^ 7) n
word_of Signed16 n = sign_extended (2 ^ 32) (2 ^ 15) n
word_of PaddedHalf n = n * 2 ^ 16
word_of TwoSignedBytes n =
    sign_extended (2 ^ 16) (2 ^ 7) (n % 2 ^ 8) + 2 ^ 16 * sign_extended (2 ^ 16) (2 ^ 7) (n / 2 ^ 8)
word_of RepeatedByte n = n * 0x01010101
word_of Uncompressed n = n

-- how many words a pattern and its payload say: a run of zeros has one more than its payload
unfoldable pub run_of : Pattern → ℕ → ℕ
run_of ZeroRun n = n + 1
run_of _ n = 1

-- a code's payload has as many bits as its pattern says
abbrev pub IsCode : Code → Type 0
IsCode code = code.payload < 2 ^ payload_bits code.pattern

-- the words of a code
abbrev pub words_of_code : Code → List ℕ
words_of_code code =
    replicate (run_of code.pattern code.payload) (word_of code.pattern code.payload)

-- the meaning of codes: their words one after another
unfoldable pub meaning : List Code → List ℕ
meaning [] = []
meaning (code ∷ codes) = words_of_code code ++ meaning codes

-- bits of a code: its prefix, then its payload
abbrev pub code_bits : Code → ℕ
code_bits code = 3 + payload_bits code.pattern

-- bits of codes
unfoldable pub bit_count : List Code → ℕ
bit_count [] = 0
bit_count (code ∷ codes) = code_bits code + bit_count codes

-- the bits of a code, with the bits `behind` after them
abbrev pub code_row : Code → ℕ → ℕ
code_row code behind =
    joined 3 (prefix_of code.pattern) (joined (payload_bits code.pattern) code.payload behind)

-- the bits of codes one after another, with the bits `behind` after them
unfoldable pub codes_row : List Code → ℕ → ℕ
codes_row [] behind = behind
codes_row (code ∷ codes) behind = code_row code (codes_row codes behind)
