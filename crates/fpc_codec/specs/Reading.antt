-- The line that bytes say, as a function of the bytes.
use Rattle.std.specs.Prelude.{ℕ, zero, suc, ◌/◌, ◌%◌, ◌^◌, List, [], ◌++◌, ◌==◌, if◌then◌else◌, take}
use Rattle.fpc_codec.specs.declared.codes.Code.{Code}
use Rattle.fpc_codec.specs.declared.codes.Pattern.{Pattern}
use Rattle.fpc_codec.specs.declared.codes.Pattern.TheVariants.{ZeroRun, Signed4, Signed8, Signed16, PaddedHalf, TwoSignedBytes, RepeatedByte, Uncompressed}
use Rattle.fpc_codec.specs.Bits.{number_of}
use Rattle.fpc_codec.specs.Codes.{payload_bits, words_of_code, code_bits}
use Rattle.fpc_codec.specs.Line.{line_of}

-- the pattern of a prefix
unfoldable pub pattern_of : ℕ → Pattern
pattern_of prefix =
    if prefix == 0 then ZeroRun
    else if prefix == 1 then Signed4
    else if prefix == 2 then Signed8
    else if prefix == 3 then Signed16
    else if prefix == 4 then PaddedHalf
    else if prefix == 5 then TwoSignedBytes
    else if prefix == 6 then RepeatedByte
    else Uncompressed

-- the code that a row of bits begins with
unfoldable pub code_read : ℕ → Code
code_read row =
    let pattern = pattern_of (row % 8) in
    record { pattern = pattern; payload = row / 8 % 2 ^ payload_bits pattern }

-- the words of the first `count` codes of a row of bits
unfoldable pub words_read : ℕ → ℕ → List ℕ
words_read zero row = []
words_read (suc count) row =
    let code = code_read row in
    words_of_code code ++ words_read count (row / 2 ^ code_bits code)

-- the line that bytes say, where they say one: each code has a word at least, so sixteen codes have its words
unfoldable pub line_said : List ℕ → List ℕ
line_said bytes = line_of (take 16 (words_read 16 (number_of bytes)))
