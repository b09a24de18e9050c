-- The least codes of words: what they are, and a function that gives them.
use Rattle.std.specs.Prelude.{ℕ, zero, suc, ◌≡◌, ◌⊎◌, ◌+◌, ◌*◌, ◌/◌, ◌%◌, ◌^◌, ◌<◌, ◌≤◌, Bool, ◌==◌, List, [], ◌∷◌, ◌++◌, find, unwrap_or, min}
use Rattle.fpc_codec.specs.declared.codes.Code.{Code}
use Rattle.fpc_codec.specs.declared.codes.Pattern.{Pattern}
use Rattle.fpc_codec.specs.declared.codes.Pattern.TheVariants.{ZeroRun, Signed4, Signed8, Signed16, PaddedHalf, TwoSignedBytes, RepeatedByte, Uncompressed}
use Rattle.fpc_codec.specs.Codes.{prefix_of, payload_bits, word_of, IsCode, words_of_code}

-- fewer bits of payload, or as many and no higher prefix
abbrev pub IsNoMore : Pattern → Pattern → Type 0
IsNoMore pattern other =
    (payload_bits pattern < payload_bits other)
    ⊎ ((payload_bits pattern ≡ payload_bits other) × (prefix_of pattern ≤ prefix_of other))

-- the code says the word alone, and no other code that does has less
pub record IsLeastFor (word : ℕ) (code : Code) : Type 0 where
  pub is_code : IsCode code
  pub says : words_of_code code ≡ word ∷ []
  pub least : (other : Code) → IsCode other → words_of_code other ≡ word ∷ []
      → IsNoMore code.pattern other.pattern

-- the first of the words is zero
abbrev pub BeginsWithZero : List ℕ → Type 0
BeginsWithZero [] = ⊥
BeginsWithZero (word ∷ words) = word ≡ 0

-- the code is a run of zeros that is eight long or that no further zero follows
pub record IsLongestRun (code : Code) (behind : List ℕ) : Type 0 where
  pub is_code : IsCode code
  pub is_run : code.pattern ≡ ZeroRun
  pub longest : (code.payload ≡ 7) ⊎ ¬ BeginsWithZero behind

-- the least code that the words can begin with, and the words behind it
pub record IsLeastFirst (words : List ℕ) (code : Code) (behind : List ℕ) : Type 0 where
  pub says : words ≡ words_of_code code ++ behind
  pub zeros : BeginsWithZero words → IsLongestRun code behind
  pub other : ¬ BeginsWithZero words → IsLeastFor (word_of code.pattern code.payload) code

-- the least codes of words
abbrev pub AreLeastCodes : List ℕ → List Code → Type 0
AreLeastCodes words [] = words ≡ []
AreLeastCodes words (code ∷ codes) =
    (behind : List ℕ) × IsLeastFirst words code behind × AreLeastCodes behind codes

-- the payload that the pattern's code of a word has
unfoldable pub payload_of : Pattern → ℕ → ℕ
payload_of ZeroRun word = 0
payload_of Signed4 word = word % 2 ^ 4
payload_of Signed8 word = word % 2 ^ 8
payload_of Signed16 word = word % 2 ^ 16
payload_of PaddedHalf word = word / 2 ^ 16
payload_of TwoSignedBytes word = word % 2 ^ 8 + 2 ^ 8 * (word / 2 ^ 16 % 2 ^ 8)
payload_of RepeatedByte word = word % 2 ^ 8
payload_of Uncompressed word = word

-- the word has the pattern: the payload says the whole word
abbrev pub has : ℕ → Pattern → Bool
has word pattern = word_of pattern (payload_of pattern word) == word

-- the patterns of one word, those of fewer bits first, and of as many the lower prefix first
abbrev pub patterns_by_size : List Pattern
patterns_by_size =
    Signed4 ∷ Signed8 ∷ RepeatedByte ∷ Signed16 ∷ PaddedHalf ∷ TwoSignedBytes ∷ Uncompressed ∷ []

-- the first of these that the word has
unfoldable pub least_pattern : ℕ → Pattern
least_pattern word = unwrap_or (find (has word) patterns_by_size) Uncompressed

-- the least code of a word that is not zero
unfoldable pub least_code : ℕ → Code
least_code word =
    record { pattern = least_pattern word; payload = payload_of (least_pattern word) word }

-- how many zeros the words begin with
unfoldable pub leading_zeros : List ℕ → ℕ
leading_zeros (zero ∷ words) = suc (leading_zeros words)
leading_zeros _ = 0

-- the least codes of the words behind the first `count`
unfoldable pub codes_behind : ℕ → List ℕ → List Code
codes_behind count [] = []
codes_behind (suc count) (word ∷ words) = codes_behind count words
codes_behind zero (zero ∷ words) =
    let more = min 7 (leading_zeros words) in
    record { pattern = ZeroRun; payload = more } ∷ codes_behind more words
codes_behind zero (suc n ∷ words) = least_code (suc n) ∷ codes_behind zero words

-- the least codes of words below 2 ^ 32
abbrev pub least_codes : List ℕ → List Code
least_codes words = codes_behind 0 words
