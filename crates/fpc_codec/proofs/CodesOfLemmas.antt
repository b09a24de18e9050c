-- The function that gives the least codes gives what they are.
use Rattle.std.proofs.Common.{◌≡◌, ℕ, zero, suc, ◌+◌, ◌-◌, ◌*◌, ◌^◌, ◌<◌, ◌≤◌, ◌⊎◌, inl, inr, Bool, true, false, List, [], ◌∷◌, ◌++◌, All, replicate, drop, find, unwrap_or, min, get_or, refl, sym, ap, ◌∙◌, subst, eq-eqb, arith}
use Rattle.std.proofs.lemmas.Bool.{cases_lt, eqb-true}
use Rattle.fpc_codec.specs.Line.{words_of, codes_of}
use Rattle.std.proofs.lemmas.Bool.Decides.{nat_tests}
use Rattle.std.proofs.lemmas.List.Elements.{All-tail, All-head}
use Rattle.fpc_codec.specs.declared.codes.Code.{Code}
use Rattle.fpc_codec.specs.declared.codes.Pattern.{Pattern}
use Rattle.fpc_codec.specs.declared.codes.Pattern.TheVariants.{ZeroRun, Signed4, Signed8, Signed16, PaddedHalf, TwoSignedBytes, RepeatedByte, Uncompressed}
use Rattle.fpc_codec.specs.Codes.{prefix_of, payload_bits, word_of, run_of, words_of_code}
use Rattle.fpc_codec.specs.Least.{IsNoMore, IsLeastFor, BeginsWithZero, IsLeastFirst, AreLeastCodes, payload_of, has, patterns_by_size, least_pattern, least_code, leading_zeros, codes_behind, least_codes}
use Rattle.fpc_codec.proofs.CodeLemmas.{prefix_of-lt, run_of-pos}
use Rattle.fpc_codec.proofs.LeastLemmas.{least_run, replicate_first, AreLeastCodes-first, AreLeastCodes-unique}
use Rattle.fpc_codec.proofs.LineLemmas.{words_of-lt}

-- a code's payload is read from its word
payload_of-word_of : (pattern : Pattern) (n : ℕ) → n < 2 ^ payload_bits pattern → (word_of pattern n ≡ 0 → ⊥) → payload_of pattern (word_of pattern n) ≡ n
unfolding payload_bits word_of payload_of
payload_of-word_of ZeroRun n n_in some = absurd (some refl)
payload_of-word_of Signed4 n n_in some = grind (arith, nat_tests)
payload_of-word_of Signed8 n n_in some = grind (arith, nat_tests)
payload_of-word_of Signed16 n n_in some = grind (arith, nat_tests)
payload_of-word_of PaddedHalf n n_in some = omega arith
payload_of-word_of TwoSignedBytes n n_in some = grind (arith, nat_tests)
payload_of-word_of RepeatedByte n n_in some = omega arith
payload_of-word_of Uncompressed n n_in some = refl

payload_of-lt : (pattern : Pattern) (word : ℕ) → word < 2 ^ 32 → payload_of pattern word < 2 ^ payload_bits pattern
unfolding payload_bits payload_of
payload_of-lt ZeroRun word below = omega arith
payload_of-lt Signed4 word below = omega arith
payload_of-lt Signed8 word below = omega arith
payload_of-lt Signed16 word below = omega arith
payload_of-lt PaddedHalf word below = omega arith
payload_of-lt TwoSignedBytes word below = omega arith
payload_of-lt RepeatedByte word below = omega arith
payload_of-lt Uncompressed word below = below

run_of-payload_of : (pattern : Pattern) (word : ℕ) → run_of pattern (payload_of pattern word) ≡ 1
unfolding run_of payload_of
run_of-payload_of ZeroRun word = refl
run_of-payload_of Signed4 word = refl
run_of-payload_of Signed8 word = refl
run_of-payload_of Signed16 word = refl
run_of-payload_of PaddedHalf word = refl
run_of-payload_of TwoSignedBytes word = refl
run_of-payload_of RepeatedByte word = refl
run_of-payload_of Uncompressed word = refl

zero_word : (pattern : Pattern) (n : ℕ) → pattern ≡ ZeroRun → word_of pattern n ≡ 0
unfolding word_of
zero_word pattern n run = rw run refl

-- where a pattern stands among the patterns by size
rank : Pattern → ℕ
rank pattern = 8 * payload_bits pattern + prefix_of pattern

rank-IsNoMore : (pattern other : Pattern) → rank pattern ≤ rank other → IsNoMore pattern other
unfolding rank
rank-IsNoMore pattern other low =
    elim (cases_lt (payload_bits pattern) (payload_bits other)) [
      | inl less ↦ inl less
      | inr most ↦ inr (omega (arith, prefix_of-lt pattern, prefix_of-lt other), omega (arith, prefix_of-lt pattern, prefix_of-lt other))
    ]

-- the pattern is one of these, whose ranks rise from `low` on
IsAmong : ℕ → Pattern → List Pattern → Type 0
IsAmong low pattern [] = ⊥
IsAmong low pattern (first ∷ rest) = (low ≤ rank first) × ((pattern ≡ first) ⊎ IsAmong (rank first) pattern rest)

among_low : (low : ℕ) (pattern : Pattern) (patterns : List Pattern) → IsAmong low pattern patterns → low ≤ rank pattern
unfolding IsAmong
among_low low pattern [] among = absurd among
among_low low pattern (first ∷ rest) among =
    elim among.1 [ inl same ↦ rw same among.0 | inr later ↦ omega (arith, among.0, among_low (rank first) pattern rest later) ]

among_all : (pattern : Pattern) → (pattern ≡ ZeroRun → ⊥) → IsAmong 0 pattern patterns_by_size
unfolding IsAmong rank payload_bits prefix_of
among_all ZeroRun other = absurd (other refl)
among_all Signed4 other = (omega arith, inl refl)
among_all Signed8 other = (omega arith, inr (omega arith, inl refl))
among_all RepeatedByte other = (omega arith, inr (omega arith, inr (omega arith, inl refl)))
among_all Signed16 other = (omega arith, inr (omega arith, inr (omega arith, inr (omega arith, inl refl))))
among_all PaddedHalf other = (omega arith, inr (omega arith, inr (omega arith, inr (omega arith, inr (omega arith, inl refl)))))
among_all TwoSignedBytes other = (omega arith, inr (omega arith, inr (omega arith, inr (omega arith, inr (omega arith, inr (omega arith, inl refl))))))
among_all Uncompressed other = (omega arith, inr (omega arith, inr (omega arith, inr (omega arith, inr (omega arith, inr (omega arith, inr (omega arith, inl refl)))))))

first_having : ℕ → List Pattern → Pattern
first_having word patterns = unwrap_or (find (has word) patterns) Uncompressed

first_having-here : (word : ℕ) (first : Pattern) (rest : List Pattern) → has word first ≡ true → first_having word (first ∷ rest) ≡ first
unfolding first_having
first_having-here word first rest here = rw here refl

first_having-later : (word : ℕ) (first : Pattern) (rest : List Pattern) → has word first ≡ false → first_having word (first ∷ rest) ≡ first_having word rest
unfolding first_having
first_having-later word first rest here = rw here refl

true_or_false : (b : Bool) → (b ≡ true) ⊎ (b ≡ false)
true_or_false true = inl refl
true_or_false false = inr refl

-- no pattern that the word has comes before the first
first_having-low : (word low : ℕ) (pattern : Pattern) → has word pattern ≡ true → (patterns : List Pattern) → IsAmong low pattern patterns
    → rank (first_having word patterns) ≤ rank pattern
unfolding IsAmong
first_having-low word low pattern having [] among = absurd among
first_having-low word low pattern having (first ∷ rest) among =
    elim (true_or_false (has word first)) [
      | inl here ↦ rw (first_having-here word first rest here) (elim among.1 [ inl same ↦ rw same (omega arith) | inr later ↦ among_low (rank first) pattern rest later ])
      | inr other ↦ rw (first_having-later word first rest other)
          (elim among.1 [ inl same ↦ absurd (let e : has word first ≡ true = rw (← same) having in cc) | inr later ↦ first_having-low word (rank first) pattern having rest later ])
    ]

uncompressed_has : (word : ℕ) → has word Uncompressed ≡ true
unfolding word_of payload_of
uncompressed_has word = eq-eqb word word refl

-- the word has the first, since each word has the last
first_having-has : (word : ℕ) (patterns : List Pattern) → has word (first_having word patterns) ≡ true
unfolding first_having
first_having-has word [] = uncompressed_has word
first_having-has word (first ∷ rest) =
    elim (true_or_false (has word first)) [
      | inl here ↦ rw (first_having-here word first rest here) here
      | inr other ↦ rw (first_having-later word first rest other) (first_having-has word rest)
    ]

-- the least code of a word is least
least_code-least : (word : ℕ) → (word ≡ 0 → ⊥) → word < 2 ^ 32 → IsLeastFor word (least_code word)
unfolding least_code least_pattern first_having
least_code-least word some below =
    let pattern = least_pattern word in
    let says : word_of pattern (payload_of pattern word) ≡ word = eqb-true (word_of pattern (payload_of pattern word)) word (first_having-has word patterns_by_size) in
    record {
      is_code = payload_of-lt pattern word below;
      says = rw (run_of-payload_of pattern word, says) refl;
      least = λ other code said.
          let same : word_of other.pattern other.payload ≡ word =
          replicate_first (run_of other.pattern other.payload) (word_of other.pattern other.payload) word [] (run_of-pos other.pattern other.payload) said in
          let payload : payload_of other.pattern word ≡ other.payload =
          ap (λ (w : ℕ). payload_of other.pattern w) (sym same) ∙ payload_of-word_of other.pattern other.payload code (λ none. some (sym same ∙ none)) in
          let having : has word other.pattern ≡ true =
          eq-eqb (word_of other.pattern (payload_of other.pattern word)) word (ap (λ (n : ℕ). word_of other.pattern n) payload ∙ same) in
          let single : other.pattern ≡ ZeroRun → ⊥ = λ run. some (sym same ∙ zero_word other.pattern other.payload run) in
          rank-IsNoMore pattern other.pattern (first_having-low word 0 other.pattern having patterns_by_size (among_all other.pattern single));
    }

-- a word that is not zero, and the words behind it
word_first : (word : ℕ) (c : Code) (words : List ℕ) → (word ≡ 0 → ⊥) → IsLeastFor word c → IsLeastFirst (word ∷ words) c words
word_first word c words some least =
    let said : word_of c.pattern c.payload ≡ word =
    replicate_first (run_of c.pattern c.payload) (word_of c.pattern c.payload) word [] (run_of-pos c.pattern c.payload) least.says in
    record {
      says = ap (λ (ws : List ℕ). ws ++ words) (sym least.says);
      zeros = λ begins. absurd (some begins);
      other = λ not. subst (λ (w : ℕ). IsLeastFor w c) (sym said) least;
    }

-- zeros that are taken off as far as they go
zeros_split : (limit n : ℕ) (words : List ℕ) → n ≡ min limit (leading_zeros words)
    → (words ≡ replicate n 0 ++ drop n words) × ((n ≡ limit) ⊎ (BeginsWithZero (drop n words) → ⊥))
unfolding leading_zeros
zeros_split limit zero [] e = (refl, inr (λ h. h))
zeros_split limit zero (zero ∷ words) e = (refl, inl (omega arith))
zeros_split limit zero (suc k ∷ words) e = (refl, inr (λ h. omega arith))
zeros_split limit (suc n) [] e = absurd (omega arith)
zeros_split limit (suc n) (zero ∷ words) e =
    let rest = zeros_split (limit - 1) n words (omega arith) in
    (ap (λ (ws : List ℕ). 0 ∷ ws) rest.0, elim rest.1 [ inl full ↦ inl (omega arith) | inr ended ↦ inr ended ])
zeros_split limit (suc n) (suc k ∷ words) e = absurd (omega arith)

-- the function gives the least codes
pub codes_behind-least : (count : ℕ) (words : List ℕ) → All (λ word. word < 2 ^ 32) words → AreLeastCodes (drop count words) (codes_behind count words)
unfolding codes_behind
codes_behind-least zero [] below = refl
codes_behind-least (suc count) [] below = refl
codes_behind-least (suc count) (word ∷ words) below = codes_behind-least count words (All-tail (λ w. w < 2 ^ 32) word words below)
codes_behind-least zero (zero ∷ words) below =
    let more = min 7 (leading_zeros words) in
    let split = zeros_split 7 more words refl in (
      drop more words,
      least_run (0 ∷ words) words (drop more words) more refl split.0 (omega arith) split.1,
      codes_behind-least more words (All-tail (λ w. w < 2 ^ 32) 0 words below),
    )
codes_behind-least zero (suc n ∷ words) below =
    let some : suc n ≡ 0 → ⊥ = λ e. omega arith in
    let least = least_code-least (suc n) some (All-head (λ w. w < 2 ^ 32) (suc n) words below) in
    (words, word_first (suc n) (least_code (suc n)) words some least, codes_behind-least zero words (All-tail (λ w. w < 2 ^ 32) (suc n) words below))

-- no words have no codes
pub least_codes-none : (words : List ℕ) → words ≡ [] → least_codes words ≡ []
unfolding codes_behind
least_codes-none words none = rw none refl

All-behind : (front behind : List ℕ) → All (λ word. word < 2 ^ 32) (front ++ behind) → All (λ word. word < 2 ^ 32) behind
All-behind [] behind all = all
All-behind (word ∷ front) behind all = All-behind front behind (All-tail (λ w. w < 2 ^ 32) word (front ++ behind) all)

-- a least first code is the first of the least codes
pub least_codes-first : (words : List ℕ) (c : Code) (behind : List ℕ) → All (λ word. word < 2 ^ 32) words → IsLeastFirst words c behind
    → least_codes words ≡ c ∷ least_codes behind
least_codes-first words c behind below first =
    let rest = AreLeastCodes-first words c behind (least_codes words) first (codes_behind-least 0 words below) in
    let later = All-behind (words_of_code c) behind (subst (λ (ws : List ℕ). All (λ word. word < 2 ^ 32) ws) first.says below) in
    rest.1 ∙ ap (λ (codes : List Code). c ∷ codes) (AreLeastCodes-unique behind rest.0 (least_codes behind) rest.2 (codes_behind-least 0 behind later))

pub least_codes-word : (words : List ℕ) (word : ℕ) (c : Code) (behind : List ℕ) → All (λ word. word < 2 ^ 32) words → (word ≡ 0 → ⊥) → words ≡ word ∷ behind
    → IsLeastFor word c → least_codes words ≡ c ∷ least_codes behind
least_codes-word words word c behind below some e least =
    least_codes-first words c behind below (subst (λ (ws : List ℕ). IsLeastFirst ws c behind) (sym e) (word_first word c behind some least))

-- the least codes of bytes
pub codes_of-least : (bytes : List ℕ) → ((i : ℕ) → get_or bytes i 0 < 256) → AreLeastCodes (words_of bytes) (codes_of bytes)
codes_of-least bytes below = codes_behind-least 0 (words_of bytes) (words_of-lt bytes below)
