-- The least codes of words: that there is one list of them, what it means, and how many bits it has.
use Rattle.std.proofs.Common.{◌≡◌, ℕ, zero, suc, ◌+◌, ◌-◌, ◌*◌, ◌^◌, ◌<◌, ◌≤◌, ◌⊎◌, inl, inr, List, [], ◌∷◌, ◌++◌, length, All, replicate, refl, sym, ap, ◌∙◌, subst, arith}
use Rattle.std.proofs.lemmas.Bool.Decides.{nat_tests}
use Rattle.std.proofs.lemmas.List.{length-append, length-replicate}
use Rattle.std.proofs.lemmas.List.Elements.{All-nil, All-cons}
use Rattle.fpc_codec.specs.declared.codes.Code.{Code}
use Rattle.fpc_codec.specs.declared.codes.Pattern.{Pattern}
use Rattle.fpc_codec.specs.declared.codes.Pattern.TheVariants.{ZeroRun, Signed4, Signed8, Signed16, PaddedHalf, TwoSignedBytes, RepeatedByte, Uncompressed}
use Rattle.fpc_codec.specs.Codes.{prefix_of, payload_bits, word_of, run_of, IsCode, words_of_code, meaning, code_bits, bit_count}
use Rattle.fpc_codec.specs.Least.{IsLeastFor, BeginsWithZero, IsLongestRun, IsLeastFirst, AreLeastCodes}
use Rattle.fpc_codec.proofs.CodeLemmas.{same_pattern, same_code, run_of-pos}

zero_or_not : (words : List ℕ) → BeginsWithZero words ⊎ (BeginsWithZero words → ⊥)
zero_or_not [] = inr (λ h. h)
zero_or_not (zero ∷ words) = inl refl
zero_or_not (suc n ∷ words) = inr (λ e. omega arith)

-- the code of a zero word and of those that follow it
pub least_run : (words after behind : List ℕ) (more : ℕ) → words ≡ 0 ∷ after → after ≡ replicate more 0 ++ behind → more ≤ 7
    → (more ≡ 7) ⊎ (BeginsWithZero behind → ⊥) → IsLeastFirst words (record { pattern = ZeroRun; payload = more }) behind
unfolding run_of word_of payload_bits
least_run words after behind more first zeros few longest =
    let one : more + 1 ≡ suc more = omega arith in record {
      says = rw (one, first, zeros) refl;
      zeros = λ begins. record { is_code = omega arith; is_run = refl; longest = longest };
      other = λ not. absurd (not (subst BeginsWithZero (sym first) refl));
    }

-- a run that is cut off where it has to be has one length
same_run : (top m n : ℕ) (behind after : List ℕ) → replicate m 0 ++ behind ≡ replicate n 0 ++ after
    → (m ≡ top) ⊎ (BeginsWithZero behind → ⊥) → (n ≡ top) ⊎ (BeginsWithZero after → ⊥) → m ≤ top → n ≤ top → (m ≡ n) × (behind ≡ after)
same_run top zero zero behind after e ends stops m_in n_in = (refl, e)
same_run top zero (suc n) behind after e (inl full) stops m_in n_in = absurd (omega arith)
same_run top zero (suc n) behind after e (inr ended) stops m_in n_in = absurd (ended (subst BeginsWithZero (sym e) refl))
same_run top (suc m) zero behind after e ends (inl full) m_in n_in = absurd (omega arith)
same_run top (suc m) zero behind after e ends (inr ended) m_in n_in = absurd (ended (subst BeginsWithZero e refl))
same_run top (suc m) (suc n) behind after e ends stops m_in n_in =
    let less : (k : ℕ) (words : List ℕ) → (suc k ≡ top) ⊎ (BeginsWithZero words → ⊥) → (k ≡ top - 1) ⊎ (BeginsWithZero words → ⊥) =
    λ k words either. elim either [ inl full ↦ inl (omega arith) | inr ended ↦ inr ended ] in
    let rest : replicate m 0 ++ behind ≡ replicate n 0 ++ after = cc in
    let same = same_run (top - 1) m n behind after rest (less m behind ends) (less n after stops) (omega arith) (omega arith) in
    (ap suc same.0, same.1)

-- the payload is read from the words of a code
same_payload : (pattern : Pattern) (n m : ℕ) → n < 2 ^ payload_bits pattern → m < 2 ^ payload_bits pattern
    → run_of pattern n ≡ run_of pattern m → word_of pattern n ≡ word_of pattern m → n ≡ m
unfolding payload_bits run_of word_of
same_payload ZeroRun n m n_in m_in runs words = omega arith
same_payload Signed4 n m n_in m_in runs words = grind (arith, nat_tests)
same_payload Signed8 n m n_in m_in runs words = grind (arith, nat_tests)
same_payload Signed16 n m n_in m_in runs words = grind (arith, nat_tests)
same_payload PaddedHalf n m n_in m_in runs words = omega arith
same_payload TwoSignedBytes n m n_in m_in runs words = grind (arith, nat_tests)
same_payload RepeatedByte n m n_in m_in runs words = omega arith
same_payload Uncompressed n m n_in m_in runs words = words

-- codes that say the same words by the same pattern are one
same_words : (c d : Code) → IsCode c → IsCode d → c.pattern ≡ d.pattern → run_of c.pattern c.payload ≡ run_of d.pattern d.payload
    → word_of c.pattern c.payload ≡ word_of d.pattern d.payload → c ≡ d
same_words c d c_is d_is patterns runs words =
    same_code c d patterns (same_payload c.pattern c.payload d.payload c_is (rw patterns d_is) (runs ∙ rw patterns refl) (words ∙ rw patterns refl))

pub replicate_first : (count value word : ℕ) (words : List ℕ) → 0 < count → replicate count value ≡ word ∷ words → value ≡ word
replicate_first zero value word words some e = absurd (omega arith)
replicate_first (suc count) value word words some e = cc

-- of two least codes for a word neither has less
same_least : (word : ℕ) (c d : Code) → IsLeastFor word c → IsLeastFor word d → c ≡ d
same_least word c d c_least d_least =
    let forth = c_least.least d d_least.is_code d_least.says in
    let back = d_least.least c c_least.is_code c_least.says in
    let prefixes : prefix_of c.pattern ≡ prefix_of d.pattern =
    elim forth [
      | inl less ↦ (elim back [ inl more ↦ absurd (omega arith) | inr same ↦ absurd (omega arith) ])
      | inr low ↦ (elim back [ inl more ↦ absurd (omega arith) | inr high ↦ omega arith ])
    ] in
    let runs : run_of c.pattern c.payload ≡ run_of d.pattern d.payload =
    sym (length-replicate (run_of c.pattern c.payload) (word_of c.pattern c.payload)) ∙ ap length (c_least.says ∙ sym d_least.says)
    ∙ length-replicate (run_of d.pattern d.payload) (word_of d.pattern d.payload) in
    let c_word = replicate_first (run_of c.pattern c.payload) (word_of c.pattern c.payload) word [] (run_of-pos c.pattern c.payload) c_least.says in
    let d_word = replicate_first (run_of d.pattern d.payload) (word_of d.pattern d.payload) word [] (run_of-pos d.pattern d.payload) d_least.says in
    same_words c d c_least.is_code d_least.is_code (same_pattern c.pattern d.pattern prefixes) runs (c_word ∙ sym d_word)

run_words : (c : Code) → c.pattern ≡ ZeroRun → words_of_code c ≡ replicate (suc c.payload) 0
unfolding run_of word_of
run_words c e =
    let one : c.payload + 1 ≡ suc c.payload = omega arith in
    rw (e, one) refl

run_below : (c : Code) → c.pattern ≡ ZeroRun → IsCode c → suc c.payload ≤ 8
unfolding payload_bits
run_below c e code =
    let small : c.payload < 2 ^ payload_bits ZeroRun = rw e at code in
    omega arith

first_run : (words : List ℕ) (c d : Code) (behind after : List ℕ) → words ≡ words_of_code c ++ behind → words ≡ words_of_code d ++ after
    → IsLongestRun c behind → IsLongestRun d after → (c ≡ d) × (behind ≡ after)
first_run words c d behind after c_says d_says c_run d_run =
    let e : replicate (suc c.payload) 0 ++ behind ≡ replicate (suc d.payload) 0 ++ after =
    ap (λ (ws : List ℕ). ws ++ behind) (sym (run_words c c_run.is_run)) ∙ sym c_says ∙ d_says ∙ ap (λ (ws : List ℕ). ws ++ after) (run_words d d_run.is_run) in
    let eight : (c : Code) (ws : List ℕ) → (c.payload ≡ 7) ⊎ (BeginsWithZero ws → ⊥) → (suc c.payload ≡ 8) ⊎ (BeginsWithZero ws → ⊥) =
    λ c ws either. elim either [ inl full ↦ inl (omega arith) | inr ended ↦ inr ended ] in
    let same = same_run 8 (suc c.payload) (suc d.payload) behind after e (eight c behind c_run.longest) (eight d after d_run.longest)
    (run_below c c_run.is_run c_run.is_code) (run_below d d_run.is_run d_run.is_code) in
    (same_code c d (c_run.is_run ∙ sym d_run.is_run) (omega (arith, same.0)), same.1)

first_word : (words : List ℕ) (c d : Code) (behind after : List ℕ) → words ≡ words_of_code c ++ behind → words ≡ words_of_code d ++ after
    → IsLeastFor (word_of c.pattern c.payload) c → IsLeastFor (word_of d.pattern d.payload) d → (c ≡ d) × (behind ≡ after)
first_word words c d behind after c_says d_says c_least d_least =
    let c_front : words ≡ word_of c.pattern c.payload ∷ behind = c_says ∙ ap (λ (ws : List ℕ). ws ++ behind) c_least.says in
    let d_front : words ≡ word_of d.pattern d.payload ∷ after = d_says ∙ ap (λ (ws : List ℕ). ws ++ after) d_least.says in
    let both : word_of c.pattern c.payload ∷ behind ≡ word_of d.pattern d.payload ∷ after = sym c_front ∙ d_front in
    let word : word_of c.pattern c.payload ≡ word_of d.pattern d.payload = cc both in
    let rest : behind ≡ after = cc both in
    (same_least (word_of c.pattern c.payload) c d c_least (subst (λ (w : ℕ). IsLeastFor w d) (sym word) d_least), rest)

-- words begin with one least code
pub same_first : (words : List ℕ) (c d : Code) (behind after : List ℕ) → IsLeastFirst words c behind → IsLeastFirst words d after → (c ≡ d) × (behind ≡ after)
same_first words c d behind after one two =
    elim (zero_or_not words) [
      | inl begins ↦ first_run words c d behind after one.says two.says (one.zeros begins) (two.zeros begins)
      | inr some ↦ first_word words c d behind after one.says two.says (one.other some) (two.other some)
    ]

-- the words are not none
first_some : (words : List ℕ) (c : Code) (behind : List ℕ) → IsLeastFirst words c behind → words ≡ [] → ⊥
first_some words c behind first none =
    omega (
      arith,
      ap length none,
      ap length first.says,
      length-append (words_of_code c) behind,
      length-replicate (run_of c.pattern c.payload) (word_of c.pattern c.payload),
      run_of-pos c.pattern c.payload,
    )

pub first_is_code : (words : List ℕ) (c : Code) (behind : List ℕ) → IsLeastFirst words c behind → IsCode c
first_is_code words c behind first =
    elim (zero_or_not words) [ inl begins ↦ (first.zeros begins).is_code | inr some ↦ (first.other some).is_code ]

-- what follows the least first code
pub AreLeastCodes-first : (words : List ℕ) (c : Code) (behind : List ℕ) (codes : List Code) → IsLeastFirst words c behind → AreLeastCodes words codes
    → (others : List Code) × (codes ≡ c ∷ others) × AreLeastCodes behind others
AreLeastCodes-first words c behind [] first none = absurd (first_some words c behind first none)
AreLeastCodes-first words c behind (d ∷ codes) first least =
    let same = same_first words c d behind least.0 first least.1 in
    (codes, ap (λ (x : Code). x ∷ codes) (sym same.0), subst (λ (ws : List ℕ). AreLeastCodes ws codes) (sym same.1) least.2)

-- the least codes of words are one list
pub AreLeastCodes-unique : (words : List ℕ) (codes others : List Code) → AreLeastCodes words codes → AreLeastCodes words others → codes ≡ others
AreLeastCodes-unique words [] [] least other = refl
AreLeastCodes-unique words [] (d ∷ others) least other = absurd (first_some words d other.0 other.1 least)
AreLeastCodes-unique words (c ∷ codes) others least other =
    let rest = AreLeastCodes-first words c least.0 others least.1 other in
    ap (λ (cs : List Code). c ∷ cs) (AreLeastCodes-unique least.0 codes rest.0 least.2 rest.2) ∙ sym rest.1

-- the least codes are codes that mean the words
pub meaning-least : (words : List ℕ) (codes : List Code) → AreLeastCodes words codes → (meaning codes ≡ words) × All IsCode codes
unfolding meaning
meaning-least words [] least = (sym least, All-nil IsCode)
meaning-least words (c ∷ codes) least =
    let rest = meaning-least least.0 codes least.2 in (
      ap (λ (ws : List ℕ). words_of_code c ++ ws) rest.0 ∙ sym least.1.says,
      All-cons IsCode c codes (first_is_code words c least.0 least.1) rest.1,
    )

low_by : (pattern : Pattern) (n : ℕ) → n < 2 ^ payload_bits pattern → 6 * run_of pattern n ≤ 8 * (3 + payload_bits pattern)
unfolding payload_bits run_of
low_by ZeroRun n n_in = omega arith
low_by Signed4 n n_in = omega arith
low_by Signed8 n n_in = omega arith
low_by Signed16 n n_in = omega arith
low_by PaddedHalf n n_in = omega arith
low_by TwoSignedBytes n n_in = omega arith
low_by RepeatedByte n n_in = omega arith
low_by Uncompressed n n_in = omega arith

-- a code has at least six bits for eight words
code_bits-low : (c : Code) → IsCode c → 6 * run_of c.pattern c.payload ≤ 8 * code_bits c
code_bits-low c code = low_by c.pattern c.payload code

-- so twelve for sixteen
pub bit_count-low : (words : List ℕ) (codes : List Code) → AreLeastCodes words codes → 6 * length words ≤ 8 * bit_count codes
unfolding bit_count
bit_count-low words [] least = rw least (omega arith)
bit_count-low words (c ∷ codes) least =
    let rest = bit_count-low least.0 codes least.2 in
    let size = ap length least.1.says in
    let run = length-replicate (run_of c.pattern c.payload) (word_of c.pattern c.payload) in
    omega (arith, rest, size, run, length-append (words_of_code c) least.0, code_bits-low c (first_is_code words c least.0 least.1))
