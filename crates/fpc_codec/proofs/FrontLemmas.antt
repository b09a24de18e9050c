-- Rows of bits that begin with codes.
use Rattle.std.proofs.Common.{◌≡◌, ℕ, ◌+◌, ◌<◌, ◌≤◌, List, [], ◌∷◌, ◌++◌, length, All, refl, sym, ap, ◌∙◌, arith}
use Rattle.std.proofs.lemmas.List.{length-append, length-replicate}
use Rattle.std.proofs.lemmas.List.Elements.{All-nil, All-cons, All-tail, All-head}
use Rattle.fpc_codec.specs.declared.codes.Code.{Code}
use Rattle.fpc_codec.specs.declared.codes.Pattern.{Pattern}
use Rattle.fpc_codec.specs.Bits.{joined}
use Rattle.fpc_codec.specs.Codes.{prefix_of, payload_bits, word_of, run_of, IsCode, words_of_code, meaning, code_bits, bit_count, code_row, codes_row}
use Rattle.fpc_codec.specs.Line.{BeginsWithCodes, Means, line_of}
use Rattle.fpc_codec.proofs.RowLemmas.{same_joined}
use Rattle.fpc_codec.proofs.CodeLemmas.{prefix_of-lt, same_pattern, same_first, run_of-pos}

-- codes for no words
pub begins_none : (row count : ℕ) → BeginsWithCodes row count []
unfolding meaning bit_count codes_row
begins_none row count =
    record { codes = []; behind = row; are_codes = All-nil IsCode; within = omega arith; front = refl; says = refl }

-- a code in front
pub begins_more : (c : Code) (row count rest left : ℕ) (words : List ℕ) → IsCode c → row ≡ code_row c rest → left + code_bits c ≡ count
    → BeginsWithCodes rest left words → BeginsWithCodes row count (words_of_code c ++ words)
unfolding meaning bit_count codes_row
begins_more c row count rest left words code cut bits begins = record {
  codes = c ∷ begins.codes;
  behind = begins.behind;
  are_codes = All-cons IsCode c begins.codes code begins.are_codes;
  within = omega (arith, begins.within);
  front = cut ∙ ap (λ (n : ℕ). code_row c n) begins.front;
  says = ap (λ (ws : List ℕ). words_of_code c ++ ws) begins.says;
}

rest_by : (c : Code) (row count rest left behind : ℕ) (words : List ℕ) (codes : List Code) → IsCode c → row ≡ code_row c rest → left + code_bits c ≡ count
    → 0 < length words → All IsCode codes → bit_count codes ≤ count → row ≡ codes_row codes behind → meaning codes ≡ words
    → (others : List ℕ) × (words ≡ words_of_code c ++ others) × BeginsWithCodes rest left others
unfolding meaning bit_count codes_row
rest_by c row count rest left behind words [] code cut bits some are_codes within front says = absurd (omega (arith, ap length says))
rest_by c row count rest left behind words (d ∷ ds) code cut bits some are_codes within front says =
    let first = same_first c d rest (codes_row ds behind) code (All-head IsCode d ds are_codes) (sym cut ∙ front) in
    let widths = ap (λ (x : Code). code_bits x) first.0 in (
      meaning ds,
      sym says ∙ ap (λ (x : Code). words_of_code x ++ meaning ds) (sym first.0),
      record { codes = ds; behind = behind; are_codes = All-tail IsCode d ds are_codes; within = omega (arith, widths, within); front = first.1; says = refl },
    )

-- what stands behind the first code
pub begins_rest : (c : Code) (row count rest left : ℕ) (words : List ℕ) → IsCode c → row ≡ code_row c rest → left + code_bits c ≡ count
    → 0 < length words → BeginsWithCodes row count words → (others : List ℕ) × (words ≡ words_of_code c ++ others) × BeginsWithCodes rest left others
begins_rest c row count rest left words code cut bits some begins =
    rest_by c row count rest left begins.behind words begins.codes code cut bits some begins.are_codes begins.within begins.front begins.says

ended_by : (count : ℕ) (words : List ℕ) (codes : List Code) → count < 3 → 0 < length words → bit_count codes ≤ count → meaning codes ≡ words → ⊥
unfolding meaning bit_count
ended_by count words [] few some within says = omega (arith, ap length says)
ended_by count words (d ∷ ds) few some within says = omega arith

-- too few bits for a prefix
pub begins_ended : (row count : ℕ) (words : List ℕ) → count < 3 → 0 < length words → BeginsWithCodes row count words → ⊥
begins_ended row count words few some begins = ended_by count words begins.codes few some begins.within begins.says

cut_by : (row count rest behind : ℕ) (pattern : Pattern) (words : List ℕ) (codes : List Code) → row ≡ joined 3 (prefix_of pattern) rest
    → count < 3 + payload_bits pattern → 0 < length words → bit_count codes ≤ count → row ≡ codes_row codes behind → meaning codes ≡ words → ⊥
unfolding meaning bit_count codes_row
cut_by row count rest behind pattern words [] cut few some within front says = omega (arith, ap length says)
cut_by row count rest behind pattern words (d ∷ ds) cut few some within front says =
    let prefixes = same_joined 3 (prefix_of pattern) (prefix_of d.pattern) rest (joined (payload_bits d.pattern) d.payload (codes_row ds behind))
    (omega (arith, prefix_of-lt pattern)) (omega (arith, prefix_of-lt d.pattern)) (sym cut ∙ front) in
    omega (arith, ap payload_bits (same_pattern pattern d.pattern prefixes.0), within)

-- too few bits for the payload of the pattern whose prefix stands there
pub begins_cut : (row count prefix rest : ℕ) (pattern : Pattern) (words : List ℕ) → prefix_of pattern ≡ prefix → row ≡ joined 3 prefix rest
    → count < 3 + payload_bits pattern → 0 < length words → BeginsWithCodes row count words → ⊥
begins_cut row count prefix rest pattern words e cut few some begins =
    cut_by row count rest begins.behind pattern words begins.codes (cut ∙ ap (λ (n : ℕ). joined 3 n rest) (sym e)) few some begins.within begins.front begins.says

-- a row of bits begins with one list of codes for so many words
same_codes : (codes others : List Code) (behind after : ℕ) → All IsCode codes → All IsCode others → codes_row codes behind ≡ codes_row others after
    → length (meaning codes) ≡ length (meaning others) → codes ≡ others
unfolding codes_row meaning
same_codes [] [] behind after are others_are rows sizes = refl
same_codes [] (d ∷ others) behind after are others_are rows sizes =
    absurd (omega (
      arith,
      sizes,
      length-append (words_of_code d) (meaning others),
      length-replicate (run_of d.pattern d.payload) (word_of d.pattern d.payload),
      run_of-pos d.pattern d.payload,
    ))
same_codes (c ∷ codes) [] behind after are others_are rows sizes =
    absurd (omega (
      arith,
      sizes,
      length-append (words_of_code c) (meaning codes),
      length-replicate (run_of c.pattern c.payload) (word_of c.pattern c.payload),
      run_of-pos c.pattern c.payload,
    ))
same_codes (c ∷ codes) (d ∷ others) behind after are others_are rows sizes =
    let first = same_first c d (codes_row codes behind) (codes_row others after) (All-head IsCode c codes are) (All-head IsCode d others others_are) rows in
    let widths = ap (λ (x : Code). length (words_of_code x)) first.0 in
    let rest = same_codes codes others behind after (All-tail IsCode c codes are) (All-tail IsCode d others others_are) first.1
    (omega (arith, sizes, widths, length-append (words_of_code c) (meaning codes), length-append (words_of_code d) (meaning others))) in
    ap (λ (x : Code). x ∷ codes) first.0 ∙ ap (λ (cs : List Code). d ∷ cs) rest

-- bytes have one meaning
pub Means-unique : (bytes line other : List ℕ) → Means bytes line → Means bytes other → line ≡ other
Means-unique bytes line other one two =
    let sizes = ap length one.coded.says ∙ one.sixteen ∙ sym two.sixteen ∙ sym (ap length two.coded.says) in
    let codes = same_codes one.coded.codes two.coded.codes one.coded.behind two.coded.behind one.coded.are_codes two.coded.are_codes
    (sym one.coded.front ∙ two.coded.front) sizes in
    let words : one.words ≡ two.words = sym one.coded.says ∙ ap (λ (cs : List Code). meaning cs) codes ∙ two.coded.says in
    sym one.says ∙ ap (λ (ws : List ℕ). line_of ws) words ∙ two.says
