-- The line that bytes say is what they mean.
use Rattle.std.proofs.Common.{◌≡◌, ℕ, suc, ◌+◌, ◌-◌, ◌*◌, ◌/◌, ◌%◌, ◌^◌, ◌<◌, ◌≤◌, List, [], ◌∷◌, ◌++◌, length, take, All, refl, sym, ap, ◌∙◌, arith}
use Rattle.std.proofs.lemmas.Nat.{shr_split}
use Rattle.std.proofs.lemmas.List.{append_assoc, take_at, length-append, length-replicate}
use Rattle.std.proofs.lemmas.List.Elements.{All-tail, All-head}
use Rattle.fpc_codec.specs.declared.codes.Code.{Code}
use Rattle.fpc_codec.specs.Bits.{number_of, joined}
use Rattle.fpc_codec.specs.Codes.{prefix_of, payload_bits, word_of, run_of, IsCode, words_of_code, meaning, code_bits, code_row, codes_row}
use Rattle.fpc_codec.specs.Line.{Means, line_of}
use Rattle.fpc_codec.specs.Reading.{pattern_of, code_read, words_read, line_said}
use Rattle.fpc_codec.proofs.RowLemmas.{joined-joined, front-lt, same_joined}
use Rattle.fpc_codec.proofs.CodeLemmas.{pattern_of-prefix_of, prefix_of-lt, same_code, run_of-pos}

joined-split : (w row : ℕ) → joined w (row % 2 ^ w) (row / 2 ^ w) ≡ row
unfolding joined
joined-split w row = omega (arith, shr_split row w)

-- the first bits of a row, and those behind them
joined-parts : (w a m : ℕ) → a < 2 ^ w → (joined w a m % 2 ^ w ≡ a) × (joined w a m / 2 ^ w ≡ m)
joined-parts w a m below =
    let row = joined w a m in
    let split : joined w (row % 2 ^ w) (row / 2 ^ w) ≡ row = joined-split w row in
    let part : row % 2 ^ w < 2 ^ w = omega arith in
    same_joined w (row % 2 ^ w) a (row / 2 ^ w) m part below split

-- a code is read from its row
code_read-code_row : (c : Code) (behind : ℕ) → IsCode c → code_read (code_row c behind) ≡ c
unfolding code_read
code_read-code_row c behind code =
    let rest = joined (payload_bits c.pattern) c.payload behind in
    let prefix_in : prefix_of c.pattern < 2 ^ 3 = omega (arith, prefix_of-lt c.pattern) in
    let low : code_row c behind % 8 ≡ prefix_of c.pattern = (joined-parts 3 (prefix_of c.pattern) rest prefix_in).0 in
    let high : code_row c behind / 8 ≡ rest = (joined-parts 3 (prefix_of c.pattern) rest prefix_in).1 in
    let pattern : pattern_of (code_row c behind % 8) ≡ c.pattern = ap pattern_of low ∙ pattern_of-prefix_of c.pattern in
    let payload : code_row c behind / 8 % 2 ^ payload_bits (pattern_of (code_row c behind % 8)) ≡ c.payload =
    rw (high, pattern) (joined-parts (payload_bits c.pattern) c.payload behind code).0 in
    same_code (code_read (code_row c behind)) c pattern payload

-- what stands behind it
code_row-behind : (c : Code) (behind : ℕ) → IsCode c → code_row c behind / 2 ^ code_bits c ≡ behind
code_row-behind c behind code =
    let below : prefix_of c.pattern + c.payload * 2 ^ 3 < 2 ^ (3 + payload_bits c.pattern) =
    front-lt 3 (prefix_of c.pattern) (payload_bits c.pattern) c.payload (omega (arith, prefix_of-lt c.pattern)) code in
    let whole = joined-joined 3 (prefix_of c.pattern) (payload_bits c.pattern) c.payload behind in
    rw whole at (joined-parts (code_bits c) (prefix_of c.pattern + c.payload * 2 ^ 3) behind below).1

-- codes are read from their row one after another
words_read-codes_row : (codes : List Code) (more behind : ℕ) → All IsCode codes
    → words_read (length codes + more) (codes_row codes behind) ≡ meaning codes ++ words_read more behind
unfolding words_read codes_row meaning
words_read-codes_row [] more behind are =
    let e : 0 + more ≡ more = omega arith in
    rw e refl
words_read-codes_row (c ∷ codes) more behind are =
    let code = All-head IsCode c codes are in
    let e : suc (length codes) + more ≡ suc (length codes + more) = omega arith in
    let first = code_read-code_row c (codes_row codes behind) code in
    let rest = code_row-behind c (codes_row codes behind) code in
    let others = words_read-codes_row codes more behind (All-tail IsCode c codes are) in
    rw (e, first, rest, others) (sym (append_assoc (words_of_code c) (meaning codes) (words_read more behind)))

-- codes have as many words at least
length-meaning-ge : (codes : List Code) → length codes ≤ length (meaning codes)
unfolding meaning
length-meaning-ge [] = omega arith
length-meaning-ge (c ∷ codes) =
    omega (
      arith,
      length-meaning-ge codes,
      length-append (words_of_code c) (meaning codes),
      length-replicate (run_of c.pattern c.payload) (word_of c.pattern c.payload),
      run_of-pos c.pattern c.payload,
    )

-- the line that bytes say is the one that they mean
pub line_said-means : (bytes line : List ℕ) → Means bytes line → line_said bytes ≡ line
unfolding line_said
line_said-means bytes line means =
    let codes = means.coded.codes in
    let more = 16 - length codes in
    let size : length (meaning codes) ≡ 16 = ap length means.coded.says ∙ means.sixteen in
    let count : length codes + more ≡ 16 = omega (arith, length-meaning-ge codes) in
    let read = words_read-codes_row codes more means.coded.behind means.coded.are_codes in
    let words : words_read 16 (number_of bytes) ≡ meaning codes ++ words_read more means.coded.behind =
    ap (λ (row : ℕ). words_read 16 row) means.coded.front ∙ ap (λ (n : ℕ). words_read n (codes_row codes means.coded.behind)) (sym count) ∙ read in
    let front : take 16 (words_read 16 (number_of bytes)) ≡ means.words =
    ap (λ (ws : List ℕ). take 16 ws) words ∙ take_at (meaning codes) (words_read more means.coded.behind) 16 size ∙ means.coded.says in
    ap (λ (ws : List ℕ). line_of ws) front ∙ means.says
