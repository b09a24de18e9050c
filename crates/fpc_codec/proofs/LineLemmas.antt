-- Bytes as words and words as bytes.
use Rattle.std.proofs.Common.{◌≡◌, ℕ, zero, suc, ◌+◌, ◌*◌, ◌<◌, List, [], ◌∷◌, ◌++◌, length, get_or, take, All, ◌^◌, refl, sym, ap, ◌∙◌, w32, arith}
use Rattle.std.specs.Int.{from_le_bytes, to_le_bytes}
use Rattle.std.proofs.lemmas.List.{append_assoc, append-nil, take_more}
use Rattle.std.proofs.lemmas.List.Elements.{All-nil, All-cons}
use Rattle.std.proofs.lemmas.Nat.{le_bytes_4}
use Rattle.fpc_codec.specs.Line.{words_of, line_of, Means}

line_of-append : (xs ys : List ℕ) → line_of (xs ++ ys) ≡ line_of xs ++ line_of ys
unfolding line_of
line_of-append [] ys = refl
line_of-append (x ∷ xs) ys =
    ap (λ (bytes : List ℕ). to_le_bytes w32 x ++ bytes) (line_of-append xs ys) ∙ sym (append_assoc (to_le_bytes w32 x) (line_of xs) (line_of ys))

-- one word more
pub line_of-take : (words : List ℕ) (i : ℕ) → i < length words
    → line_of (take (i + 1) words) ≡ line_of (take i words) ++ to_le_bytes w32 (get_or words i 0)
unfolding line_of
line_of-take words i within =
    rw (take_more words i 0 within, line_of-append) (ap (λ (bytes : List ℕ). line_of (take i words) ++ bytes) (append-nil (to_le_bytes w32 (get_or words i 0))))

first_four : (a b c d : ℕ) → a < 256 → b < 256 → c < 256 → d < 256 → (i : ℕ) → get_or (a ∷ b ∷ c ∷ d ∷ []) i 0 < 256
first_four a b c d a_in b_in c_in d_in zero = a_in
first_four a b c d a_in b_in c_in d_in (suc zero) = b_in
first_four a b c d a_in b_in c_in d_in (suc (suc zero)) = c_in
first_four a b c d a_in b_in c_in d_in (suc (suc (suc zero))) = d_in
first_four a b c d a_in b_in c_in d_in (suc (suc (suc (suc i)))) = omega arith

-- bytes as words and back
pub line_of-words_of : (k : ℕ) (bytes : List ℕ) → length bytes ≡ 4 * k → ((i : ℕ) → get_or bytes i 0 < 256) → line_of (words_of bytes) ≡ bytes
unfolding line_of words_of
line_of-words_of k [] size below = refl
line_of-words_of k (a ∷ []) size below = absurd (omega arith)
line_of-words_of k (a ∷ b ∷ []) size below = absurd (omega arith)
line_of-words_of k (a ∷ b ∷ c ∷ []) size below = absurd (omega arith)
line_of-words_of zero (a ∷ b ∷ c ∷ d ∷ rest) size below = absurd (omega arith)
line_of-words_of (suc k) (a ∷ b ∷ c ∷ d ∷ rest) size below =
    let bytes = first_four a b c d (below 0) (below 1) (below 2) (below 3) in
    let front : to_le_bytes w32 (from_le_bytes w32 (a ∷ b ∷ c ∷ d ∷ [])) ≡ a ∷ b ∷ c ∷ d ∷ [] =
    le_bytes_4 (a ∷ b ∷ c ∷ d ∷ []) (from_le_bytes w32 (a ∷ b ∷ c ∷ d ∷ [])) refl bytes refl in
    ap (λ (bs : List ℕ). bs ++ line_of (words_of rest)) front
    ∙ (ap (λ (bs : List ℕ). a ∷ b ∷ c ∷ d ∷ bs) (line_of-words_of k rest (omega arith) (λ i. below (suc (suc (suc (suc i)))))))

pub length-words_of : (k : ℕ) (bytes : List ℕ) → length bytes ≡ 4 * k → length (words_of bytes) ≡ k
unfolding words_of
length-words_of k [] size = omega arith
length-words_of k (a ∷ []) size = absurd (omega arith)
length-words_of k (a ∷ b ∷ []) size = absurd (omega arith)
length-words_of k (a ∷ b ∷ c ∷ []) size = absurd (omega arith)
length-words_of zero (a ∷ b ∷ c ∷ d ∷ rest) size = absurd (omega arith)
length-words_of (suc k) (a ∷ b ∷ c ∷ d ∷ rest) size = ap suc (length-words_of k rest (omega arith))

-- words have 32 bits
pub words_of-lt : (bytes : List ℕ) → ((i : ℕ) → get_or bytes i 0 < 256) → All (λ word. word < 2 ^ 32) (words_of bytes)
unfolding words_of
words_of-lt [] below = All-nil (λ word. word < 2 ^ 32)
words_of-lt (a ∷ []) below = All-nil (λ word. word < 2 ^ 32)
words_of-lt (a ∷ b ∷ []) below = All-nil (λ word. word < 2 ^ 32)
words_of-lt (a ∷ b ∷ c ∷ []) below = All-nil (λ word. word < 2 ^ 32)
words_of-lt (a ∷ b ∷ c ∷ d ∷ rest) below =
    All-cons (λ word. word < 2 ^ 32) (from_le_bytes w32 (a ∷ b ∷ c ∷ d ∷ [])) (words_of rest) (omega (arith, below 0, below 1, below 2, below 3))
    (words_of-lt rest (λ i. below (suc (suc (suc (suc i))))))

length-line_of : (words : List ℕ) → length (line_of words) ≡ 4 * length words
unfolding line_of
length-line_of [] = refl
length-line_of (word ∷ words) = omega (arith, length-line_of words)

-- bytes mean only lines of 64 bytes
pub length-Means : (bytes line : List ℕ) → Means bytes line → length line ≡ 64
length-Means bytes line means = omega (arith, ap length means.says, length-line_of means.words, means.sixteen)
