-- Lemmas on numbers as bytes, and on the elements of a line.
use Rattle.std.proofs.Common.{◌≡◌, ℕ, zero, suc, ◌+◌, ◌*◌, ◌/◌, ◌%◌, ◌^◌, ◌<◌, ◌≤◌, List, [], ◌∷◌, ◌++◌, length, take, drop, refl, sym, ap, ◌∙◌, get_or, replicate, All, Fits, w32, inl, inr, arith}
use Rattle.std.specs.Int.{to_le_bytes}
use Rattle.std.specs.List.{concat, flat_map}
use Rattle.std.proofs.Math.Arith.{mod-mul}
use Rattle.std.proofs.Math.Nat.{div-div-eq-div-mul, pow-le-pow_right, pow-suc}
use Rattle.std.proofs.lemmas.Bool.{cases_lt}
use Rattle.std.proofs.lemmas.List.{take_more, drop_more, append-nil, get_or-drop, get_or-take, get_or_past, length-append, length-drop, length-take, length-take-le, nil_from_length, take-append-drop}
use Rattle.std.proofs.lemmas.List.Concat.{flat_map-append}
use Rattle.bdi_codec.specs.Bytes.{number_of, bytes_of, elements}

-- each number of the list is a byte
abbrev pub AreBytes : List ℕ → Type 0
AreBytes bs = (i : ℕ) → get_or bs i 0 < 256

pub AreBytes-take : (width : ℕ) (bytes : List ℕ) → AreBytes bytes → AreBytes (take width bytes)
AreBytes-take width bytes h i = elim (cases_lt i width) [
  | inl low ↦ rw get_or-take (h i)
  | inr high ↦
      let past : length (take width bytes) ≤ i = omega (arith, length-take width bytes) in
      rw get_or_past (omega arith)
]

-- a number of at most seven bytes leaves room for one more
pub shifted_fits : (n k : ℕ) → n < 256 ^ k → k ≤ 7 → 256 * n + 255 < 2 ^ 64
shifted_fits n k below small =
    let top : 256 ^ k ≤ 256 ^ 7 = pow-le-pow_right {n = 256} (omega arith) {i = k} {j = 7} small in
    omega arith

-- such a number with its byte
pub shifted-lt : (n b k j : ℕ) → n < 256 ^ k → b < 256 → j ≡ suc k → 256 * n + b < 256 ^ j
shifted-lt n b k j below byte e = rw (e, pow-suc 256 k) (omega arith)

-- the number of the bytes from a place on
pub number_of-drop : (bytes : List ℕ) (i j : ℕ) → j ≡ i + 1 → i < length bytes → number_of (drop i bytes) ≡ get_or bytes i 0 + 256 * number_of (drop j bytes)
number_of-drop bytes i j e h = rw e (ap number_of (drop_more bytes i 0 h))

pub number_of-lt : (bs : List ℕ) → AreBytes bs → number_of bs < 256 ^ length bs
number_of-lt [] h = omega arith
number_of-lt (b ∷ bs) h =
    let e : 256 ^ suc (length bs) ≡ 256 ^ length bs * 256 = pow-suc 256 (length bs) in
    let here : b < 256 = h 0 in
    rw e (omega (arith, number_of-lt bs (λ i. h (suc i))))

pub pow_positive : (k : ℕ) → 0 < 256 ^ k
pow_positive zero = omega arith
pow_positive (suc k) = omega (arith, pow-suc 256 k, pow_positive k)

pub length-bytes_of : (k n : ℕ) → length (bytes_of k n) ≡ k
unfolding bytes_of
length-bytes_of zero n = refl
length-bytes_of (suc k) n = ap suc (length-bytes_of k (n / 256))

pub length-flat_map_bytes_of : (k : ℕ) (f : ℕ → ℕ) (ns : List ℕ) → length (flat_map (λ n. bytes_of k (f n)) ns) ≡ k * length ns
length-flat_map_bytes_of k f [] = omega arith
length-flat_map_bytes_of k f (n ∷ ns) =
    let others = flat_map (λ n. bytes_of k (f n)) ns in
    length-append (bytes_of k (f n)) others ∙ omega (arith, length-bytes_of k (f n), length-flat_map_bytes_of k f ns)

-- one byte more of a number
pub bytes_of-more : (j k n : ℕ) → j ≡ suc k → bytes_of j n ≡ n % 256 ∷ bytes_of k (n / 256)
unfolding bytes_of
bytes_of-more j k n e = rw e refl

pub bytes_of-none : (j n : ℕ) → j ≡ 0 → bytes_of j n ≡ []
unfolding bytes_of
bytes_of-none j n e = rw e refl

pub number_of-bytes_of : (k n : ℕ) → number_of (bytes_of k n) ≡ n % 256 ^ k
unfolding bytes_of
number_of-bytes_of zero n = omega arith
number_of-bytes_of (suc k) n =
    let e : 256 ^ suc k ≡ 256 ^ k * 256 = pow-suc 256 k in
    rw e (omega (arith, number_of-bytes_of k (n / 256), mod-mul n {m = 256 ^ k} {c = 256} (pow_positive k) (omega arith)))

pub bytes_of-number_of : (bs : List ℕ) → AreBytes bs → bytes_of (length bs) (number_of bs) ≡ bs
unfolding bytes_of
bytes_of-number_of [] h = refl
bytes_of-number_of (b ∷ bs) h =
    let here : b < 256 = h 0 in
    let low : (b + 256 * number_of bs) % 256 ≡ b = omega arith in
    let high : (b + 256 * number_of bs) / 256 ≡ number_of bs = omega arith in
    rw (low, high, bytes_of-number_of bs (λ i. h (suc i))) refl

-- the same of the front of a list
pub bytes_of-number_of-take : (width : ℕ) (bytes : List ℕ) → width ≤ length bytes → AreBytes bytes → bytes_of width (number_of (take width bytes)) ≡ take width bytes
bytes_of-number_of-take width bytes room h =
    ap (λ (k : ℕ). bytes_of k (number_of (take width bytes))) (sym (length-take-le width bytes room)) ∙ bytes_of-number_of (take width bytes) (AreBytes-take width bytes h)

-- one element more
pub elements-more : (j k width : ℕ) (bytes : List ℕ) → j ≡ suc k → elements width j bytes ≡ number_of (take width bytes) ∷ elements width k (drop width bytes)
unfolding elements
elements-more j k width bytes e = rw e refl

pub elements-none : (j width : ℕ) (bytes : List ℕ) → j ≡ 0 → elements width j bytes ≡ []
unfolding elements
elements-none j width bytes e = rw e refl

pub length-elements : (width count : ℕ) (bytes : List ℕ) → length (elements width count bytes) ≡ count
unfolding elements
length-elements width zero bytes = refl
length-elements width (suc count) bytes = ap suc (length-elements width count (drop width bytes))

pub elements-lt : (width count : ℕ) (bytes : List ℕ) → width * count ≤ length bytes → AreBytes bytes → All (λ n. n < 256 ^ width) (elements width count bytes)
unfolding elements
elements-lt width zero bytes room h k d l = absurd (omega arith)
elements-lt width (suc count) bytes room h zero d l =
    let size : length (take width bytes) ≡ width = length-take-le width bytes (omega arith) in
    let here = number_of-lt (take width bytes) (AreBytes-take width bytes h) in
    rw size at here
elements-lt width (suc count) bytes room h (suc k) d l =
    elements-lt width count (drop width bytes) (omega (arith, length-drop width bytes)) (λ i. rw get_or-drop (h (width + i))) k d (omega arith)

-- the elements of all the bytes, as bytes again
pub elements-joined : (width count : ℕ) (bytes : List ℕ) → length bytes ≡ width * count → AreBytes bytes → flat_map (bytes_of width) (elements width count bytes) ≡ bytes
unfolding elements
elements-joined width zero bytes len h = sym (nil_from_length bytes (omega arith))
elements-joined width (suc count) bytes len h =
    let here = bytes_of-number_of-take width bytes (omega arith) h in
    let rest = elements-joined width count (drop width bytes) (omega (arith, length-drop width bytes)) (λ i. rw get_or-drop (h (width + i))) in
    rw (here, rest) (take-append-drop width bytes)

-- one piece more of a joined list
pub flat_map_step : (f : ℕ → List ℕ) (xs : List ℕ) (i : ℕ) → i < length xs
    → flat_map f (take (i + 1) xs) ≡ flat_map f (take i xs) ++ f (get_or xs i 0)
flat_map_step f xs i h =
    ap (flat_map f) (take_more xs i 0 h) ∙ flat_map-append f (take i xs) (get_or xs i 0 ∷ []) ∙ ap (λ (r : List ℕ). flat_map f (take i xs) ++ r) (append-nil (f (get_or xs i 0)))

-- one copy more of the same bytes
pub copies-more : (j k : ℕ) (bytes : List ℕ) → j ≡ suc k → concat (replicate j bytes) ≡ bytes ++ concat (replicate k bytes)
copies-more j k bytes e = rw e refl

pub copies-none : (j : ℕ) (bytes : List ℕ) → j ≡ 0 → concat (replicate j bytes) ≡ []
copies-none j bytes e = rw e refl

-- a number of at most four bytes has 32 bits
pub fits_mask : (n k : ℕ) → n < 256 ^ k → k ≤ 4 → Fits w32 n
fits_mask n k below small =
    let top : 256 ^ k ≤ 256 ^ 4 = pow-le-pow_right {n = 256} (omega arith) {i = k} {j = 4} small in
    omega arith

two_down : (n : ℕ) → n / 256 / 256 ≡ n / 65536
two_down n = div-div-eq-div-mul n 256 256

three_down : (n : ℕ) → n / 256 / 256 / 256 ≡ n / 16777216
three_down n = ap (λ m. m / 256) (two_down n) ∙ div-div-eq-div-mul n 65536 256

-- the first bytes of a number of 32 bits
pub first_bytes : (n count : ℕ) → count ≤ 4 → take count (to_le_bytes w32 n) ≡ bytes_of count n
unfolding bytes_of
first_bytes n zero small = refl
first_bytes n (suc zero) small = refl
first_bytes n (suc (suc zero)) small = refl
first_bytes n (suc (suc (suc zero))) small = rw (two_down n) refl
first_bytes n (suc (suc (suc (suc zero)))) small = rw (three_down n, two_down n) refl
first_bytes n (suc (suc (suc (suc (suc count))))) small = absurd (omega arith)
