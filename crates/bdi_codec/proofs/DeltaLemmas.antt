-- Lemmas on masks and deltas. `values` are the values of an element and `lows` those of a delta's low bytes.
use Rattle.std.proofs.Common.{◌≡◌, ℕ, suc, ◌+◌, ◌-◌, ◌*◌, ◌%◌, ◌^◌, ◌<◌, ◌≤◌, ◌⊎◌, inl, inr, Bool, true, false, not, All, List, [], ◌∷◌, length, drop, get_or, refl, ap, ◌∙◌, arith, if◌then◌else◌, ◌==◌}
use Rattle.std.proofs.Math.Nat.{pow-le-pow_right, pow-suc, mod-eq_of_lt}
use Rattle.std.proofs.lemmas.Bool.{cases_Bool}
use Rattle.std.proofs.lemmas.Bool.Decides.{nat_tests}
use Rattle.std.proofs.lemmas.List.{drop_more}
use Rattle.std.proofs.lemmas.Nat.{mod-mul-add}
use mir.Val.{bool_byte}
use Rattle.bdi_codec.specs.Deltas.{is_small, difference, base_of, is_near, delta_of, mask_of, sign_extended, restored}

-- a bit, tested and turned into a number again
pub bit_again : (n : ℕ) → (if n % 2 == 1 then 1 else 0) ≡ n % 2
bit_again n = grind (arith, nat_tests)

pub mul-one_less : (d j k : ℕ) → j ≡ suc k → d * j ≡ d * k + d
mul-one_less d j k e = rw e (omega arith)

-- a mask of at most 31 bits leaves room for one more
pub doubled_fits : (n k : ℕ) → n < 2 ^ k → k ≤ 31 → 2 * n + 1 < 2 ^ 32
doubled_fits n k below small =
    let top : 2 ^ k ≤ 2 ^ 31 = pow-le-pow_right {n = 2} (omega arith) {i = k} {j = 31} small in
    omega arith

-- such a mask with its bit
pub doubled-lt : (n b k j : ℕ) → n < 2 ^ k → b ≤ 1 → j ≡ suc k → b + 2 * n < 2 ^ j
doubled-lt n b k j below bit e = rw (e, pow-suc 2 k) (omega arith)

-- the mask of the elements from a place on
pub mask_of-drop : (values half : ℕ) (es : List ℕ) (i j : ℕ) → j ≡ i + 1 → i < length es
    → mask_of values half (drop i es) ≡ (if is_small values half (get_or es i 0) then 0 else 1) + 2 * mask_of values half (drop j es)
mask_of-drop values half es i j e h = rw e (ap (mask_of values half) (drop_more es i 0 h))

pub mask_of-lt : (values half : ℕ) (es : List ℕ) → mask_of values half es < 2 ^ length es
mask_of-lt values half [] = omega arith
mask_of-lt values half (n ∷ ns) =
    let e : 2 ^ suc (length ns) ≡ 2 ^ length ns * 2 = pow-suc 2 (length ns) in
    let bit : (if is_small values half n then 0 else 1) ≤ 1 = grind arith in
    rw e (omega (arith, mask_of-lt values half ns))

pub base_of-lt : (values half : ℕ) (es : List ℕ) → 0 < values → All (λ n. n < values) es → base_of values half es < values
base_of-lt values half [] some within = some
base_of-lt values half (n ∷ ns) some within =
    elim (cases_Bool (is_small values half n)) [
      | inl small ↦ rw small (base_of-lt values half ns some (λ k d l. within (suc k) d (omega arith)))
      | inr large ↦ rw large (within 0 n (omega arith))
    ]

small_cases : (values half n : ℕ) → is_small values half n ≡ true → (n < half) ⊎ (values ≤ n + half)
unfolding is_small
small_cases values half n small = grind (arith, nat_tests)

-- a small element comes back from its low bytes
sign_extended-low : (values half q lows n : ℕ) → is_small values half n ≡ true → n < values → lows ≡ 2 * half → values ≡ q * lows + lows
    → sign_extended values half (n % lows) ≡ n
unfolding sign_extended
sign_extended-low values half q lows n small n_in two whole = elim (small_cases values half n small) [
  | inl low ↦
      let same : n % lows ≡ n = mod-eq_of_lt (omega arith) in
      rw same (grind (arith, nat_tests))
  | inr high ↦
      let rest : n ≡ q * lows + (n - q * lows) = omega arith in
      let same : n % lows ≡ n - q * lows = ap (λ (x : ℕ). x % lows) rest ∙ mod-mul-add q lows (n - q * lows) (omega arith) in
      rw same (grind (arith, nat_tests))
]

difference-lt : (values base n : ℕ) → base < values → difference values n base < values
unfolding difference
difference-lt values base n base_in = omega arith

-- a difference, added to its base again
difference_back : (values base n : ℕ) → n < values → base < values → (difference values n base + base) % values ≡ n
unfolding difference
difference_back values base n n_in base_in = grind arith

-- an element that is small or near the base comes back from the low bytes of its delta
pub restored-delta_of : (values half q lows base n : ℕ) → is_near values half base n ≡ true → n < values → base < values → lows ≡ 2 * half → values ≡ q * lows + lows
    → restored values half base (if is_small values half n then 0 else 1) (delta_of values half base n % lows) ≡ n
unfolding is_near delta_of restored
restored-delta_of values half q lows base n near n_in base_in two whole =
    elim (cases_Bool (is_small values half n)) [
      | inl small ↦
          let low = sign_extended-low values half q lows n small n_in two whole in
          let same : n % values ≡ n = mod-eq_of_lt n_in in
          rw (small, low) (ap (λ (x : ℕ). x % values) (omega arith) ∙ same)
      | inr large ↦
          let near' = rw large at near in
          let below : difference values n base < values = difference-lt values base n base_in in
          let low = sign_extended-low values half q lows (difference values n base) near' below two whole in
          rw (large, low) (ap (λ (x : ℕ). x % values) (omega arith) ∙ difference_back values base n n_in base_in)
    ]

-- the bit of an element, as the code writes it
pub large_bit : (small : Bool) → bool_byte (not small) ≡ (if small then 0 else 1)
large_bit true = refl
large_bit false = refl
