-- Elements of a list that was changed in one place.
use Rattle.std.proofs.Common.{◌≡◌, ◌≢◌, ◌<◌, ◌≤◌, ◌+◌, ◌*◌, ℕ, zero, suc, Some, List, [], ◌∷◌, length, set, map, slice_get, refl, ap, arith}
use Rattle.std.specs.List.{sum_by}
use Rattle.std.proofs.lemmas.List.Sums.{sum_by-cons}
use Rattle.std.proofs.Math.Nat.{mul-suc}

pub get-set_same : {A : Type 0} (xs : List A) (i : ℕ) (x : A) → i < length xs → slice_get (set xs i x) i ≡ Some x
get-set_same [] i x lt = absurd (omega arith)
get-set_same (y ∷ ys) zero x lt = refl
get-set_same (y ∷ ys) (suc i) x lt = get-set_same ys i x (omega arith)

pub get-set_other : {A : Type 0} (xs : List A) (i j : ℕ) (x : A) → j ≢ i → slice_get (set xs i x) j ≡ slice_get xs j
get-set_other [] i j x ne = refl
get-set_other (y ∷ ys) zero zero x ne = absurd (ne refl)
get-set_other (y ∷ ys) zero (suc j) x ne = refl
get-set_other (y ∷ ys) (suc i) zero x ne = refl
get-set_other (y ∷ ys) (suc i) (suc j) x ne = get-set_other ys i j x (λ e. ne (ap suc e))

pub sum_by-map : {A B : Type 0} (f : B → ℕ) (g : A → B) (xs : List A) → sum_by f (map g xs) ≡ sum_by (λ x. f (g x)) xs
sum_by-map f g [] = refl
sum_by-map f g (x ∷ xs) = rw (sum_by-cons f (g x) (map g xs), sum_by-cons (λ x. f (g x)) x xs, sum_by-map f g xs) refl

-- a sum of bounded numbers
pub sum_by-bounded : {A : Type 0} (f : A → ℕ) (most : ℕ) (xs : List A) → ((i : ℕ) (x : A) → slice_get xs i ≡ Some x → f x ≤ most) → sum_by f xs ≤ most * length xs
sum_by-bounded f most [] bounded = omega arith
sum_by-bounded f most (x ∷ xs) bounded =
    let first : f x ≤ most = bounded 0 x refl in
    let rest : sum_by f xs ≤ most * length xs = sum_by-bounded f most xs (λ i y e. bounded (suc i) y e) in
    let size : most * suc (length xs) ≡ most * length xs + most = mul-suc most (length xs) in
    rw (sum_by-cons f x xs, size) (omega arith)

-- and of one place less
pub sum_by-but_one : {A : Type 0} (f : A → ℕ) (most : ℕ) (xs : List A) (i : ℕ) (z : A) → i < length xs → f z ≡ 0
    → ((i : ℕ) (x : A) → slice_get xs i ≡ Some x → f x ≤ most) → sum_by f (set xs i z) + most ≤ most * length xs
sum_by-but_one f most [] i z lt none bounded = absurd (omega arith)
sum_by-but_one f most (x ∷ xs) zero z lt none bounded =
    let rest : sum_by f xs ≤ most * length xs = sum_by-bounded f most xs (λ i y e. bounded (suc i) y e) in
    let size : most * suc (length xs) ≡ most * length xs + most = mul-suc most (length xs) in
    rw (sum_by-cons f z xs, size) (omega arith)
sum_by-but_one f most (x ∷ xs) (suc i) z lt none bounded =
    let first : f x ≤ most = bounded 0 x refl in
    let rest : sum_by f (set xs i z) + most ≤ most * length xs = sum_by-but_one f most xs i z (omega arith) none (λ j y e. bounded (suc j) y e) in
    let size : most * suc (length xs) ≡ most * length xs + most = mul-suc most (length xs) in
    rw (sum_by-cons f x (set xs i z), size) (omega arith)
