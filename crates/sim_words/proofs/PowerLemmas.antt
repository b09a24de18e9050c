-- A number with one digit set is a power of two.
use Rattle.std.proofs.Common.{◌≡◌, ◌≤◌, ◌/◌, ◌%◌, ◌^◌, inl, inr, zero, suc, true, ℕ, arith, eq-zero-or-pos, eqb-true, le_refl, pow-suc}
use Rattle.std.specs.Int.{is_power_of_two}
use Rattle.std.specs.Int.Count.{ones, ones_in}

none_set : (digits n : ℕ) → n ≤ digits → ones_in digits n ≡ 0 → n ≡ 0
unfolding ones_in
none_set zero n below none = omega arith
none_set (suc digits) n below none =
    let rest : n / 2 ≡ 0 = none_set digits (n / 2) (omega arith) (omega (arith, none)) in
    omega (arith, none, rest)

one_set : (digits n : ℕ) → n ≤ digits → ones_in digits n ≡ 1 → (exponent : ℕ) × (n ≡ 2 ^ exponent)
unfolding ones_in
one_set zero n below one = absurd (omega (arith, one))
one_set (suc digits) n below one = elim (eq-zero-or-pos (n % 2)) [
  | inl even ↦
      let half = one_set digits (n / 2) (omega arith) (omega (arith, one, even)) in
      (suc half.0, omega (arith, even, half.1, pow-suc 2 half.0))
  | inr odd ↦
      let rest : n / 2 ≡ 0 = none_set digits (n / 2) (omega arith) (omega (arith, one, odd)) in
      (0, omega (arith, odd, rest))
]

pub power_of_two : (n : ℕ) → is_power_of_two n ≡ true → (exponent : ℕ) × (n ≡ 2 ^ exponent)
unfolding ones
power_of_two n one = one_set n n (le_refl n) (eqb-true _ 1 one)
