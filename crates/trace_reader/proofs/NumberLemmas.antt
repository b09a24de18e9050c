-- Numbers of at most eight hexadecimal digits.
use Rattle.std.proofs.Common.{◌≡◌, ℕ, ◌+◌, ◌*◌, ◌^◌, ◌<◌, ◌≤◌, add-one, arith}
use Rattle.std.proofs.Math.Nat.{pow-le-pow_right, pow-suc}

-- a further digit fits 32 bits
pub digit-fits : (i value digit : ℕ) → i < 8 → value < 16 ^ i → digit < 16 → value * 16 + digit < 4294967296
digit-fits i value digit few below small =
    let within : i ≤ 7 = omega arith in
    let power : 16 ^ i ≤ 16 ^ 7 = pow-le-pow_right {n = 16} (omega arith) {i = i} {j = 7} within in
    let bound : 16 ^ i ≤ 268435456 = power in
    omega arith

-- and the number stays below the power
pub digit-below : (i value digit : ℕ) → value < 16 ^ i → digit < 16 → value * 16 + digit < 16 ^ (i + 1)
digit-below i value digit below small =
    let power : 16 ^ (i + 1) ≡ 16 ^ i * 16 = rw add-one (pow-suc 16 i) in
    omega arith
