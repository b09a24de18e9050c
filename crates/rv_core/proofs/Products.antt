-- The product of two registers that are read as signed, in 64 bits.
use Rattle.std.proofs.Common.{◌≡◌, ◌∙◌, ◌≤◌, ◌*ℤ◌, ℕ, ℤ, pos, negsuc, Fits, FitsSigned, w32, w64, ap, arith, lit<}
use Rattle.std.specs.Prelude.{unsigned_abs}
use Rattle.std.specs.Int.{cast_signed, cast_unsigned}
use Rattle.std.proofs.Math.Facts.{of_z-to_z, to_z-of_z, sfits_to_z, sfits_widen}
use Rattle.std.proofs.lemmas.Int.{fits_signed_mul}

abs_signed : (z : ℤ) → FitsSigned w32 z → unsigned_abs z ≤ 2147483648
abs_signed (pos n) fits = omega (arith, fits.sfits)
abs_signed (negsuc n) fits = omega (arith, fits.sfits)

-- a register read as signed, through a cast back and forth
widened : (a : ℕ) (x y : ℤ) → Fits w32 a → x ≡ cast_signed w32 a → y ≡ cast_signed w32 (cast_unsigned w32 x) → y ≡ cast_signed w32 a
widened a x y fits is back = rw (back, is) (ap (cast_signed w32) (of_z-to_z fits))

-- the product does not leave 64 bits
pub signed_product : (a b : ℕ) (x y u v : ℤ) → Fits w32 a → Fits w32 b → x ≡ cast_signed w32 a → y ≡ cast_signed w32 b → u ≡ cast_signed w32 (cast_unsigned w32 x) → v ≡ cast_signed w32 (cast_unsigned w32 y)
    → cast_signed w64 (cast_unsigned w64 (cast_signed w64 (cast_unsigned w64 u) *ℤ cast_signed w64 (cast_unsigned w64 v))) ≡ cast_signed w32 a *ℤ cast_signed w32 b
signed_product a b x y u v fa fb ex ey eu ev =
    let sa = cast_signed w32 a in
    let sb = cast_signed w32 b in
    let ua : FitsSigned w32 sa = sfits_to_z fa in
    let ub : FitsSigned w32 sb = sfits_to_z fb in
    let wa : cast_signed w64 (cast_unsigned w64 sa) ≡ sa = to_z-of_z {w = w64} (sfits_widen (tt {0}) ua) in
    let wb : cast_signed w64 (cast_unsigned w64 sb) ≡ sb = to_z-of_z {w = w64} (sfits_widen (tt {0}) ub) in
    let fits : FitsSigned w64 (sa *ℤ sb) = fits_signed_mul w64 sa sb 2147483648 2147483648 (abs_signed sa ua) (abs_signed sb ub) (lit< tt) in
    ap (λ (z : ℤ). cast_signed w64 (cast_unsigned w64 (cast_signed w64 (cast_unsigned w64 z) *ℤ cast_signed w64 (cast_unsigned w64 v)))) (widened a x u fa ex eu)
    ∙ ap (λ (z : ℤ). cast_signed w64 (cast_unsigned w64 (cast_signed w64 (cast_unsigned w64 sa) *ℤ cast_signed w64 (cast_unsigned w64 z)))) (widened b y v fb ey ev)
    ∙ ap (λ (z : ℤ). cast_signed w64 (cast_unsigned w64 (z *ℤ cast_signed w64 (cast_unsigned w64 sb)))) wa
    ∙ ap (λ (z : ℤ). cast_signed w64 (cast_unsigned w64 (sa *ℤ z))) wb
    ∙ to_z-of_z {w = w64} fits
