-- Lemmas on the numbers of a packed page.
use Rattle.std.proofs.Common.{ℕ, Option, Some, None, false, nat_le, ◌≤◌, ◌≡◌, ◌+◌, ◌*◌, ◌<◌, zero, suc, List, get_or, length, refl, arith}
use Rattle.std.proofs.Math.Bool.{not}
use Rattle.std.specs.Option.{option_map_or}
use Rattle.std.proofs.lemmas.Bool.Decides.{nat_tests}
use Rattle.std.proofs.lemmas.List.Sums.{count_by-le-length}
use Rattle.hier_types.specs.declared.settings.Codec.{Codec}
use Rattle.line_codec.specs.Slots.{stored, fits}
use Rattle.line_codec.specs.Layout.{is_exception, exceptions_of, slot_at, targets}

-- the targets by number, from 0
pub target_at : (i : ℕ) → i < 7 → get_or targets i 0 ≡ 4 * i + 4
target_at zero h = refl
target_at (suc zero) h = refl
target_at (suc (suc zero)) h = refl
target_at (suc (suc (suc zero))) h = refl
target_at (suc (suc (suc (suc zero)))) h = refl
target_at (suc (suc (suc (suc (suc zero))))) h = refl
target_at (suc (suc (suc (suc (suc (suc zero)))))) h = refl
target_at (suc (suc (suc (suc (suc (suc (suc i))))))) h = absurd (omega arith)

-- not more exceptions than lines
pub exceptions_of-le : (sizes : List (Option ℕ)) (t : ℕ) → exceptions_of sizes t ≤ length sizes
unfolding exceptions_of
exceptions_of-le sizes t = count_by-le-length (λ size. is_exception t size) sizes

-- the slots of a page and the metadata before them take as many whole chunks as `chunks_of` counts for them
pub slot_at-end : (t : ℕ) → slot_at t 64 ≡ 64 * (1 + t)
slot_at-end t = omega arith

-- a line is an exception exactly where its slot does not hold it
pub is_exception-fits : (codec : Codec) (line : List ℕ) (t : ℕ) → is_exception t (stored codec line) ≡ not (fits codec t line)
is_exception-fits codec line t = of_size (stored codec line)
  where
    of_size : (size : Option ℕ) → is_exception t size ≡ not (option_map_or (λ bytes. nat_le bytes t) size false)
    of_size None = refl
    of_size (Some bytes) = grind (arith, nat_tests)
