-- Where a run ends before a beat: at a test of a count.
use Rattle.std.proofs.Common.{◌≡◌, ◌<◌, ◌≤◌, ℕ, Bool, true, false, cond, nat_lt, Option, Some, None, refl, sym, arith}
use Rattle.std.proofs.lemmas.Grind.{common_steps}

pub is_below : (a b : ℕ) → nat_lt a b ≡ true → a < b
is_below a b e = grind (arith, common_steps)

pub is_past : (a b : ℕ) → nat_lt a b ≡ false → b ≤ a
is_past a b e = grind (arith, common_steps)

some_same : {A : Type 0} (x y : A) → Some x ≡ Some y → x ≡ y
some_same x y e = cc

free_at : {A : Type 0} (test : Bool) (x : A) → cond {A = Option A} test None (Some x) ≡ None → test ≡ true
free_at true x e = refl
free_at false x e = absurd (let no = e in cc)

used_at : {A : Type 0} (test : Bool) (x y : A) → cond {A = Option A} test None (Some x) ≡ Some y → (y ≡ x) × (test ≡ false)
used_at true x y e = absurd (let no = e in cc)
used_at false x y e = (sym (some_same x y e), refl)

-- no end: the count is below
pub free_lt : {A : Type 0} (count budget : ℕ) (x : A) → cond {A = Option A} (nat_lt count budget) None (Some x) ≡ None → count < budget
free_lt count budget x e = is_below count budget (free_at (nat_lt count budget) x e)

-- an end: it is this one, and the count is not below
pub used_le : {A : Type 0} (count budget : ℕ) (x y : A) → cond {A = Option A} (nat_lt count budget) None (Some x) ≡ Some y → (y ≡ x) × (budget ≤ count)
used_le count budget x y e = let so = used_at (nat_lt count budget) x y e in (so.0, is_past count budget so.1)
