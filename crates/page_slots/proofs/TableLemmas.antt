-- Tables, element by element.
use Rattle.std.proofs.Common.{◌≡◌, ◌≢◌, ℕ, ◌<◌, Some, inl, inr, get_or, slice_get, sym, ◌∙◌, ap, arith}
use Rattle.std.specs.Prelude.{slice_set}
use Rattle.std.proofs.lemmas.Bool.{cases_eq}
use Rattle.std.proofs.lemmas.List.{length-set, get_or-set_other, get_or-set_same}
use Rattle.std.proofs.lemmas.Option.{slice_get-get_or, get_or_from_slice_get}
use Rattle.hier_types.specs.Tabulate.{tabulate}
use Rattle.hier_types.proofs.TableLemmas.{length-tabulate, get_or-tabulate, tabulate-by_index}

-- an element of a table is in its place
pub tabulate-has : {A : Type 0} (f : ℕ → A) (n k : ℕ) (x : A) → k < n → x ≡ f k → slice_get (tabulate f n) k ≡ Some x
tabulate-has f n k x lt e =
    slice_get-get_or (tabulate f n) k x (omega (arith, length-tabulate f n)) ∙ ap Some (get_or-tabulate x f n k lt ∙ sym e)

-- what is in a place of a table
pub tabulate-is : {A : Type 0} (f : ℕ → A) (n k : ℕ) (x : A) → k < n → slice_get (tabulate f n) k ≡ Some x → x ≡ f k
tabulate-is f n k x lt e = sym (get_or_from_slice_get (tabulate f n) k x x e) ∙ get_or-tabulate x f n k lt

-- a list in which one element of a table is another
elements-set : {A : Type 0} (d : A) (f g : ℕ → A) (n k : ℕ) (x : A) → k < n → g k ≡ x → ((i : ℕ) → i < n → i ≢ k → g i ≡ f i)
    → (i : ℕ) → i < n → get_or (slice_set (tabulate f n) k x) i d ≡ g i
elements-set d f g n k x lt here others i i_in = elim (cases_eq i k) [
  | inl e ↦ rw e (get_or-set_same (tabulate f n) k x d (omega (arith, length-tabulate f n)) ∙ sym here)
  | inr ne ↦ get_or-set_other (tabulate f n) k i x d ne ∙ get_or-tabulate d f n i i_in ∙ sym (others i i_in ne)
]

-- a table that differs from another in one element
pub tabulate-set : {A : Type 0} (d : A) (f g : ℕ → A) (n k : ℕ) (x : A) → k < n → g k ≡ x → ((i : ℕ) → i < n → i ≢ k → g i ≡ f i)
    → tabulate g n ≡ slice_set (tabulate f n) k x
tabulate-set d f g n k x lt here others =
    sym (tabulate-by_index d g n (slice_set (tabulate f n) k x) (length-set (tabulate f n) k x ∙ length-tabulate f n)
    (elements-set d f g n k x lt here others))
