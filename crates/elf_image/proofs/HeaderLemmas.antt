-- Searches in the list of program headers, header by header.
use Rattle.std.proofs.Common.{◌≡◌, ◌∙◌, ℕ, ◌+◌, ◌-◌, ◌≤◌, ◌==◌, Bool, true, false, cond, [], ◌∷◌, ◌++◌, Some, None, find, filter, ap, arith}
use Rattle.std.specs.Option.{option_or}
use Rattle.std.proofs.lemmas.List.{append-nil}
use Rattle.std.proofs.lemmas.List.Folds.{find-append}
use Rattle.std.proofs.lemmas.List.Elements.{filter-append}
use Rattle.hier_types.specs.Tabulate.{tabulate}
use Rattle.hier_types.proofs.TableLemmas.{tabulate-add, tabulate-more}
use Rattle.elf_image.specs.declared.headers.Header.{Header}

find-more : {A : Type 0} (test : A → Bool) (f : ℕ → A) (n : ℕ) → find test (tabulate f (n + 1)) ≡ option_or (find test (tabulate f n)) (cond (test (f n)) (Some (f n)) None)
find-more test f n = ap (find test) (tabulate-more f n) ∙ find-append test (tabulate f n) (f n ∷ [])

-- one that is not it is passed over
pub find-skips : {A : Type 0} (test : A → Bool) (f : ℕ → A) (n : ℕ) → find test (tabulate f n) ≡ None → test (f n) ≡ false → find test (tabulate f (n + 1)) ≡ None
find-skips test f n none other = find-more test f n ∙ ap (λ found. option_or found (cond (test (f n)) (Some (f n)) None)) none ∙ ap (λ b. cond b (Some (f n)) None) other

-- what is found stays found in a longer table
pub find-ends : {A : Type 0} (test : A → Bool) (f : ℕ → A) (n m : ℕ) → find test (tabulate f n) ≡ None → test (f n) ≡ true → n + 1 ≤ m → find test (tabulate f m) ≡ Some (f n)
find-ends test f n m none this inside =
    let here : find test (tabulate f (n + 1)) ≡ Some (f n) =
    find-more test f n ∙ ap (λ found. option_or found (cond (test (f n)) (Some (f n)) None)) none ∙ ap (λ b. cond b (Some (f n)) None) this in
    let rest = tabulate (λ i. f (n + 1 + i)) (m - (n + 1)) in
    let parts : m ≡ n + 1 + (m - (n + 1)) = omega arith in
    ap (λ k. find test (tabulate f k)) parts ∙ ap (find test) (tabulate-add f (n + 1) (m - (n + 1))) ∙ find-append test (tabulate f (n + 1)) rest
    ∙ ap (λ found. option_or found (find test rest)) here

filter-more : {A : Type 0} (test : A → Bool) (f : ℕ → A) (n : ℕ) → filter test (tabulate f (n + 1)) ≡ filter test (tabulate f n) ++ cond (test (f n)) (f n ∷ []) []
filter-more test f n = ap (filter test) (tabulate-more f n) ∙ filter-append test (tabulate f n) (f n ∷ [])

pub filter-takes : {A : Type 0} (test : A → Bool) (f : ℕ → A) (n : ℕ) → test (f n) ≡ true → filter test (tabulate f (n + 1)) ≡ filter test (tabulate f n) ++ f n ∷ []
filter-takes test f n this = filter-more test f n ∙ ap (λ b. filter test (tabulate f n) ++ cond b (f n ∷ []) []) this

pub filter-skips : {A : Type 0} (test : A → Bool) (f : ℕ → A) (n : ℕ) → test (f n) ≡ false → filter test (tabulate f (n + 1)) ≡ filter test (tabulate f n)
filter-skips test f n other = filter-more test f n ∙ ap (λ b. filter test (tabulate f n) ++ cond b (f n ∷ []) []) other ∙ append-nil (filter test (tabulate f n))

-- a header that was read is of the kind
pub kind-is : (read header : Header) (kind : ℕ) → read ≡ header → read.kind ≡ kind → (header.kind == kind) ≡ true
kind-is read header kind same is = let e = ap (λ (h : Header). h.kind) same in grind arith

-- it is of another
pub kind-other : (read header : Header) (kind : ℕ) → read ≡ header → (read.kind ≡ kind → ⊥) → (header.kind == kind) ≡ false
kind-other read header kind same other = let e = ap (λ (h : Header). h.kind) same in grind arith
