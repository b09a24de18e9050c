-- What the tests on texts say.
use Rattle.std.proofs.Common.{◌≡◌, ◌||◌, Bool, true, false, refl, sym, subst, true≢false, List, [], ◌∷◌, bytes_eq}
use Rattle.std.specs.List.{AllByRecursion, list_any}
use Rattle.std.proofs.lemmas.Slice.Eq.{bytes_eq-Decides}
use Rattle.clap.specs.Words.{Text}

pub same : (text : Text) → bytes_eq text text ≡ true
same text = (bytes_eq-Decides text text).1 refl

pub is_same : (a b : Text) → bytes_eq a b ≡ true → a ≡ b
is_same a b e = (bytes_eq-Decides a b).0 e

-- what holds of each of some names holds of a name that is among them
pub among : (P : Text → Type 0) (names : List Text) → AllByRecursion P names → (name : Text) → list_any (bytes_eq name) names ≡ true → P name
among P [] all name e = absurd (true≢false (sym e))
among P (first ∷ rest) all name e = go (bytes_eq name first) refl (among P rest all.1 name)
  where
    go : (b : Bool) → bytes_eq name first ≡ b → (list_any (bytes_eq name) rest ≡ true → P name) → P name
    go true hit next = subst P (sym (is_same name first hit)) all.0
    go false miss next = next (rw miss at e)

pub neither : (a b : Bool) → (a || b) ≡ false → (a ≡ false) × (b ≡ false)
neither true b e = absurd (true≢false e)
neither false b e = (refl, e)
