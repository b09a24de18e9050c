-- Fronts of a text whose lines are written one by one.
use Rattle.std.proofs.Common.{◌≡◌, ℕ, suc, ◌+◌, ◌<◌, min, List, ◌∷◌, ◌++◌, length, map, take, drop, get_or, Option, sym, ap, subst, ◌∙◌, drop-cons, arith}
use Rattle.std.proofs.lemmas.Grind.{flat_map-append}
use Rattle.std.proofs.lemmas.List.{map-append, take-append-drop, take-append-le, take_min}
use Rattle.std.proofs.Math.Seq.{take-append-add}
use Rattle.std.proofs.KnownBytes.{Appends-trans}
use Rattle.std.specs.Io.KnownBytes.{Appends}
use Rattle.hier_types.specs.Lines.{flatten}
use Rattle.hier_types.specs.Outside.{AppendsFront}

-- a front of the first text is one of both
pub front_of_first : (before after : Option (List ℕ)) (first second : List ℕ) → AppendsFront before after first → AppendsFront before after (first ++ second)
front_of_first before after first second front =
    let count = min front.0 (length first) in
    let same : take count (first ++ second) ≡ take front.0 first = take-append-le count first second (omega arith) ∙ take_min front.0 first in
    (count, subst (λ bytes. Appends before after bytes) (sym same) front.1)

-- the first text and a front of the second are a front of both
pub front_of_both : (before mid after : Option (List ℕ)) (first second : List ℕ) → Appends before mid first → AppendsFront mid after second → AppendsFront before after (first ++ second)
front_of_both before mid after first second whole front =
    (length first + front.0, subst (λ bytes. Appends before after bytes) (sym (take-append-add first second front.0)) (Appends-trans before mid after first (take front.0 second) whole front.1))

flatten-append : (lines more : List (List ℕ)) → flatten (lines ++ more) ≡ flatten lines ++ flatten more
flatten-append lines more = flat_map-append (λ line. line) lines more

-- a front of the first lines is one of all
pub front_of_lines : (before after : Option (List ℕ)) (lines more : List (List ℕ)) → AppendsFront before after (flatten lines) → AppendsFront before after (flatten (lines ++ more))
front_of_lines before after lines more front = rw (flatten-append lines more) (front_of_first before after (flatten lines) (flatten more) front)

-- the first lines and a front of the others are a front of all
pub front_of_more : (before mid after : Option (List ℕ)) (lines more : List (List ℕ)) → Appends before mid (flatten lines) → AppendsFront mid after (flatten more) → AppendsFront before after (flatten (lines ++ more))
front_of_more before mid after lines more whole front = rw (flatten-append lines more) (front_of_both before mid after (flatten lines) (flatten more) whole front)

-- the lines before one and a front of it are a front of all
pub front_at : {X : Type 0} (text : X → List ℕ) (before mid after : Option (List ℕ)) (xs : List X) (i : ℕ) (x : X) → i < length xs → x ≡ get_or xs i x
    → Appends before mid (flatten (map text (take i xs))) → AppendsFront mid after (text x) → AppendsFront before after (flatten (map text xs))
front_at text before mid after xs i x within is whole front =
    let rest = drop (suc i) xs in
    let here : AppendsFront mid after (flatten (map text (x ∷ rest))) = front_of_first mid after (text x) (flatten (map text rest)) front in
    let all = front_of_more before mid after (map text (take i xs)) (map text (x ∷ rest)) whole here in
    let split : take i xs ++ x ∷ rest ≡ xs = ap (λ y. take i xs ++ y ∷ rest) is ∙ rw (← drop-cons xs i x within) (take-append-drop i xs) in
    subst (λ lines. AppendsFront before after (flatten lines)) (sym (map-append text (take i xs) (x ∷ rest)) ∙ ap (map text) split) all
