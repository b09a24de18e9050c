-- A list that is made element by element.
use Rattle.std.proofs.Common.{ℕ, ◌≡◌, ◌+◌, ◌<◌, List, [], ◌∷◌, ◌++◌, take, get_or, length, map, ap, sym, ◌∙◌}
use Rattle.std.proofs.Math.ListN.{set}
use Rattle.std.proofs.lemmas.List.{take_more, take_more_set, map-append}

-- one more element of a list that becomes the image of another
pub take-set-map : {X Y : Type 0} (f : X → Y) (xs : List X) (ys : List Y) (i : ℕ) (d : X) (y : Y) → i < length xs → i < length ys → take i ys ≡ map f (take i xs) → y ≡ f (get_or xs i d) → take (i + 1) (set ys i y) ≡ map f (take (i + 1) xs)
take-set-map f xs ys i d y in_xs in_ys before here =
    take_more_set ys i y in_ys ∙ ap (λ front. front ++ y ∷ []) before ∙ ap (λ last. map f (take i xs) ++ last ∷ []) here
    ∙ sym (map-append f (take i xs) (get_or xs i d ∷ [])) ∙ ap (λ front. map f front) (sym (take_more xs i d in_xs))
