-- The pages of an image, one after another.
use Rattle.std.proofs.Common.{◌≡◌, ◌∙◌, ◌<◌, ◌+◌, ◌-◌, ℕ, List, [], ◌∷◌, ◌++◌, Option, ap, sym, subst, arith}
use Rattle.std.proofs.KnownBytes.{Appends-trans}
use Rattle.std.proofs.lemmas.Grind.{flat_map-append}
use Rattle.std.proofs.lemmas.List.{append-nil}
use Rattle.std.specs.Io.KnownBytes.{Appends}
use Rattle.hier_types.specs.Lines.{flatten}
use Rattle.hier_types.specs.Outside.{AppendsFront}
use Rattle.hier_types.specs.Tabulate.{tabulate}
use Rattle.hier_types.proofs.TableLemmas.{tabulate-add, tabulate-more}
use Rattle.run_report.proofs.FrontLemmas.{front_of_both, front_of_first}

flatten-append : (lines more : List (List ℕ)) → flatten (lines ++ more) ≡ flatten lines ++ flatten more
flatten-append lines more = flat_map-append (λ line. line) lines more

flatten_one : (f : ℕ → List ℕ) (n : ℕ) → flatten (tabulate f (n + 1)) ≡ flatten (tabulate f n) ++ f n
flatten_one f n = ap flatten (tabulate-more f n) ∙ flatten-append (tabulate f n) (f n ∷ []) ∙ ap (λ l. flatten (tabulate f n) ++ l) (append-nil (f n))

-- one text more
pub text_more : (before mid after : Option (List ℕ)) (f : ℕ → List ℕ) (n : ℕ) → Appends before mid (flatten (tabulate f n)) → Appends mid after (f n) → Appends before after (flatten (tabulate f (n + 1)))
text_more before mid after f n whole one =
    subst (λ bytes. Appends before after bytes) (sym (flatten_one f n)) (Appends-trans before mid after (flatten (tabulate f n)) (f n) whole one)

-- the texts before one and a front of it are a front of all
pub text_front : (before mid after : Option (List ℕ)) (f : ℕ → List ℕ) (n count : ℕ) → n < count → Appends before mid (flatten (tabulate f n)) → AppendsFront mid after (f n) → AppendsFront before after (flatten (tabulate f count))
text_front before mid after f n count lt whole front =
    let rest = tabulate (λ k. f (n + 1 + k)) (count - (n + 1)) in
    let size : n + 1 + (count - (n + 1)) ≡ count = omega arith in
    let all : flatten (tabulate f count) ≡ (flatten (tabulate f n) ++ f n) ++ flatten rest =
    ap (λ m. flatten (tabulate f m)) (sym size) ∙ ap flatten (tabulate-add f (n + 1) (count - (n + 1))) ∙ flatten-append (tabulate f (n + 1)) rest ∙ ap (λ l. l ++ flatten rest) (flatten_one f n) in
    subst (λ bytes. AppendsFront before after bytes) (sym all)
    (front_of_first before after (flatten (tabulate f n) ++ f n) (flatten rest) (front_of_both before mid after (flatten (tabulate f n)) (f n) whole front))
