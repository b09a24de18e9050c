-- What the rules of numbers say of texts that std reads.
use Rattle.std.proofs.Common.{◌≡◌, ◌≢◌, ◌∙◌, ◌&&◌, ◌<◌, ◌≤◌, ◌^◌, Bool, true, false, refl, sym, ap, subst, arith, List, [], ◌∷◌, ℕ, Option, Some, None, length, true≢false, nat_le, nat_lt, leb-true, le-leb, lt-ltb, ltb-true}
use Rattle.std.specs.Char.{is_ascii_digit}
use Rattle.std.specs.List.{list_all}
use Rattle.std.specs.Str.{all_ascii_digits}
use Rattle.std.specs.Str.Parse.{IsNumeral, digits_value, without_leading_plus}
use Rattle.std.proofs.lemmas.Str.Parse.{numerals_by_value, tells_all_ascii_digits, without_leading_plus_none}
use Rattle.clap.specs.Words.{Text}
use Rattle.sim_words.specs.Values.{is_number, within}

both : (a b : Bool) → (a && b) ≡ true → (a ≡ true) × (b ≡ true)
both true b e = (refl, e)
both false b e = absurd (true≢false (sym e))

ascii : (text : Text) → list_all is_ascii_digit text ≡ true → all_ascii_digits text ≡ true
ascii [] e = refl
ascii (c ∷ cs) e =
    let parts = both (is_ascii_digit c) (list_all is_ascii_digit cs) e in
    rw (parts.0, ascii cs parts.1) refl

no_plus : (text : Text) → list_all is_ascii_digit text ≡ true → without_leading_plus text ≡ text
no_plus [] e = refl
no_plus (c ∷ cs) e =
    let parts = both (is_ascii_digit c) (list_all is_ascii_digit cs) e in
    without_leading_plus_none (c ∷ cs) (λ is. true≢false (sym parts.0 ∙ ap is_ascii_digit is))

digits : (text : Text) → is_number text ≡ true → list_all is_ascii_digit text ≡ true
digits text e = (both _ _ (both (nat_le 1 (length text)) _ e).1).1

-- the number that std reads is the one that the digits write
pub number_read : (text : Text) (number : ℕ) → is_number text ≡ true → number ≡ digits_value 10 (without_leading_plus text) → number ≡ digits_value 10 text
number_read text number e is = is ∙ ap (digits_value 10) (no_plus text (digits text e))

-- what std does not read is beyond 64 bits
pub number_beyond : (text : Text) (low high : ℕ) → is_number text ≡ true → high < 2 ^ 64
    → (IsNumeral 10 (without_leading_plus text) × (digits_value 10 (without_leading_plus text) < 2 ^ 64) → ⊥) → within low high (digits_value 10 text) ≡ None
number_beyond text low high e fits refused = go (nat_le low (digits_value 10 text)) (nat_le (digits_value 10 text) high) refl
  where
    go : (a b : Bool) → nat_le (digits_value 10 text) high ≡ b → Rattle.std.proofs.Common.cond (a && b) (Some (digits_value 10 text)) None ≡ None
    go false b e2 = refl
    go true false e2 = refl
    go true true below =
        let all = digits text e in
        let some : 0 < length text = omega (arith, leb-true 1 (length text) (both (nat_le 1 (length text)) _ e).0) in
        let numeral : IsNumeral 10 text = (some, (numerals_by_value _ tells_all_ascii_digits).to text (ascii text all)) in
        absurd (refused (subst (λ (t : Text). IsNumeral 10 t × (digits_value 10 t < 2 ^ 64)) (sym (no_plus text all)) (numeral, omega (arith, fits, leb-true (digits_value 10 text) high below))))
