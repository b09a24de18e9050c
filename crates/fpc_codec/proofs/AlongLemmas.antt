-- A row of bits that is read code by code.
use Rattle.std.proofs.Common.{◌≡◌, ℕ, ◌+◌, ◌<◌, List, [], ◌++◌, length, sym, ap, ◌∙◌, subst, Some, None, ◌↔◌, arith, refl}
use Rattle.std.proofs.lemmas.List.{append_assoc, append-nil, length-append, nil_from_length}
use Rattle.fpc_codec.specs.declared.codes.Code.{Code}
use Rattle.fpc_codec.specs.Codes.{IsCode, words_of_code, code_bits, code_row}
use Rattle.fpc_codec.specs.Line.{BeginsWithCodes}
use Rattle.fpc_codec.proofs.FrontLemmas.{begins_none, begins_more, begins_rest}

-- of `bits` bits `whole` a front was codes for the words `done`, and `count` bits `row` are left
pub record Along (whole bits row count : ℕ) (done : List ℕ) : Type 0 where
  pub back : (rest : List ℕ) → BeginsWithCodes row count rest → BeginsWithCodes whole bits (done ++ rest)
  pub forth : (words : List ℕ) → length words ≡ 16 → BeginsWithCodes whole bits words
      → (rest : List ℕ) × (words ≡ done ++ rest) × BeginsWithCodes row count rest

pub along_start : (whole bits : ℕ) → Along whole bits whole bits []
along_start whole bits = record { back = λ rest b. b; forth = λ words len b. (words, refl, b) }

pub along_step : (whole bits row count : ℕ) (done : List ℕ) (c : Code) (rest left : ℕ) → Along whole bits row count done → length done < 16
    → IsCode c → row ≡ code_row c rest → left + code_bits c ≡ count → Along whole bits rest left (done ++ words_of_code c)
along_step whole bits row count done c rest left along room code cut bits_is = record {
  back = λ ws b. rw append_assoc (along.back (words_of_code c ++ ws) (begins_more c row count rest left ws code cut bits_is b));
  forth = λ words len b.
      let f = along.forth words len b in
      let some : 0 < length f.0 = omega (arith, ap length f.1, length-append done f.0) in
      let g = begins_rest c row count rest left f.0 code cut bits_is some f.2 in
      (g.0, f.1 ∙ ap (λ (ws : List ℕ). done ++ ws) g.1 ∙ sym (append_assoc done (words_of_code c) g.0), g.2);
}

-- there are no words where no code can be read
pub along_none : (whole bits row count : ℕ) (done : List ℕ) → Along whole bits row count done → length done < 16
    → ((words : List ℕ) → 0 < length words → BeginsWithCodes row count words → ⊥)
    → (words : List ℕ) → length words ≡ 16 → BeginsWithCodes whole bits words → ⊥
along_none whole bits row count done along room none words len b =
    let f = along.forth words len b in
    let some : 0 < length f.0 = omega (arith, ap length f.1, length-append done f.0) in
    none f.0 some f.2

-- nor where the words of the code are too many
pub along_over : (whole bits row count : ℕ) (done : List ℕ) (c : Code) (rest left : ℕ) → Along whole bits row count done → length done < 16
    → IsCode c → row ≡ code_row c rest → left + code_bits c ≡ count → 16 < length done + length (words_of_code c)
    → (words : List ℕ) → length words ≡ 16 → BeginsWithCodes whole bits words → ⊥
along_over whole bits row count done c rest left along room code cut bits_is over words len b =
    let f = along.forth words len b in
    let some : 0 < length f.0 = omega (arith, ap length f.1, length-append done f.0) in
    let g = begins_rest c row count rest left f.0 code cut bits_is some f.2 in
    omega (arith, ap length f.1, length-append done f.0, ap length g.1, length-append (words_of_code c) g.0)

pub along_full : (whole bits row count : ℕ) (done : List ℕ) → Along whole bits row count done → length done ≡ 16
    → (words : List ℕ) → length words ≡ 16 → (Some done ≡ Some words) ↔ BeginsWithCodes whole bits words
along_full whole bits row count done along full words len = (
  λ e. let same : done ≡ words = cc in subst (λ (ws : List ℕ). BeginsWithCodes whole bits ws) (append-nil done ∙ same) (along.back [] (begins_none row count)),
  λ b.
      let f = along.forth words len b in
      let none : f.0 ≡ [] = nil_from_length f.0 (omega (arith, ap length f.1, length-append done f.0)) in
      ap (λ (ws : List ℕ). Some ws) (sym (f.1 ∙ ap (λ (ws : List ℕ). done ++ ws) none ∙ append-nil done)),
)

-- an answer of `None`
pub none_iff : {A B : Type 0} (x : A) → (B → ⊥) → (None ≡ Some x) ↔ B
none_iff x never = (λ e. cc, λ b. absurd (never b))
