-- No bytes at all say no line.
use Rattle.std.proofs.Common.{◌≡◌, ℕ, ◌≤◌, List, [], ◌∷◌, length, Some, None, sym, ap, ◌∙◌, arith}
use Rattle.std.proofs.lemmas.Bool.Decides.{nat_tests}
use Rattle.bdi_codec.specs.Deltas.{deltas_meaning}
use Rattle.bdi_codec.specs.Rows.{meaning}
use Rattle.fpc_codec.specs.declared.codes.Code.{Code}
use Rattle.fpc_codec.specs.Codes as codes
use Rattle.fpc_codec.specs.Line.{Means}
use Rattle.line_codec.specs.declared.payloads.Form.{Form}
use Rattle.line_codec.specs.declared.payloads.Form.TheVariants.{Plain, Deltas, Patterns}
use Rattle.line_codec.specs.Payloads.{SaysLine}

-- a row takes one byte at least
meaning-none : (row mask : ℕ) → meaning row mask [] ≡ None
unfolding meaning deltas_meaning
meaning-none row mask = grind (arith, nat_tests)

-- codes of no bits say no words
codes-none : (cs : List Code) (words : List ℕ) → codes.bit_count cs ≤ 0 → codes.meaning cs ≡ words → length words ≡ 0
unfolding codes.bit_count codes.meaning
codes-none [] words within says = ap length (sym says)
codes-none (c ∷ cs) words within says = absurd (omega arith)

patterns-none : (line : List ℕ) → Means [] line → ⊥
patterns-none line says =
    let none = codes-none says.coded.codes says.words says.coded.within says.coded.says in
    let sixteen = says.sixteen in
    omega arith

none-says : (form : Form) (line : List ℕ) → SaysLine form [] line → ⊥
unfolding SaysLine
none-says Plain line says = let len = ap length says.0 in let whole = says.1 in omega arith
none-says (Deltas row mask) line says = let k : None ≡ Some line = sym (meaning-none row mask) ∙ says in cc
none-says Patterns line says = patterns-none line says

-- a payload that says a line has some byte
pub length_some-says : (form : Form) (payload line : List ℕ) → SaysLine form payload line → 1 ≤ length payload
length_some-says form [] line says = absurd (none-says form line says)
length_some-says form (byte ∷ payload) line says = omega arith
