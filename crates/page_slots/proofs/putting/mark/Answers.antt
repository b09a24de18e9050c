use Rattle.std.proofs.Common.{◌≡◌, ◌∙◌, true, false, refl, sym}
use Rattle.std.specs.Str.{bytes_eq}
use Rattle.hier_types.specs.Lines.{zero_line}
use Rattle.page_slots.specs.Lines.{mark}
use Rattle.page_slots.proofs.putting.mark.Goals as goal

pub returns-then-eq-clause-value : goal.returns-then-eq-clause-value
unfolding mark
returns-then-eq-clause-value c =
    let same : bytes_eq c.args.line.now zero_line ≡ true = sym c.eq.ensures ∙ c.if-eq.true in
    rw same refl

pub returns-else-eq-clause-value : goal.returns-else-eq-clause-value
unfolding mark
returns-else-eq-clause-value c =
    let other : bytes_eq c.args.line.now zero_line ≡ false = sym c.eq.ensures ∙ c.if-eq.false in
    rw other refl
