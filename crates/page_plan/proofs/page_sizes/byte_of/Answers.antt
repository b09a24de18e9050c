use Rattle.std.proofs.Common.{◌≡◌, ◌∙◌, true, false, refl, sym, ap}
use Rattle.std.specs.Prelude.{unwrap_or}
use Rattle.std.specs.Str.{bytes_eq}
use Rattle.hier_types.specs.Lines.{zero_line}
use Rattle.page_plan.specs.KeptSizes.{kept_size}
use Rattle.page_plan.proofs.page_sizes.byte_of.Goals as goal

pub returns-then-eq-clause-value : goal.returns-then-eq-clause-value
unfolding kept_size
returns-then-eq-clause-value c =
    let same : bytes_eq c.args.line.now zero_line ≡ true = sym c.eq.ensures ∙ c.if-eq.true in
    rw same refl

pub returns-clause-value : goal.returns-clause-value
unfolding kept_size
returns-clause-value c =
    let other : bytes_eq c.args.line.now zero_line ≡ false = sym c.eq.ensures ∙ c.if-eq.false in
    rw other (c.unwrap_or.ensures ∙ ap (λ size. unwrap_or size 0) c.stored_size.ensures)
