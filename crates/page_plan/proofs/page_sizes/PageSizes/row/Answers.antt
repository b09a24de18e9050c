use Rattle.std.proofs.Common.{◌≡◌, ◌∙◌, ℕ, Option, refl, sym, ap}
use Rattle.hier_types.specs.Lines.{zero_line}
use Rattle.line_codec.specs.Layout.{stored_sizes}
use Rattle.line_codec.specs.Slots.{stored}
use Rattle.page_plan.specs.KeptSizes.{sizes_told}
use Rattle.page_plan.proofs.KeptLemmas.{sizes_told-stored}
use Rattle.page_plan.proofs.page_sizes.PageSizes.row.Goals as goal

pub returns-in-Packed-clause-value : goal.returns-in-Packed-clause-value
returns-in-Packed-clause-value c lines whole kept =
    let codec = c.args.codec in
    let told : sizes_told c.stored_size.result c.self.inside.sizes ≡ stored_sizes codec lines =
    ap (λ (zero : Option ℕ). sizes_told zero c.self.inside.sizes) c.stored_size.ensures ∙ ap (sizes_told (stored codec zero_line)) (c.self.view_is ∙ sym kept)
    ∙ sizes_told-stored codec lines whole in
    rw (c.in-Packed.is, c.encoded.ensures.value, told) refl
