use Rattle.std.proofs.Common.{◌∙◌, ℕ, List, Some, sym, ap}
use Rattle.line_codec.specs.Layout.{exceptions_of}
use Rattle.page_plan.specs.KeptSizes.{sizes_told}
use Rattle.page_plan.proofs.KeptLemmas.{exceptions_of-kept}
use Rattle.page_plan.proofs.page_sizes.PageSizes.exceptions.Goals as goal

pub returns-clause-value : goal.returns-clause-value
returns-clause-value c codec lines whole kept =
    c.exceptions.ensures.value ∙ ap (λ (sizes : List ℕ). exceptions_of (sizes_told (Some 1) sizes) c.args.target) (c.self.view_is ∙ sym kept)
    ∙ exceptions_of-kept codec lines c.args.target whole c.requires
