use Rattle.std.proofs.Common.{◌≡◌, ◌∙◌, ℕ, List, Some, true, false, length, replicate, subst, sym, ap}
use Rattle.std.specs.Str.{bytes_eq}
use Rattle.std.proofs.lemmas.List.{length-map}
use Rattle.std.proofs.lemmas.Slice.Eq.{bytes_eq-Decides}
use Rattle.page_plan.specs.declared.least.PagePlan.TheVariants.{Zero}
use Rattle.page_plan.specs.KeptSizes.{kept_size, kept_sizes, sizes_told}
use Rattle.page_plan.specs.PagePlan.{IsZeroPage, IsLeastBelow}
use Rattle.page_plan.proofs.KeptLemmas.{zero_page-ones, ones-zero_page}
use Rattle.page_plan.proofs.PlanLemmas.{only_plan, least_kept}
use Rattle.page_plan.proofs.page_sizes.PageSizes.plan.Goals as goal

pub returns-then-eq-clause-value : goal.returns-then-eq-clause-value
returns-then-eq-clause-value c codec lines whole kept =
    let ones : c.self.inside.sizes ≡ replicate 64 1 = (bytes_eq-Decides c.self.inside.sizes (replicate 64 1)).0 (sym c.eq.ensures ∙ c.if-eq.true) in
    only_plan codec lines Zero (zero_page-ones codec lines 64 whole (kept ∙ sym c.self.view_is ∙ ones))

pub returns-clause-value : goal.returns-clause-value
returns-clause-value c codec lines whole kept =
    let same : kept_sizes codec lines ≡ c.self.inside.sizes = kept ∙ sym c.self.view_is in
    let many : length lines ≡ 64 = sym (length-map lines (kept_size codec)) ∙ ap length same ∙ c.self.told in
    let nonzero : ¬ IsZeroPage lines = λ zeros.
    let ones : c.self.inside.sizes ≡ replicate 64 1 = sym same ∙ ones-zero_page codec lines zeros ∙ ap (λ (n : ℕ). replicate n 1) many in
    let passed : bytes_eq c.self.inside.sizes (replicate 64 1) ≡ true = (bytes_eq-Decides c.self.inside.sizes (replicate 64 1)).1 ones in
    let both : true ≡ false = sym passed ∙ sym c.eq.ensures ∙ c.if-eq.false in
    cc in
    least_kept codec lines c.least_plan.result whole nonzero
    (subst (λ (bytes : List ℕ). IsLeastBelow 32 (sizes_told (Some 1) bytes) c.least_plan.result) (sym same) c.least_plan.ensures)
