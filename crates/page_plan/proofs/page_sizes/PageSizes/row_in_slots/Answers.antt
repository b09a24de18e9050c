use Rattle.std.proofs.Common.{◌≡◌, ◌∙◌, ℕ, Option, Some, List, take, drop, refl, sym, ap}
use Rattle.std.specs.List.{sum_by}
use Rattle.line_codec.specs.Layout.{exceptions_of}
use Rattle.page_plan.specs.KeptSizes.{kept_sizes, sizes_told}
use Rattle.page_plan.specs.Sizes.{bytes_at}
use Rattle.page_plan.proofs.KeptLemmas.{exceptions-front, exceptions-back, told-front, told-back}
use Rattle.page_plan.proofs.page_sizes.PageSizes.row_in_slots.Goals as goal

pub returns-clause-value : goal.returns-clause-value
returns-clause-value c lines whole kept =
    let codec = c.args.codec in
    let at = c.args.at in
    let small = c.args.small in
    let large = c.args.large in
    let sizes : c.self.inside.sizes ≡ kept_sizes codec lines = c.self.view_is ∙ sym kept in
    let front = c.split_at.ensures.front ∙ ap (take at) sizes in
    let back = c.split_at.ensures.back ∙ ap (drop at) sizes in
    rw (
      c.exceptions.ensures.value ∙ ap (λ (xs : List ℕ). exceptions_of (sizes_told (Some 1) xs) small) front ∙ exceptions-front codec lines at small whole c.requires.small_is,
      c.exceptions-2.ensures.value ∙ ap (λ (xs : List ℕ). exceptions_of (sizes_told (Some 1) xs) large) back ∙ exceptions-back codec lines at large whole c.requires.large_is,
      c.encoded.ensures.value ∙ ap (λ (xs : List ℕ). sum_by (bytes_at small) (sizes_told c.stored_size-zero.result xs)) front
          ∙ ap (λ (zero : Option ℕ). sum_by (bytes_at small) (sizes_told zero (take at (kept_sizes codec lines)))) c.stored_size-zero.ensures ∙ ap (sum_by (bytes_at small)) (told-front codec lines at whole),
      c.encoded-2.ensures.value ∙ ap (λ (xs : List ℕ). sum_by (bytes_at large) (sizes_told c.stored_size-zero.result xs)) back
          ∙ ap (λ (zero : Option ℕ). sum_by (bytes_at large) (sizes_told zero (drop at (kept_sizes codec lines)))) c.stored_size-zero.ensures ∙ ap (sum_by (bytes_at large)) (told-back codec lines at whole),
    ) refl
