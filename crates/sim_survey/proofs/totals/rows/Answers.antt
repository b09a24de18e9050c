use Rattle.std.proofs.Common.{◌≡◌, ◌<◌, ◌-◌, ◌∙◌, ℕ, length, map, ap, arith}
use Rattle.std.specs.List.{range_with_len}
use Rattle.std.proofs.lemmas.Slice.Zip.{AllZip-map}
use Rattle.rayon.specs.Numbers.{nat_range}
use Rattle.rayon.proofs.ListFacts.{IfOk-then}
use Rattle.rayon.proofs.ToStd.{nat_range-All}
use Rattle.page_plan.specs.Pages.{page_of}
use Rattle.sim_survey.specs.Filled.{page_count, lines_of_filled}
use Rattle.page_plan.specs.Sizes.{row_of}
use Rattle.sim_survey.proofs.TotalLemmas.{rows_of_range}
use Rattle.sim_survey.proofs.totals.rows.Goals as goal

pub collect-requires-clause-ready : goal.collect-requires-clause-ready
collect-requires-clause-ready g c κs within =
    let ends = c.into_par_iter.ensures in
    let pages = c.div_ceil-pages.result in
    let inside = nat_range-All (λ i. i < page_count (length c.args.bytes.now)) 0 pages (λ i low high. omega (arith, c.div_ceil-pages.ensures)) in
    rw (c.map.ensures.base, c.map.ensures.f, ends.0, ends.1) (λ k d lt. ((c.requires, inside k d lt), λ y p. tt))

pub returns : goal.returns
returns g c =
    let ends = c.into_par_iter.ensures in
    let pages = c.div_ceil-pages.result in
    let whole : pages - 0 ≡ pages = omega arith in
    let counted : pages ≡ page_count (length c.args.bytes.now) = omega (arith, c.div_ceil-pages.ensures) in
    let row = λ (page : ℕ). row_of c.args.codec (page_of (lines_of_filled c.args.bytes.now) page) in
    IfOk-then c.collect.result _ _ c.collect.ensures (λ v h.
    let chain = rw (c.map.ensures.base, c.map.ensures.f) at h.1 in
    let places = chain.1 ∙ (λ i. nat_range (ends.0 i) (ends.1 i)) ∙ ap (range_with_len 0) (whole ∙ counted) in
    h.2 ∙ AllZip-map row chain.0 h.0 chain.2 ∙ ap (map row) places ∙ rows_of_range c.args.codec c.args.bytes.now)
