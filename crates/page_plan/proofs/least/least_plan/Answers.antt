use Rattle.std.proofs.Common.{ℕ, ◌≡◌, ◌+◌, ◌*◌, ◌<◌, Some, get_or, subst, arith}
use Rattle.line_codec.specs.Layout.{targets}
use Rattle.line_codec.proofs.LayoutLemmas.{target_at}
use Rattle.page_plan.specs.KeptSizes.{sizes_told}
use Rattle.page_plan.specs.PagePlan.{IsLeastBelow}
use Rattle.page_plan.proofs.least.least_plan.Goals as goal

pub loop-target-preserved : goal.loop-target-preserved
loop-target-preserved c =
    let i = c.loop-target.target-index in
    let below : i < 7 = omega arith in
    let here : get_or targets i 0 + 4 ≡ 4 * (i + 1) + 4 = omega (arith, target_at i below) in
    subst (λ (limit : ℕ). IsLeastBelow limit (sizes_told (Some 1) c.args.sizes.now) c.better-plan.result) here c.better-plan.ensures

pub returns : goal.returns
returns c =
    let all : 4 * c.loop-target.target-index + 4 ≡ 32 = omega arith in
    subst (λ (limit : ℕ). IsLeastBelow limit (sizes_told (Some 1) c.args.sizes.now) c.loop-target.plan) all c.loop-target.invariant
