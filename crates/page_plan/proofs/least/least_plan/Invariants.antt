use Rattle.std.proofs.Common.{◌+◌, ◌*◌, Some}
use Rattle.page_plan.specs.KeptSizes.{sizes_told}
use Rattle.page_plan.specs.PagePlan.{IsLeastBelow}
use Rattle.page_plan.proofs.least.least_plan.Given as goal

abbrev pub invariant-loop-target : goal.invariant-loop-target
invariant-loop-target l = IsLeastBelow (4 * l.target-index + 4) (sizes_told (Some 1) l.sizes) l.plan
