use Rattle.std.proofs.Common.{subst, sym}
use Rattle.page_plan.specs.PagePlan.{IsPlan}
use Rattle.page_plan.proofs.PlanLemmas.{IsPlan-plan_of}
use Rattle.page_plan.proofs.least.plan.Goals as goal

pub returns-clause-value : goal.returns-clause-value
returns-clause-value c = c.plan.ensures.value c.args.codec c.args.page.now c.of.ensures.lines (sym c.of.ensures.value)

pub returns-clause-least : goal.returns-clause-least
returns-clause-least c =
    subst (λ p. IsPlan c.args.codec c.args.page.now p) (sym (returns-clause-value c)) (IsPlan-plan_of c.args.codec c.args.page.now)
