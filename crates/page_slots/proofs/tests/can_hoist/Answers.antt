use Rattle.std.proofs.Common.{◌<◌, ◌+◌, subst, arith}
use Rattle.std.proofs.lemmas.Bool.Decides.{nat_tests}
use Rattle.page_slots.specs.declared.form.Form.{Form}
use Rattle.page_slots.specs.Moves.{CanHoist}
use Rattle.page_slots.proofs.HoistLemmas.{can_hoist}
use Rattle.page_slots.proofs.tests.can_hoist.Goals as goal

pub returns : goal.returns
returns c is =
    let form = c.form-form.result in
    let free : 1 + c.args.above + c.exceptions_between-taken.result < form.chunks = grind (arith, nat_tests) in
    subst (λ (f : Form). CanHoist f c.args.low c.args.high c.args.above c.args.bytes.now) c.form-form.ensures.value
    (can_hoist form c.args.low c.args.high c.args.above c.args.bytes.now (omega (arith, c.if-form-above.false)) (omega (arith, c.if-above-form.false))
    (omega (arith, c.if-exceptions_between-eq0.false, c.exceptions_between.ensures.value)) (omega (arith, free, c.exceptions_between-taken.ensures.value)))
