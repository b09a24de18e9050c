use Rattle.std.proofs.Common.{refl, subst}
use Rattle.hier_types.specs.PortCalls.{MadeInOrder}
use Rattle.hier_types.specs.Span.{Span}
use Rattle.rv_core.specs.Answers.{hart_of}
use Rattle.rv_core.specs.Hart.{Hart}
use Rattle.rv_core.specs.Touched.{poked, touched}
use Rattle.rv_core.specs.Code.{words}
use Rattle.rv_core.specs.Effect.{Calls, effect_at}
use Rattle.rv_core.proofs.CallLemmas.{pokes_of_call}
use Rattle.rv_guest.specs.Lines.{lines_of_effect, pokes_of_effect, stop_of_beat}
use Rattle.rv_guest.specs.State.{GuestState, code_at, state_of}
use Rattle.rv_guest.proofs.CallLemmas.{step_retires}
use Rattle.rv_guest.proofs.JoinLemmas.{made_join, made_stop}
use Rattle.rv_guest.proofs.guest.Guest.beat.Goals as goal

pub returns-in-Ok-Call-clause-made : goal.returns-in-Ok-Call-clause-made
unfolding code_at
returns-in-Ok-Call-clause-made g c =
    let span = g.P.Port.span c.args.port.now in
    let old = state_of c.args.self.now (g.P.Port.bytes c.args.port.now) in
    let told = rw c.in-Ok-Call.field-0-is at c.in-Ok-Call.ensures in
    let calls = told.step.0 in
    let same = told.step.1 in
    let first = rw (pokes_of_call span old.hart calls) at told.made in
    let after = (state_of c.call.new.self (g.P.Port.bytes c.call.new.port)).hart in
    let Rest : Span → Hart → Type 0 = λ s h. let mid : GuestState = record { hart = h; brk = old.brk; retired = old.retired } in
    MadeInOrder g.P.Port.did_touch g.P.Port.did_poke c.step.new.port (lines_of_effect (words s) mid Calls) (pokes_of_effect (words s) mid Calls c.call.result after) (stop_of_beat c.call.result) c.call.new.port in
    let made : Rest (g.P.Port.span c.step.new.port) (hart_of c.step.new.regs (g.P.Port.bytes c.step.new.port)) = c.call.ensures.made in
    let rest = subst (Rest span) same (subst (λ (s : Span). Rest s (hart_of c.step.new.regs (g.P.Port.bytes c.step.new.port))) c.step.ensures.span made) in
    rw calls (made_join g.P.Port.did_touch g.P.Port.did_poke c.args.port.now c.step.new.port c.call.new.port (touched span old.hart) (lines_of_effect (words span) old Calls)
    (pokes_of_effect (words span) old Calls c.call.result after) (stop_of_beat c.call.result) first rest)

pub returns-in-Err-Stop-clause-made : goal.returns-in-Err-Stop-clause-made
unfolding code_at
returns-in-Err-Stop-clause-made g c =
    let span = g.P.Port.span c.args.port.now in
    let old = state_of c.args.self.now (g.P.Port.bytes c.args.port.now) in
    let told = rw c.in-Err-Stop.field-0-is at c.in-Err-Stop.ensures in
    made_stop g.P.Port.did_touch g.P.Port.did_poke c.args.port.now c.step.new.port (touched span old.hart) (lines_of_effect (words span) old (effect_at span old.hart)) (poked span old.hart) _ c.in-Err-Stop.refusal told.made

pub returns-in-Ok-Retired-clause-did : goal.returns-in-Ok-Retired-clause-did
unfolding code_at
returns-in-Ok-Retired-clause-did g c =
    let span = g.P.Port.span c.args.port.now in
    let old = state_of c.args.self.now (g.P.Port.bytes c.args.port.now) in
    let told = rw c.in-Ok-Retired.field-0-is at c.in-Ok-Retired.ensures in
    step_retires (code_at span old) old (hart_of c.step.new.regs (g.P.Port.bytes c.step.new.port)) _ told.step (refl, refl)
