use Rattle.std.proofs.Common.{◌+◌, ◌∙◌, Ok, Err, refl, ap}
use Rattle.std.proofs.lemmas.Result.{err_from_is_err_and}
use Rattle.rv_guest.specs.State.{code_at, state_of}
use Rattle.rv_guest.proofs.CodeLemmas.{code_stays}
use Rattle.hier_machine.specs.contracts.machine.Machine.{the_view}
use Rattle.hier_machine.proofs.ListsLemmas.{accesses, lists_access}
use Rattle.hier_machine.proofs.machine.Machine.beat_access.Goals as goal

pub returns-in_err-value-clause-beats : goal.returns-in_err-value-clause-beats
returns-in_err-value-clause-beats c =
    let guest = c.self.inside.guest in
    let refusal = c.in_err-value.field-0.0 in
    let old = the_view c.self.inside in
    let new = the_view (record c.self.inside { memory = c.access.new.port }) in
    let h = c.in_err-value.ensures in
    let code = ap (λ span. code_at span new.guest) h.span ∙ code_stays old.memory.span old.guest new.guest.hart new.guest.retired in
    let p = err_from_is_err_and c.from_residual.result c.from_residual.ensures.1 in
    rw (p.1, p.2, ← c.self.view_is) (accesses old new c.args.asked.now (Err refusal) (ap (λ bytes. state_of guest bytes) h.err) h.made h.cause h.span code refl refl refl refl)

pub returns-in_err-value-clause-lists : goal.returns-in_err-value-clause-lists
returns-in_err-value-clause-lists c =
    let guest = c.self.inside.guest in
    let refusal = c.in_err-value.field-0.0 in
    let new = the_view (record c.self.inside { memory = c.access.new.port }) in
    let p = err_from_is_err_and c.from_residual.result c.from_residual.ensures.1 in
    rw (p.1, p.2, ← c.self.view_is)
    (lists_access (the_view c.self.inside) new c.args.asked.now (Err refusal) (ap (λ bytes. state_of guest bytes) c.in_err-value.ensures.err) c.in_err-value.ensures.made refl)

pub returns-clause-beats : goal.returns-clause-beats
returns-clause-beats c =
    let guest = record c.self.inside.guest { retired = c.self.inside.guest.retired + 1 } in
    let old = the_view c.self.inside in
    let new = the_view (record c.self.inside { memory = c.access.new.port; guest = guest }) in
    let h = c.in_ok-value.ensures in
    let code = ap (λ span. code_at span new.guest) h.span ∙ code_stays old.memory.span old.guest new.guest.hart new.guest.retired in
    rw (← c.self.view_is) (accesses old new c.args.asked.now (Ok c.in_ok-value.value) (h.ok, ap (λ bytes. state_of guest bytes) h.bytes) h.made h.cause h.span code refl refl refl refl)

pub returns-clause-lists : goal.returns-clause-lists
returns-clause-lists c =
    let guest = record c.self.inside.guest { retired = c.self.inside.guest.retired + 1 } in
    let new = the_view (record c.self.inside { memory = c.access.new.port; guest = guest }) in
    let h = c.in_ok-value.ensures in
    rw (← c.self.view_is) (lists_access (the_view c.self.inside) new c.args.asked.now (Ok c.in_ok-value.value) (h.ok, ap (λ bytes. state_of guest bytes) h.bytes) h.made refl)
