use Rattle.std.proofs.Common.{refl}
use Rattle.rv_guest.specs.State.{code_at, state_of}
use Rattle.rv_guest.proofs.CallLemmas.{call_exits, call_fails_at_read, call_fails_at_write, call_steps, call_stops}
use Rattle.sys_shim.specs.Calls.{request_of}
use Rattle.rv_guest.proofs.guest.Guest.call.Goals as goal

pub returns-in-Done-clause-did : goal.returns-in-Done-clause-did
unfolding code_at
returns-in-Done-clause-did g c =
    let span = g.P.Port.span c.args.port.now in
    let old = state_of c.args.self.now (g.P.Port.bytes c.args.port.now) in
    call_steps (code_at span old) old c.requires.stands (request_of span old.brk old.hart) _ _ refl c.in-Done.ensures.did

pub returns-in-Exit-clause-did : goal.returns-in-Exit-clause-did
unfolding code_at
returns-in-Exit-clause-did g c =
    let span = g.P.Port.span c.args.port.now in
    let old = state_of c.args.self.now (g.P.Port.bytes c.args.port.now) in
    call_exits (code_at span old) old c.requires.stands (request_of span old.brk old.hart) _ _ _ refl c.in-Exit.ensures.did

pub returns-in-InFault-clause-did : goal.returns-in-InFault-clause-did
unfolding code_at
returns-in-InFault-clause-did g c =
    let span = g.P.Port.span c.args.port.now in
    let old = state_of c.args.self.now (g.P.Port.bytes c.args.port.now) in
    call_fails_at_read (code_at span old) old c.requires.stands (request_of span old.brk old.hart) _ _ refl c.in-InFault.ensures.did

pub returns-in-OutFault-clause-did : goal.returns-in-OutFault-clause-did
unfolding code_at
returns-in-OutFault-clause-did g c =
    let span = g.P.Port.span c.args.port.now in
    let old = state_of c.args.self.now (g.P.Port.bytes c.args.port.now) in
    call_fails_at_write (code_at span old) old c.requires.stands (request_of span old.brk old.hart) _ _ refl c.in-OutFault.ensures.did

pub returns-in-Stop-clause-did : goal.returns-in-Stop-clause-did
unfolding code_at
returns-in-Stop-clause-did g c =
    let span = g.P.Port.span c.args.port.now in
    let old = state_of c.args.self.now (g.P.Port.bytes c.args.port.now) in
    call_stops (code_at span old) old (request_of span old.brk old.hart) _ _ _ c.in-Stop.ensures.did
