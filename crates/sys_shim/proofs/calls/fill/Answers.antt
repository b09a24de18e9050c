use Rattle.std.proofs.Common.{◌+◌, ◌-◌, ◌≤◌, length, arith}
use Rattle.hier_types.specs.Span.{first}
use Rattle.sys_shim.proofs.ReadLemmas.{filled_pokes}
use Rattle.sys_shim.proofs.calls.fill.Goals as goal

pub returns-clause-made : goal.returns-clause-made
returns-clause-made g c =
    let span = g.P.Port.span c.args.port.now in
    let place = c.args.at - first span in
    let count = length c.args.got.now in
    let inside : place + count ≤ length (g.P.Port.bytes c.args.port.now) = omega (arith, c.requires.has, c.requires.within, c.requires.sized) in
    rw c.answer.ensures.done (filled_pokes g.P.Port.did_touch g.P.Port.did_poke c.args.port.now c.scatter.new.port c.args.at place (g.P.Port.bytes c.args.port.now) (g.P.Port.bytes c.scatter.new.port) c.answer.new.regs.x
    c.args.got.now c.scatter.ensures.did inside c.scatter.ensures.bytes c.answer.ensures.given)
