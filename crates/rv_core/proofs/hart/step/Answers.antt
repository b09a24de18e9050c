use Rattle.std.proofs.Common.{◌≡◌, ◌%◌, None, arith, rules}
use Rattle.hier_types.specs.Span.{Has}
use Rattle.rv_decode.specs.Table.{decoded}
use Rattle.rv_core.specs.Answers.{hart_of}
use Rattle.rv_core.specs.Effect.{fetched}
use Rattle.rv_core.proofs.Lines.{made_none}
use Rattle.rv_core.proofs.hart.step.Goals as goal

pub returns-in-None-clause-made : goal.returns-in-None-clause-made
returns-in-None-clause-made g c =
    let span = g.P.Port.span c.args.port.now in
    let h = hart_of c.args.regs.now (g.P.Port.bytes c.args.port.now) in
    let aligned : h.pc % 4 ≡ 0 = omega (arith, c.if-pc-ne0.false) in
    let inside : Has span h.pc = search rules in
    let none : decoded (fetched span h) ≡ None = search rules in
    made_none g.P.Port.did_touch g.P.Port.did_poke c.args.port.now c.touch_at.new.port span h aligned inside none c.in_default.ensures.did
