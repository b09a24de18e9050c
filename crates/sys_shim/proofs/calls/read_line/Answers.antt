use Rattle.std.proofs.Common.{◌≡◌, ◌∙◌, ◌-◌, [], None, take, drop, get_or, ap, refl}
use Rattle.hier_types.specs.Span.{Span, first, line_at}
use Rattle.hier_types.proofs.PortCallLemmas.{made_pokes, made_refused, made_touch}
use Rattle.rv_core.specs.Touched.{addressed}
use Rattle.sys_shim.proofs.calls.read_line.Goals as goal

pub returns-in-Err-clause-made : goal.returns-in-Err-clause-made
returns-in-Err-clause-made g c =
    let span = g.P.Port.span c.args.port.now in
    let line : c.line_of-line.result.0 ≡ line_at span c.args.at = c.line_of-line.ensures ∙ ap (λ (s : Span). line_at s c.args.at) c.span.ensures.span in
    made_refused g.P.Port.did_touch g.P.Port.did_poke c.args.port.now (line_at span c.args.at) [] [] c.in-Err.refusal c.touch.new.self (rw (← line) c.in-Err.ensures.did)

pub returns-in-Ok-clause-made : goal.returns-in-Ok-clause-made
returns-in-Ok-clause-made g c =
    let span = g.P.Port.span c.args.port.now in
    let line : c.line_of-line.result.0 ≡ line_at span c.args.at = c.line_of-line.ensures ∙ ap (λ (s : Span). line_at s c.args.at) c.span.ensures.span in
    let pokes = addressed c.args.at (take (get_or c.fill.new.regs.x 10 0) (drop (c.args.at - first span) (g.P.Port.bytes c.fill.new.port))) in
    rw c.fill.ensures.done (made_touch g.P.Port.did_touch g.P.Port.did_poke c.args.port.now c.touch.new.self (line_at span c.args.at) [] pokes None c.fill.new.port
    (rw (← line) c.in_default.ensures.did) (made_pokes g.P.Port.did_touch g.P.Port.did_poke c.touch.new.self pokes c.fill.new.port (rw (c.fill.ensures.done, c.in_default.ensures.span) at c.fill.ensures.made)))

pub returns-in-Err-read-clause-made : goal.returns-in-Err-read-clause-made
returns-in-Err-read-clause-made g c =
    let span = g.P.Port.span c.args.port.now in
    let line : c.line_of-line.result.0 ≡ line_at span c.args.at = c.line_of-line.ensures ∙ ap (λ (s : Span). line_at s c.args.at) c.span.ensures.span in
    made_touch g.P.Port.did_touch g.P.Port.did_poke c.args.port.now c.touch.new.self (line_at span c.args.at) [] [] None c.touch.new.self
    (rw (← line) c.in_default.ensures.did) (made_pokes g.P.Port.did_touch g.P.Port.did_poke c.touch.new.self [] c.touch.new.self refl)
