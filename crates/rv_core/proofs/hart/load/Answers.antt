use Rattle.std.proofs.Common.{[], None, refl}
use Rattle.hier_types.specs.Span.{line_at}
use Rattle.hier_types.proofs.PortCallLemmas.{made_pokes, made_touch}
use Rattle.rv_core.specs.Operations.{load_width}
use Rattle.rv_core.proofs.Lines.{data_line_at}
use Rattle.rv_core.proofs.hart.load.Goals as goal

pub returns-clause-made : goal.returns-clause-made
returns-clause-made g c =
    let ok = rw c.width_of_load.ensures at c.in_ok-check_access.ensures.ok in
    let port = c.touch_at.new.port in
    let span = g.P.Port.span c.args.port.now in
    rw (data_line_at span (load_width c.args.op) c.args.at ok.0 ok.1)
    (made_touch g.P.Port.did_touch g.P.Port.did_poke c.args.port.now port (line_at span c.args.at) [] [] None port c.in_default.ensures.did
    (made_pokes g.P.Port.did_touch g.P.Port.did_poke port [] port refl))
