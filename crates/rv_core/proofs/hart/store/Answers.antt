use Rattle.std.proofs.Common.{[], None}
use Rattle.hier_types.specs.Span.{line_at}
use Rattle.hier_types.proofs.PortCallLemmas.{made_pokes, made_touch}
use Rattle.rv_core.specs.Operations.{store_bytes, store_width}
use Rattle.rv_core.specs.Touched.{addressed}
use Rattle.rv_core.proofs.Lines.{data_line_at, data_pokes_at}
use Rattle.rv_core.proofs.hart.store.Goals as goal

pub returns-clause-made : goal.returns-clause-made
returns-clause-made g c =
    let ok = rw c.width_of_store.ensures at c.in_ok-check_access.ensures.ok in
    let port = c.touch_at.new.port in
    let span = g.P.Port.span c.args.port.now in
    let width = store_width c.args.op in
    let bytes = store_bytes c.args.op c.args.value in
    rw (data_line_at span width c.args.at ok.0 ok.1, data_pokes_at span width c.args.at bytes ok.0 ok.1)
    (made_touch g.P.Port.did_touch g.P.Port.did_poke c.args.port.now port (line_at span c.args.at) [] (addressed c.args.at bytes) None c.store_to.new.port c.in_default.ensures.did
    (made_pokes g.P.Port.did_touch g.P.Port.did_poke port (addressed c.args.at bytes) c.store_to.new.port c.store_to.ensures.did))
