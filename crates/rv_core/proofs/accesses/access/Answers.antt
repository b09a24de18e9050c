use Rattle.std.proofs.Common.{[], None, refl}
use Rattle.hier_types.specs.Span.{line_at}
use Rattle.hier_types.proofs.PortCallLemmas.{made_pokes, made_touch}
use Rattle.rv_core.specs.Accesses.{store_op}
use Rattle.rv_core.specs.Operations.{store_bytes}
use Rattle.rv_core.specs.Touched.{addressed}
use Rattle.rv_core.proofs.accesses.access.Goals as goal

pub returns-in_ok-touch_at-in-Load-clause-made : goal.returns-in_ok-touch_at-in-Load-clause-made
returns-in_ok-touch_at-in-Load-clause-made g c =
    let port = c.touch_at.new.port in
    let line = line_at (g.P.Port.span c.args.port.now) c.in-Load.at in
    rw c.in-Load.is
    (made_touch g.P.Port.did_touch g.P.Port.did_poke c.args.port.now port line [] [] None port c.in_ok-touch_at-in-Load.ensures.did
    (made_pokes g.P.Port.did_touch g.P.Port.did_poke port [] port refl))

pub returns-in_ok-touch_at-in-Store-clause-made : goal.returns-in_ok-touch_at-in-Store-clause-made
returns-in_ok-touch_at-in-Store-clause-made g c =
    let port = c.touch_at-in-Store.new.port in
    let line = line_at (g.P.Port.span c.args.port.now) c.in-Store.at in
    let pokes = addressed c.in-Store.at (store_bytes (store_op c.in-Store.width) c.in-Store.value) in
    rw c.in-Store.is
    (made_touch g.P.Port.did_touch g.P.Port.did_poke c.args.port.now port line [] pokes None c.store_to.new.port c.in_ok-touch_at-in-Store.ensures.did
    (made_pokes g.P.Port.did_touch g.P.Port.did_poke port pokes c.store_to.new.port (rw c.store_op.ensures at c.store_to.ensures.did)))
