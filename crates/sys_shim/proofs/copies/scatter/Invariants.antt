use Rattle.std.proofs.Common.{◌≡◌, ◌+◌, ◌-◌, drop}
use Rattle.hier_types.specs.PortCalls.{IsHeld, PortMade, poke_calls}
use Rattle.hier_types.specs.Span.{first, line_at}
use Rattle.rv_core.specs.Hart.{put}
use Rattle.rv_core.specs.Touched.{addressed}
use Rattle.sys_shim.proofs.copies.scatter.Given as goal

abbrev pub invariant-loop-index : goal.invariant-loop-index
invariant-loop-index g l = record {
  span : g.P.Port.span l.port ≡ g.P.Port.span l.fn.port;
  held : IsHeld (g.P.Port.held l.port) (line_at (g.P.Port.span l.fn.port) l.at);
  stops : g.P.Port.stops l.port ≡ g.P.Port.stops l.fn.port;
  bytes : put (g.P.Port.bytes l.port) (l.at + l.index - first (g.P.Port.span l.fn.port)) (drop l.index l.bytes) ≡ put (g.P.Port.bytes l.fn.port) (l.at - first (g.P.Port.span l.fn.port)) l.bytes;
  rest : (after : _) → PortMade g.P.Port.did_touch g.P.Port.did_poke l.port (poke_calls (addressed (l.at + l.index) (drop l.index l.bytes))) after
      → PortMade g.P.Port.did_touch g.P.Port.did_poke l.fn.port (poke_calls (addressed l.at l.bytes)) after;
}
