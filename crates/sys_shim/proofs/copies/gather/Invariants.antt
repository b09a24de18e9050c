use Rattle.std.proofs.Common.{◌≡◌, ◌+◌, ◌-◌, ◌<◌, ◌≤◌, ℕ, [], Option, length, slice_index}
use Rattle.hier_types.specs.declared.faults.NoSpace.{NoSpace}
use Rattle.hier_types.specs.PortCalls.{MadeInOrder}
use Rattle.hier_types.specs.Span.{first, line_at}
use Rattle.sys_shim.specs.CallLines.{lines_from}
use Rattle.sys_shim.proofs.copies.gather.Given as goal

abbrev pub invariant-loop-line : goal.invariant-loop-line
invariant-loop-line g l = record {
  bytes : g.P.Port.bytes l.port ≡ g.P.Port.bytes l.fn.port;
  span : g.P.Port.span l.port ≡ g.P.Port.span l.fn.port;
  later : g.P.Port.stops l.fn.port ≤ g.P.Port.stops l.port;
  copied : (k : ℕ) → k < length l.into → line_at (g.P.Port.span l.fn.port) (l.at + k) < l.line
      → slice_index l.into k ≡ slice_index (g.P.Port.bytes l.fn.port) (l.at + k - first (g.P.Port.span l.fn.port));
  rest : (after : _) (stop : Option NoSpace) → MadeInOrder g.P.Port.did_touch g.P.Port.did_poke l.port (lines_from l.line (l.last + 1 - l.line)) [] stop after
      → MadeInOrder g.P.Port.did_touch g.P.Port.did_poke l.fn.port (lines_from l.initial.line (l.last + 1 - l.initial.line)) [] stop after;
}
