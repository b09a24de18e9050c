use Rattle.std.proofs.Common.{◌≡◌, ◌≤◌, ◌+◌, ◌-◌, ◌<◌, ◌&&◌, ℕ, length, max, nat_le, nat_lt, slice_index, if◌then◌else◌}
use Rattle.hier_types.specs.Span.{first}
use Rattle.sys_shim.proofs.copies.copy_line.Given as goal

abbrev pub invariant-loop-place : goal.invariant-loop-place
invariant-loop-place g l = record {
  within : l.place ≤ max l.from l.to;
  each : (k : ℕ) → k < length l.into
      → slice_index l.into k ≡ (if nat_le l.from (l.at + k) && nat_lt (l.at + k) l.place then slice_index (g.P.Port.bytes l.port) (l.at + k - first (g.P.Port.span l.port)) else slice_index l.initial.into k);
}
