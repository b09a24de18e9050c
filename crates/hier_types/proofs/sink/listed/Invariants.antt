use Rattle.std.proofs.Common.{◌≡◌, drop}
use Rattle.hier_types.specs.Sinks.{listed_count}
use Rattle.hier_types.proofs.sink.listed.Given as goal

abbrev pub invariant-loop-number : goal.invariant-loop-number
invariant-loop-number l = listed_count (drop l.number-index l.fail) l.call ≡ listed_count l.fail l.call
