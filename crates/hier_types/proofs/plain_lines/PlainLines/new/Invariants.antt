use Rattle.std.proofs.Common.{◌≡◌, replicate, vec_len}
use Rattle.hier_types.specs.Lines.{zero_line}
use Rattle.hier_types.proofs.plain_lines.PlainLines.new.Given as goal

abbrev pub invariant-loop-count : goal.invariant-loop-count
invariant-loop-count l = record { lines : l.zeros.items ≡ replicate l.count zero_line; len : vec_len l.zeros ≡ l.count }
