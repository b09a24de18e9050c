use Rattle.std.proofs.Common.{◌≡◌, ◌≤◌, filter, length}
use Rattle.hier_types.specs.Tabulate.{tabulate}
use Rattle.elf_image.specs.Headers.{header_of, is_load}
use Rattle.elf_image.proofs.headers.count_loads.Given as goal

abbrev pub invariant-loop-number : goal.invariant-loop-number
invariant-loop-number l = record {
  few : l.count ≤ l.number;
  counted : l.count ≡ length (filter is_load (tabulate (header_of l.file) l.number));
}
