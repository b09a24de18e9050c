use Rattle.std.proofs.Common.{◌≡◌, filter}
use Rattle.hier_types.specs.Tabulate.{tabulate}
use Rattle.elf_image.specs.Headers.{header_of, is_load}
use Rattle.elf_image.proofs.headers.loads_of.Given as goal

abbrev pub invariant-loop-number : goal.invariant-loop-number
invariant-loop-number l = l.loads.items ≡ filter is_load (tabulate (header_of l.file) l.number)
