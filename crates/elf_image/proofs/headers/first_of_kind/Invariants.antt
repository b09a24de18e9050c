use Rattle.std.proofs.Common.{◌≡◌, ◌==◌, None, find}
use Rattle.hier_types.specs.Tabulate.{tabulate}
use Rattle.elf_image.specs.Headers.{header_of}
use Rattle.elf_image.specs.declared.headers.Header.{Header}
use Rattle.elf_image.proofs.headers.first_of_kind.Given as goal

abbrev pub invariant-loop-number : goal.invariant-loop-number
invariant-loop-number l = find (λ (header : Header). header.kind == l.kind) (tabulate (header_of l.file) l.number) ≡ None
