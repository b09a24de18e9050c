use Rattle.std.proofs.Common.{◌≡◌, take}
use Rattle.hier_types.specs.Span.{first}
use Rattle.elf_image.specs.Image.{greatest_end}
use Rattle.elf_image.proofs.image.Image.end.Given as goal

abbrev pub invariant-loop-load : goal.invariant-loop-load
invariant-loop-load l = l.end ≡ greatest_end (first l.self.span) (take l.load-index l.load-items)
