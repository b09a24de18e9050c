use Rattle.std.proofs.Common.{◌≡◌, ◌*◌, length, take}
use Rattle.hier_types.specs.Tabulate.{tabulate}
use Rattle.elf_image.specs.Image.{byte_at}
use Rattle.rv_flat.proofs.memory.fill.Given as goal

abbrev pub invariant-loop-number : goal.invariant-loop-number
invariant-loop-number l = record {
  len : length l.bytes ≡ 4096 * l.pages;
  front : take (4096 * l.number) l.bytes ≡ tabulate (byte_at l.image.span l.image.file) (4096 * l.number);
}
