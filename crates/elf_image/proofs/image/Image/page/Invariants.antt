use Rattle.std.proofs.Common.{◌≡◌, ◌+◌, ◌<◌, ℕ, length, get_or, take}
use Rattle.elf_image.specs.Image.{loaded_byte}
use Rattle.elf_image.proofs.image.Image.page.Given as goal

abbrev pub invariant-loop-load : goal.invariant-loop-load
invariant-loop-load l = record {
  len : length l.into ≡ 4096;
  each : (k : ℕ) → k < 4096 → get_or l.into k 0 ≡ loaded_byte l.self.file (take l.load-index l.load-items) (l.first + k);
}
