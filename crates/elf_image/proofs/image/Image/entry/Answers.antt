use Rattle.std.proofs.Common.{length, ap, arith}
use Rattle.elf_image.proofs.AcceptedLemmas.{accepted_long}
use Rattle.elf_image.proofs.image.Image.entry.Goals as goal

pub word_at-requires : goal.word_at-requires
word_at-requires c = omega (arith, accepted_long _ _ c.self.invariant.accepted, ap length c.deref.ensures.value)
