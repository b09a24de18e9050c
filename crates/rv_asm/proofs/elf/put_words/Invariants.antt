use Rattle.std.proofs.Common.{◌≡◌, ◌++◌, take}
use Rattle.std.specs.List.{flat_map}
use Rattle.rv_asm.specs.ElfFile.{word}
use Rattle.rv_asm.proofs.elf.put_words.Given as goal

abbrev pub invariant-loop-word : goal.invariant-loop-word
invariant-loop-word l = l.file.items ≡ l.initial.file.items ++ flat_map word (take l.word-index l.words)
