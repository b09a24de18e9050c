use Rattle.std.proofs.Common.{◌≡◌, ◌++◌, map, take}
use Rattle.rv_asm.specs.Encoding.{word_of}
use Rattle.rv_asm.proofs.demo.put_encoded.Given as goal

abbrev pub invariant-loop-instr : goal.invariant-loop-instr
invariant-loop-instr l = l.words.items ≡ l.initial.words.items ++ map word_of (take l.instr-index l.instructions)
