use Rattle.std.proofs.Common.{◌+◌, ◌-◌, arith, refl}
use Rattle.elf_image.proofs.PageLemmas.{load_byte}
use Rattle.elf_image.proofs.image.put_load.Goals as goal

pub returns-then-from-to-clause-each : goal.returns-then-from-to-clause-each
returns-then-from-to-clause-each c = λ k page.
    let load = c.args.load.now in
    let from = c.max-from.result in
    let to = c.min-to.result in
    let offset = load.offset + (from - load.start) in
    load_byte load c.args.file.now c.args.into.now c.put.new.into c.args.first from to offset (offset + (to - from) - offset) k c.max-from.ensures c.min-to.ensures c.if-from-to.true
    refl (omega arith) (omega (arith, c.requires)) c.told-into c.put.ensures page
