-- The file is that of the words of the parts.
use Rattle.std.proofs.Common.{◌∙◌}
use Rattle.rv_asm.proofs.DemoLemmas.{encoded}
use Rattle.rv_asm.proofs.demo.demo_program.Goals as goal

pub returns : goal.returns
returns c =
    let words = c.deref.ensures.value ∙ encoded c.args.number _ _ _ _ _ _ _ _ _ _ _
    c.start.ensures.listing c.fill.ensures.listing c.middle.ensures.listing c.sum.ensures.listing c.end.ensures.listing
    c.in_ok-words.ensures.items c.in_ok-put_encoded.ensures c.in_ok-put_encoded-2.ensures c.in_ok-put_encoded-3.ensures c.in_ok-put_encoded-4.ensures c.in_ok-put_encoded-5.ensures in
    rw words at c.write_elf.ensures
