use Rattle.std.proofs.Common.{arith}
use Rattle.fpc_codec.proofs.LineLemmas.{line_of-take}
use Rattle.fpc_codec.proofs.decoder.line_of.Goals as goal

pub loop-word-preserved : goal.loop-word-preserved
loop-word-preserved c =
    let l = c.loop-word in
    (omega arith, rw (line_of-take c.args.words.now l.word-index (omega arith), ← l.invariant.1) c.push_word.ensures.items)
