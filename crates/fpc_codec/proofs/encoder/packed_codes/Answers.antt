use Rattle.std.proofs.Common.{◌∙◌, arith}
use Rattle.fpc_codec.specs.Line.{words_of, codes_of, bits_of, encoding_of}
use Rattle.fpc_codec.proofs.CodesOfLemmas.{least_codes-none}
use Rattle.fpc_codec.proofs.PackLemmas.{written_start, written_more, written_room, written_end}
use Rattle.fpc_codec.proofs.encoder.packed_codes.Goals as goal

pub loop-code-init : goal.loop-code-init
loop-code-init c =
    let made = c.new-writer.ensures in
    rw (made.bytes, made.count, made.pending) (written_start (codes_of c.args.line.now))

pub write_code-requires-clause-room : goal.write_code-requires-clause-room
unfolding bits_of
write_code-requires-clause-room c =
    omega (arith, c.requires, written_room _ _ _ _ _ _ c.in-Some.code c.loop-code.invariant c.in-Some.ensures.first)

pub loop-code-preserved : goal.loop-code-preserved
loop-code-preserved c =
    written_more _ _ _ _ _ _ _ _ _ c.in-Some.code c.loop-code.invariant c.in-Some.ensures.first c.write_code.new.writer.few c.write_code.ensures.bits c.write_code.ensures.written

pub returns : goal.returns
unfolding encoding_of bits_of
returns c =
    c.into_bytes.ensures ∙ written_end _ _ _ _ _ c.loop-code.invariant (least_codes-none (words_of c.loop-code.rest.now) c.in_default.ensures.none)

pub into_bytes-requires : goal.into_bytes-requires
unfolding bits_of
into_bytes-requires c = omega (arith, c.requires, c.loop-code.invariant.bits)
