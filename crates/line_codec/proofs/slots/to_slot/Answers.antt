use Rattle.std.proofs.Common.{◌≡◌, length, rules}
use Rattle.arrayvec.specs.ArrayVec.{array_vec_len}
use Rattle.bdi_codec.proofs.BytesLemmas.{AreBytes}
use Rattle.line_codec.proofs.SlotLemmas.{encoding_says}
use Rattle.line_codec.proofs.slots.to_slot.Goals as goal

pub returns-clause-reads_back : goal.returns-clause-reads_back
returns-clause-reads_back c _ =
    let line = c.args.line.now in
    let bytes : AreBytes line = search rules in
    let len : length line ≡ 64 = search rules in
    rw (c.put.ensures, c.as_slice.ensures.value, c.in-Some.ensures.bytes)
    (encoding_says c.args.codec line _ (array_vec_len c.in-Some.bytes) bytes len c.in-Some.ensures.len)
