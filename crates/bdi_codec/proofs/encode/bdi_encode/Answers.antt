use Rattle.std.proofs.Common.{◌≡◌, length, ap, ◌∙◌, rules}
use Rattle.bdi_codec.proofs.BytesLemmas.{AreBytes}
use Rattle.bdi_codec.proofs.RowLemmas.{meaning-encoded, length-payload_in, mask_in-lt}
use Rattle.bdi_codec.proofs.encode.bdi_encode.Goals as goal

pub returns-clause-meaning : goal.returns-clause-meaning
returns-clause-meaning c =
    let line = c.args.line.now in
    let bytes : AreBytes line = search rules in
    let len : length line ≡ 64 = search rules in
    let again = meaning-encoded line c.bdi_row.result bytes len c.bdi_row.ensures.least.applied in
    cc

pub returns-clause-size : goal.returns-clause-size
returns-clause-size c =
    let line = c.args.line.now in
    let len : length line ≡ 64 = search rules in
    let size = length-payload_in line c.bdi_row.result len c.bdi_row.ensures.known in
    rw c.encode_in.ensures.row (ap length c.encode_in.ensures.payload ∙ size)

pub returns-clause-mask_size : goal.returns-clause-mask_size
returns-clause-mask_size c =
    let fits = mask_in-lt c.args.line.now c.bdi_row.result in
    rw (c.encode_in.ensures.mask, c.encode_in.ensures.row) fits
