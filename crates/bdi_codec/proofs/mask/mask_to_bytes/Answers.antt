use Rattle.bdi_codec.proofs.BytesLemmas.{first_bytes}
use Rattle.bdi_codec.proofs.mask.mask_to_bytes.Goals as goal

pub returns : goal.returns
returns c = rw c.to_le_bytes.ensures (first_bytes c.args.mask)
