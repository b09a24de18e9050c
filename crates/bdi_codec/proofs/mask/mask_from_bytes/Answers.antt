use Rattle.std.proofs.Common.{length}
use Rattle.bdi_codec.proofs.BytesLemmas.{fits_mask}
use Rattle.bdi_codec.proofs.mask.mask_from_bytes.Goals as goal

pub overflow_cast-result : goal.overflow_cast-result
overflow_cast-result c = fits_mask c.number.result (length c.args.bytes.now) c.number.ensures.below c.requires
