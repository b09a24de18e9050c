use Rattle.std.proofs.Common.{refl}
use Rattle.line_codec.specs.Slots.{encoding}
use Rattle.line_codec.proofs.slots.fpc_encoded.Goals as goal

pub returns-clause-bytes : goal.returns-clause-bytes
unfolding encoding
returns-clause-bytes c =
    let codes = rw c.unwrap.ensures at c.try_extend_from_slice.ensures.ok in
    rw (codes, c.push.ensures.items, c.new-bytes.ensures, c.as_slice.ensures.value, c.in-Some.ensures.encoding) refl
