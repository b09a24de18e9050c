use Rattle.std.proofs.Common.{◌≡◌, ◌≤◌, ◌∷◌, ◌++◌, ℕ, List, [], length, take, refl, ap, ◌∙◌, arith}
use Rattle.std.proofs.lemmas.List.{length-take}
use Rattle.bdi_codec.specs.Bytes.{bytes_of}
use Rattle.bdi_codec.specs.Rows.{size_of, mask_size_of, least_row}
use Rattle.line_codec.specs.Slots.{encoding}
use Rattle.line_codec.proofs.SlotLemmas.{size_of-past, size_of-header}
use Rattle.line_codec.proofs.slots.bdi_encoded.Goals as goal

pub returns-then-coded-gt-LAST_ROW-clause-len : goal.returns-then-coded-gt-LAST_ROW-clause-len
returns-then-coded-gt-LAST_ROW-clause-len c =
    let coded = c.bdi_encode-coded in
    let plain : size_of (least_row c.args.line.now) ≡ 64 =
    rw coded.ensures.row at (size_of-past coded.result.row coded.ensures.known c.if-coded-gt-LAST_ROW.true) in
    rw plain refl

pub unwrap-requires : goal.unwrap-requires
unwrap-requires c =
    let coded = c.bdi_encode-coded in
    c.try_extend_from_slice.ensures.variant.1
    (omega (arith, ap length c.new-bytes.ensures, ap length c.as_slice-payload.ensures.value, (size_of-header coded.result.row c.if-coded-gt-LAST_ROW.false).0))

pub unwrap-requires-2 : goal.unwrap-requires-2
unwrap-requires-2 c =
    let coded = c.bdi_encode-coded in
    let len = rw c.unwrap.ensures at c.try_extend_from_slice.ensures.len in
    let shorter = length-take c.from-mask_size.result c.mask_to_bytes-mask.result in
    c.try_extend_from_slice-2.ensures.variant.1
    (omega (arith, len, shorter, ap length c.new-bytes.ensures, ap length c.as_slice-payload.ensures.value, (size_of-header coded.result.row c.if-coded-gt-LAST_ROW.false).0))

pub returns-clause-bytes : goal.returns-clause-bytes
unfolding encoding
returns-clause-bytes c =
    let coded = c.bdi_encode-coded in
    let first : c.push.new.self.items ≡ coded.result.row ∷ [] =
    c.push.ensures.items ∙ ap (λ (xs : List ℕ). xs ++ coded.result.row ∷ []) c.new-bytes.ensures in
    let payload = rw c.unwrap.ensures at c.try_extend_from_slice.ensures.ok in
    let rest = rw c.unwrap-2.ensures at c.try_extend_from_slice-2.ensures.ok in
    let size : c.from-mask_size.result ≤ 4 = omega (arith, c.from-mask_size.ensures, c.mask_bytes.ensures.high) in
    let mask : take c.from-mask_size.result c.mask_to_bytes-mask.result ≡ bytes_of c.from-mask_size.result coded.result.mask =
    c.mask_to_bytes-mask.ensures c.from-mask_size.result size in
    let mask_size : c.from-mask_size.result ≡ mask_size_of coded.result.row = c.from-mask_size.ensures ∙ c.mask_bytes.ensures.value in
    rw (rest, payload, first, c.as_slice-payload.ensures.value, coded.ensures.payload, mask, mask_size, coded.ensures.mask, coded.ensures.row) refl
