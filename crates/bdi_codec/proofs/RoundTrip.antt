-- What a base, deltas and a mask of a line say is the line. `q` is one less than how often the values of a delta go into those of an element.
use Rattle.std.proofs.Common.{◌≡◌, ℕ, suc, ◌+◌, ◌*◌, ◌/◌, ◌%◌, ◌^◌, ◌<◌, true, All, List, [], ◌∷◌, ◌++◌, length, take, drop, Some, refl, ap, ◌∙◌, arith, if◌then◌else◌, ◌==◌, ◌&&◌, nat_lt}
use Rattle.std.specs.List.{flat_map, list_all}
use Rattle.std.proofs.Math.Nat.{mod-eq_of_lt}
use Rattle.std.proofs.lemmas.Bool.{and_parts}
use Rattle.std.proofs.lemmas.Bool.Decides.{nat_tests}
use Rattle.std.proofs.lemmas.List.{take_at, drop_at, length-append}
use Rattle.bdi_codec.specs.Bytes.{number_of, bytes_of, elements}
use Rattle.bdi_codec.specs.Deltas.{deltas_meaning, deltas_mask, deltas_payload, deltas_apply, base_of, is_small, is_near, delta_of, mask_of, restored_all}
use Rattle.bdi_codec.proofs.BytesLemmas.{AreBytes, pow_positive, length-bytes_of, length-flat_map_bytes_of, number_of-bytes_of, length-elements, elements-lt, elements-joined}
use Rattle.bdi_codec.proofs.DeltaLemmas.{mask_of-lt, base_of-lt, restored-delta_of}

-- the elements come back from their mask and the low bytes of their deltas
restored_all-delta_of : (values half q delta base : ℕ) (es : List ℕ) → list_all (is_near values half base) es ≡ true → All (λ n. n < values) es → base < values
    → 256 ^ delta ≡ 2 * half → values ≡ q * 256 ^ delta + 256 ^ delta
    → restored_all values half base (mask_of values half es) (elements delta (length es) (flat_map (λ n. bytes_of delta (delta_of values half base n)) es)) ≡ es
unfolding elements
restored_all-delta_of values half q delta base [] near within base_in two whole = refl
restored_all-delta_of values half q delta base (n ∷ ns) near within base_in two whole =
    let kept = bytes_of delta (delta_of values half base n) in
    let others = flat_map (λ n. bytes_of delta (delta_of values half base n)) ns in
    let size = length-bytes_of delta (delta_of values half base n) in
    let front : take delta (kept ++ others) ≡ kept = take_at kept others delta size in
    let back : drop delta (kept ++ others) ≡ others = drop_at kept others delta size in
    let parts = and_parts (is_near values half base n) (list_all (is_near values half base) ns) near in
    let one = restored-delta_of values half q (256 ^ delta) base n parts.0 (within 0 n (omega arith)) base_in two whole in
    let rest = restored_all-delta_of values half q delta base ns parts.1 (λ k d l. within (suc k) d (omega arith)) base_in two whole in
    let bit : ((if is_small values half n then 0 else 1) + 2 * mask_of values half ns) % 2 ≡ (if is_small values half n then 0 else 1) = grind (arith, nat_tests) in
    let high : ((if is_small values half n then 0 else 1) + 2 * mask_of values half ns) / 2 ≡ mask_of values half ns = grind (arith, nat_tests) in
    let low = number_of-bytes_of delta (delta_of values half base n) in
    rw (front, back, bit, high, low, one, rest) refl

pub length-deltas_payload : (width delta : ℕ) (line : List ℕ) → length (deltas_payload width delta line) ≡ width + delta * (64 / width)
unfolding deltas_payload
length-deltas_payload width delta line =
    let values = 256 ^ width in
    let half = 256 ^ delta / 2 in
    let es = elements width (64 / width) line in
    let base = base_of values half es in
    length-append (bytes_of width base) (flat_map (λ n. bytes_of delta (delta_of values half base n)) es)
    ∙ omega (arith, length-bytes_of width base, length-flat_map_bytes_of delta (delta_of values half base) es, ap (λ (x : ℕ). delta * x) (length-elements width (64 / width) line))

pub deltas_mask-lt : (width delta : ℕ) (line : List ℕ) → deltas_mask width delta line < 2 ^ (64 / width)
unfolding deltas_mask
deltas_mask-lt width delta line =
    rw (length-elements width (64 / width) line) at (mask_of-lt (256 ^ width) (256 ^ delta / 2) (elements width (64 / width) line))

-- a line that can be kept as a base and deltas is what its mask and its payload say
pub deltas_meaning-encoded : (width delta q : ℕ) (line : List ℕ) → width * (64 / width) ≡ 64 → 256 ^ delta ≡ 2 * (256 ^ delta / 2) → 256 ^ width ≡ q * 256 ^ delta + 256 ^ delta
    → AreBytes line → length line ≡ 64 → deltas_apply width delta line ≡ true
    → deltas_meaning width delta (deltas_mask width delta line) (deltas_payload width delta line) ≡ Some line
unfolding deltas_meaning deltas_mask deltas_payload deltas_apply
deltas_meaning-encoded width delta q line whole two multiple bytes len applied =
    let values = 256 ^ width in
    let half = 256 ^ delta / 2 in
    let count = 64 / width in
    let es = elements width count line in
    let base = base_of values half es in
    let within = elements-lt width count line (omega arith) bytes in
    let base_in = base_of-lt values half es (pow_positive width) within in
    let deltas = flat_map (λ n. bytes_of delta (delta_of values half base n)) es in
    let size : length es ≡ count = length-elements width count line in
    let payload_len : length (bytes_of width base ++ deltas) ≡ width + delta * count = length-deltas_payload width delta line in
    let mask_in : mask_of values half es < 2 ^ count = deltas_mask-lt width delta line in
    let front : take width (bytes_of width base ++ deltas) ≡ bytes_of width base = take_at (bytes_of width base) deltas width (length-bytes_of width base) in
    let back : drop width (bytes_of width base ++ deltas) ≡ deltas = drop_at (bytes_of width base) deltas width (length-bytes_of width base) in
    let based : number_of (bytes_of width base) ≡ base = number_of-bytes_of width base ∙ mod-eq_of_lt base_in in
    let again : restored_all values half base (mask_of values half es) (elements delta count deltas) ≡ es =
    rw size at (restored_all-delta_of values half q delta base es applied within base_in two multiple) in
    let joined = elements-joined width count line (omega arith) bytes in
    let passed : (length (bytes_of width base ++ deltas) == width + delta * count && nat_lt (mask_of values half es) (2 ^ count)) ≡ true = grind (arith, nat_tests) in
    rw (passed, front, back, based, again, joined) refl
