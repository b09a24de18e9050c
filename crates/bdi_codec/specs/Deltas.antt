-- Elements kept as small numbers, or as small differences from one base (Pekhimenko et al., "Base-Delta-Immediate
-- Compression", PACT 2012). An element is one of `values` numbers; read as two's complement, a delta is one of the
-- numbers from minus `half` to `half` minus 1. `width` and `delta` are the bytes of an element and of a delta.
use Rattle.std.specs.Prelude.{ℕ, ◌+◌, ◌-◌, ◌*◌, ◌/◌, ◌%◌, ◌^◌, List, [], ◌∷◌, ◌++◌, Bool, ◌||◌, ◌&&◌, ◌==◌, not, nat_lt, nat_le, if◌then◌else◌, unwrap_or, take, drop, find, length, Option, Some, None}
use Rattle.std.specs.List.{list_all, flat_map}
use Rattle.bdi_codec.specs.Bytes.{number_of, bytes_of, elements}

-- read as two's complement, the element is a delta
unfoldable pub is_small : ℕ → ℕ → ℕ → Bool
is_small values half n = nat_lt n half || nat_le values (n + half)

-- the element minus the base, modulo `values`
unfoldable pub difference : ℕ → ℕ → ℕ → ℕ
difference values n base = (n + (values - base)) % values

-- the first element that is not small, or 0 where all are
abbrev pub base_of : ℕ → ℕ → List ℕ → ℕ
base_of values half es = unwrap_or (find (λ n. not (is_small values half n)) es) 0

-- the element is small, or its difference from the base is
unfoldable pub is_near : ℕ → ℕ → ℕ → ℕ → Bool
is_near values half base n = is_small values half n || is_small values half (difference values n base)

-- each element is small or near the base
abbrev pub are_near : ℕ → ℕ → List ℕ → Bool
are_near values half es = list_all (is_near values half (base_of values half es)) es

-- what is kept of an element: itself where it is small, else its difference from the base
unfoldable pub delta_of : ℕ → ℕ → ℕ → ℕ → ℕ
delta_of values half base n = if is_small values half n then n else difference values n base

-- bit i is 1 where element i is not small
abbrev pub mask_of : ℕ → ℕ → List ℕ → ℕ
mask_of values half [] = 0
mask_of values half (n ∷ ns) = (if is_small values half n then 0 else 1) + 2 * mask_of values half ns

-- a delta that was cut to its low bytes, extended by its sign to an element
unfoldable pub sign_extended : ℕ → ℕ → ℕ → ℕ
sign_extended values half low = if nat_lt low half then low else low + (values - 2 * half)

-- the element that a delta says, on top of the base where `bit` is 1
unfoldable pub restored : ℕ → ℕ → ℕ → ℕ → ℕ → ℕ
restored values half base bit low = (sign_extended values half low + bit * base) % values

-- the elements that the deltas say, each with its bit of the mask
abbrev pub restored_all : ℕ → ℕ → ℕ → ℕ → List ℕ → List ℕ
restored_all values half base mask [] = []
restored_all values half base mask (low ∷ lows) =
    restored values half base (mask % 2) low ∷ restored_all values half base (mask / 2) lows

-- the line can be kept as a base and deltas
unfoldable pub deltas_apply : ℕ → ℕ → List ℕ → Bool
deltas_apply width delta line = are_near (256 ^ width) (256 ^ delta / 2) (elements width (64 / width) line)

-- the mask of the line's elements
unfoldable pub deltas_mask : ℕ → ℕ → List ℕ → ℕ
deltas_mask width delta line = mask_of (256 ^ width) (256 ^ delta / 2) (elements width (64 / width) line)

-- the base, then the low bytes of each element's delta
unfoldable pub deltas_payload : ℕ → ℕ → List ℕ → List ℕ
deltas_payload width delta line =
    let values = 256 ^ width in
    let half = 256 ^ delta / 2 in
    let es = elements width (64 / width) line in
    let base = base_of values half es in
    bytes_of width base ++ flat_map (λ n. bytes_of delta (delta_of values half base n)) es

-- the line that a base, deltas and a mask add up to; None where the payload has another length, or the mask a bit beyond the elements
unfoldable pub deltas_meaning : ℕ → ℕ → ℕ → List ℕ → Option (List ℕ)
deltas_meaning width delta mask payload =
    let count = 64 / width in
    let base = number_of (take width payload) in
    let lows = elements delta count (drop width payload) in
    if length payload == width + delta * count && nat_lt mask (2 ^ count)
    then Some (flat_map (bytes_of width) (restored_all (256 ^ width) (256 ^ delta / 2) base mask lows))
    else None
