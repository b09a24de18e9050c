-- Codes and the bits that they are.
use Rattle.std.proofs.Common.{◌≡◌, ℕ, ◌<◌, refl, sym, ap, ◌∙◌, arith}
use Rattle.fpc_codec.specs.declared.codes.Code.{Code}
use Rattle.fpc_codec.specs.declared.codes.Pattern.{Pattern}
use Rattle.fpc_codec.specs.declared.codes.Pattern.TheVariants.{ZeroRun, Signed4, Signed8, Signed16, PaddedHalf, TwoSignedBytes, RepeatedByte, Uncompressed}
use Rattle.fpc_codec.specs.Bits.{joined}
use Rattle.fpc_codec.specs.Codes.{prefix_of, payload_bits, run_of, IsCode, code_row}
use Rattle.fpc_codec.specs.Reading.{pattern_of}
use Rattle.fpc_codec.proofs.RowLemmas.{same_joined}

-- a pattern has its own prefix
pub pattern_of-prefix_of : (pattern : Pattern) → pattern_of (prefix_of pattern) ≡ pattern
unfolding prefix_of pattern_of
pattern_of-prefix_of ZeroRun = refl
pattern_of-prefix_of Signed4 = refl
pattern_of-prefix_of Signed8 = refl
pattern_of-prefix_of Signed16 = refl
pattern_of-prefix_of PaddedHalf = refl
pattern_of-prefix_of TwoSignedBytes = refl
pattern_of-prefix_of RepeatedByte = refl
pattern_of-prefix_of Uncompressed = refl

-- a prefix belongs to one pattern
pub same_pattern : (pattern other : Pattern) → prefix_of pattern ≡ prefix_of other → pattern ≡ other
same_pattern pattern other e = sym (pattern_of-prefix_of pattern) ∙ ap pattern_of e ∙ pattern_of-prefix_of other

pub prefix_of-lt : (pattern : Pattern) → prefix_of pattern < 8
unfolding prefix_of
prefix_of-lt ZeroRun = omega arith
prefix_of-lt Signed4 = omega arith
prefix_of-lt Signed8 = omega arith
prefix_of-lt Signed16 = omega arith
prefix_of-lt PaddedHalf = omega arith
prefix_of-lt TwoSignedBytes = omega arith
prefix_of-lt RepeatedByte = omega arith
prefix_of-lt Uncompressed = omega arith

-- codes of one pattern and one payload are one
pub same_code : (c d : Code) → c.pattern ≡ d.pattern → c.payload ≡ d.payload → c ≡ d
same_code c d p q =
    let make : Pattern → ℕ → Code = λ x y. record { pattern = x; payload = y } in
    ap (λ (x : Pattern). make x c.payload) p ∙ ap (λ (y : ℕ). make d.pattern y) q

-- a row of bits begins with one code at most
pub same_first : (c d : Code) (behind after : ℕ) → IsCode c → IsCode d → code_row c behind ≡ code_row d after → (c ≡ d) × (behind ≡ after)
same_first c d behind after c_is d_is e =
    let prefixes = same_joined 3 (prefix_of c.pattern) (prefix_of d.pattern)
    (joined (payload_bits c.pattern) c.payload behind) (joined (payload_bits d.pattern) d.payload after)
    (omega (arith, prefix_of-lt c.pattern)) (omega (arith, prefix_of-lt d.pattern)) e in
    let patterns = same_pattern c.pattern d.pattern prefixes.0 in
    let payloads = same_joined (payload_bits c.pattern) c.payload d.payload behind after c_is (rw patterns d_is) (prefixes.1 ∙ rw patterns refl) in
    (same_code c d patterns payloads.0, payloads.1)

-- a code has at least one word
pub run_of-pos : (pattern : Pattern) (n : ℕ) → 0 < run_of pattern n
unfolding run_of
run_of-pos ZeroRun n = omega arith
run_of-pos Signed4 n = omega arith
run_of-pos Signed8 n = omega arith
run_of-pos Signed16 n = omega arith
run_of-pos PaddedHalf n = omega arith
run_of-pos TwoSignedBytes n = omega arith
run_of-pos RepeatedByte n = omega arith
run_of-pos Uncompressed n = omega arith
