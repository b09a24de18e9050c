-- Rows of bits.
use Rattle.std.proofs.Common.{◌≡◌, ℕ, suc, ◌+◌, ◌*◌, ◌/◌, ◌%◌, ◌^◌, ◌<◌, ◌≤◌, [], ◌∷◌, refl, arith}
use Rattle.std.proofs.Math.Nat.{pow-le-pow_right, mod-eq_of_lt}
use Rattle.std.proofs.lemmas.Nat.{pow-add, shr_split, same_from_place}
use Rattle.fpc_codec.specs.Bits.{bytes_of, joined}

-- bits behind bits
pub joined-joined : (a p w n behind : ℕ) → joined (a + w) (p + n * 2 ^ a) behind ≡ joined a p (joined w n behind)
unfolding joined
joined-joined a p w n behind =
    let e : 2 ^ (a + w) ≡ 2 ^ a * 2 ^ w = pow-add 2 a w in
    rw e (grind arith)

pub front-lt : (a p w n : ℕ) → p < 2 ^ a → n < 2 ^ w → p + n * 2 ^ a < 2 ^ (a + w)
front-lt a p w n p_in n_in =
    let e : 2 ^ (a + w) ≡ 2 ^ a * 2 ^ w = pow-add 2 a w in
    rw e (grind arith)

-- a byte of the bits
pub bytes_of-joined : (k j c count pending behind : ℕ) → j ≡ suc k → count ≡ 8 + c
    → bytes_of j (joined count pending behind) ≡ pending % 256 ∷ bytes_of k (joined c (pending / 256) behind)
unfolding bytes_of joined
bytes_of-joined k j c count pending behind ej e =
    let p : 2 ^ (8 + c) ≡ 256 * 2 ^ c = pow-add 2 8 c in
    let split : pending ≡ 256 * (pending / 256) + pending % 256 = omega arith in
    let low : (pending + 256 * 2 ^ c * behind) % 256 ≡ pending % 256 = omega arith in
    let high : (pending + 256 * 2 ^ c * behind) / 256 ≡ pending / 256 + 2 ^ c * behind = omega arith in
    rw (ej, e, p, low, high) refl

-- the first bits of the bits
pub joined-front : (w c count pending behind : ℕ) → count ≡ w + c
    → joined count pending behind ≡ joined w (pending % 2 ^ w) (joined c (pending / 2 ^ w) behind)
unfolding joined
joined-front w c count pending behind e =
    let p : 2 ^ (w + c) ≡ 2 ^ w * 2 ^ c = pow-add 2 w c in
    let split = shr_split pending w in
    rw (e, p) (grind arith)

-- two ways to cut off the first bits are one
pub same_joined : (w a b m n : ℕ) → a < 2 ^ w → b < 2 ^ w → joined w a m ≡ joined w b n → (a ≡ b) × (m ≡ n)
unfolding joined
same_joined w a b m n a_in b_in e =
    let parts = same_from_place m a n b (2 ^ w) a_in b_in (omega (arith, e)) in
    (parts.1, parts.0)

pub joined-zero : (behind : ℕ) → joined 0 0 behind ≡ behind
unfolding joined
joined-zero behind = omega arith

pub joined-lt : (w a k m : ℕ) → a < 2 ^ w → m < 2 ^ k → joined w a m < 2 ^ (w + k)
unfolding joined
joined-lt w a k m a_in m_in =
    let e : 2 ^ (w + k) ≡ 2 ^ w * 2 ^ k = pow-add 2 w k in
    rw e (grind arith)

-- the bits of a last byte that is not full
pub bytes_of-part : (count pending : ℕ) → 0 < count → count < 8 → pending < 2 ^ count → bytes_of ((count + 7) / 8) pending ≡ pending ∷ []
unfolding bytes_of
bytes_of-part count pending some few below =
    let one : (count + 7) / 8 ≡ suc 0 = omega arith in
    let top : 2 ^ count ≤ 2 ^ 7 = pow-le-pow_right {n = 2} (omega arith) {i = count} {j = 7} (omega arith) in
    let low : pending % 256 ≡ pending = mod-eq_of_lt (omega arith) in
    rw (one, low) refl

pub bytes_of-nothing : (count pending : ℕ) → count ≤ 0 → bytes_of ((count + 7) / 8) pending ≡ []
unfolding bytes_of
bytes_of-nothing count pending none =
    let no : (count + 7) / 8 ≡ 0 = omega arith in
    rw no refl
