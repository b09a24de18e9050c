-- Strings that stand one behind the other.
use Rattle.std.proofs.Common.{◌≡◌, ◌<◌, ◌≤◌, ◌+◌, ◌-◌, ◌*◌, ℕ, zero, suc, List, [], ◌∷◌, ◌++◌, Some, length, sym, ap, ◌∙◌, subst, arith}
use Rattle.std.specs.List.{slice_get, remove}
use Rattle.std.proofs.lemmas.List.Sums.{sum_by-cons}
use Rattle.l2_segments.specs.declared.held.Held.{Held}
use Rattle.l2_segments.specs.Strings.{segments_of}
use Rattle.l2_segments.specs.Held.{segments_in, IsLaid}

pub segments_in-cons : (h : Held) (hs : List Held) → segments_in (h ∷ hs) ≡ segments_of h.len + segments_in hs
segments_in-cons h hs = sum_by-cons (λ (h : Held). segments_of h.len) h hs

-- they also stand from any lower segment on
pub laid_lower : (low from size : ℕ) (hs : List Held) → low ≤ from → IsLaid from size hs → IsLaid low size hs
laid_lower low from size [] le laid = omega arith
laid_lower low from size (h ∷ hs) le laid = let first = laid.0 in (omega arith, laid.1)

-- the bytes have room for what they take
pub laid_fits : (from size : ℕ) (hs : List Held) → IsLaid from size hs → 8 * (from + segments_in hs) ≤ size
laid_fits from size [] laid = omega arith
laid_fits from size (h ∷ hs) laid =
    let first = laid.0 in
    let rest = laid_fits (h.start + segments_of h.len) size hs laid.1 in
    let sum = segments_in-cons h hs in
    omega arith

-- those in front end where the others begin
pub laid-append : (from mid size : ℕ) (xs ys : List Held) → IsLaid from (8 * mid) xs → IsLaid mid size ys → IsLaid from size (xs ++ ys)
laid-append from mid size [] ys front rest = laid_lower from mid size ys (omega arith) rest
laid-append from mid size (h ∷ hs) ys front rest = (front.0, laid-append (h.start + segments_of h.len) mid size hs ys front.1 rest)

-- one more behind them
pub laid_more : (from start size : ℕ) (hs : List Held) (h : Held) → IsLaid from (8 * start) hs → start ≤ h.start → 8 * (h.start + segments_of h.len) ≤ size → IsLaid from size (hs ++ h ∷ [])
laid_more from start size hs h laid le fits = laid-append from start size hs (h ∷ []) laid (le, fits)

pub laid-remove : (from size i : ℕ) (hs : List Held) → i < length hs → IsLaid from size hs → IsLaid from size (remove hs i)
laid-remove from size i [] within laid = absurd (omega arith)
laid-remove from size zero (h ∷ hs) within laid = let first = laid.0 in laid_lower from (h.start + segments_of h.len) size hs (omega arith) laid.1
laid-remove from size (suc i) (h ∷ hs) within laid = (laid.0, laid-remove (h.start + segments_of h.len) size i hs (omega arith) laid.1)

-- the last one, where the others end
pub laid_last : (from size : ℕ) (hs : List Held) (h : Held) → slice_get hs (length hs - 1) ≡ Some h → IsLaid from size hs
    → IsLaid from (8 * (h.start + segments_of h.len)) hs × (8 * (h.start + segments_of h.len) ≤ size)
laid_last from size [] h is laid = absurd (let k = is in cc)
laid_last from size (y ∷ []) h is laid =
    let same : y ≡ h = cc in
    subst (λ (k : Held). IsLaid from (8 * (k.start + segments_of k.len)) (y ∷ []) × (8 * (k.start + segments_of k.len) ≤ size)) same ((laid.0, omega arith), laid.1)
laid_last from size (y ∷ z ∷ zs) h is laid =
    let here : length (y ∷ z ∷ zs) - 1 ≡ suc (length zs) = omega arith in
    let there : length (z ∷ zs) - 1 ≡ length zs = omega arith in
    let last = laid_last (y.start + segments_of y.len) size (z ∷ zs) h (ap (slice_get (z ∷ zs)) there ∙ sym (ap (slice_get (y ∷ z ∷ zs)) here) ∙ is) laid.1 in
    ((laid.0, last.0), last.1)
