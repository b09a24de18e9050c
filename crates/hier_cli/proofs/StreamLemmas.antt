-- A stream that takes bytes part by part.
use Rattle.std.proofs.Common.{◌≡◌, ◌∙◌, ℕ, ◌+◌, ◌-◌, ◌≤◌, List, Option, length, take, drop, sym, ap, arith, subst}
use Rattle.std.proofs.KnownBytes.{Appends-trans}
use Rattle.std.proofs.Math.Seq.{take-add, take-length}
use Rattle.std.proofs.lemmas.List.{length-drop}
use Rattle.std.specs.Io.KnownBytes.{Appends}

-- all that is behind a place
rest_of : (bytes : List ℕ) (count : ℕ) → take (length bytes - count) (drop count bytes) ≡ drop count bytes
rest_of bytes count = ap (λ n. take n (drop count bytes)) (sym (length-drop count bytes)) ∙ take-length (drop count bytes)

-- a part of what is behind a place ends within the bytes
pub part_within : (bytes : List ℕ) (count more : ℕ) → count ≤ length bytes → more ≤ length (take (length bytes - count) (drop count bytes)) → count + more ≤ length bytes
part_within bytes count more within part =
    let size : length (take (length bytes - count) (drop count bytes)) ≡ length bytes - count = ap length (rest_of bytes count) ∙ length-drop count bytes in
    omega (arith, size, part, within)

-- the next part went behind the first
pub went_on : (a b c : Option (List ℕ)) (bytes : List ℕ) (count more : ℕ) → Appends a b (take count bytes) → Appends b c (take more (take (length bytes - count) (drop count bytes))) → Appends a c (take (count + more) bytes)
went_on a b c bytes count more before now =
    let part : Appends b c (take more (drop count bytes)) = subst (λ xs. Appends b c (take more xs)) (rest_of bytes count) now in
    subst (λ xs. Appends a c xs) (sym (take-add count more bytes)) (Appends-trans a b c (take count bytes) (take more (drop count bytes)) before part)
