-- The lines of a buffer, and what is copied of each.
use Rattle.std.proofs.Common.{◌≡◌, ◌∙◌, ◌+◌, ◌-◌, ◌*◌, ◌<◌, ◌≤◌, ◌==◌, ◌&&◌, ◌%◌, ℕ, zero, suc, max, min, true, false, cond, List, [], ◌∷◌, ◌++◌, length, get_or, take, drop, nat_le, nat_lt, refl, sym, ap, arith, append_assoc, length-append, length-drop}
use Rattle.std.proofs.lemmas.Bool.Decides.{nat_tests}
use Rattle.std.proofs.Math.Seq.{drop-append_seam, set-append_seam, take-append_seam}
use Rattle.std.proofs.lemmas.List.{get_or-take, get_or-drop, length-take-le, take-append-drop}
use Rattle.rv_core.specs.Hart.{put}
use Rattle.hier_types.proofs.TableLemmas.{tabulate-by_index}
use Rattle.hier_types.specs.Span.{Span, Has, first, line_at}
use Rattle.sys_shim.specs.CallLines.{buffer_lines, lines_from}
use Rattle.sys_shim.specs.Copies.{CopiesLine}

-- the addresses of a line that lie in a buffer
pub same_bytes : (span : Span) (at count line k from to place : ℕ) → first span ≤ at → from ≡ max at (first span + line * 64) → to ≡ min (at + count) (first span + line * 64 + 64) → place ≤ max from to → to ≤ place → k < count → (nat_le from (at + k) && nat_lt (at + k) place) ≡ (line_at span (at + k) == line)
same_bytes span at count line k from to place low f t within over inside = grind (arith, nat_tests)

pub lines_more : (line last : ℕ) → line < last + 1 → lines_from line (last + 1 - line) ≡ line ∷ lines_from (line + 1) (last + 1 - (line + 1))
lines_more line last lt = let e : last + 1 - line ≡ suc (last + 1 - (line + 1)) = omega arith in ap (lines_from line) e

pub lines_none : (line last : ℕ) → last + 1 ≤ line → lines_from line (last + 1 - line) ≡ []
lines_none line last over = let e : last + 1 - line ≡ 0 = omega arith in ap (lines_from line) e

pub lines_of_buffer : (span : Span) (at count line last : ℕ) → 0 < count → line ≡ line_at span at → last ≡ line_at span (at + (count - 1)) → lines_from line (last + 1 - line) ≡ buffer_lines span at count
lines_of_buffer span at count line last some f l =
    let end : at + (count - 1) ≡ at + count - 1 = omega arith in
    rw (f, l, end) refl

-- what was copied of the lines so far, and of one more
pub copied_more : (span : Span) (bytes : List ℕ) (line at : ℕ) (old new : List ℕ) → CopiesLine span bytes line at old new
    → ((k : ℕ) → k < length old → line_at span (at + k) < line → get_or old k 0 ≡ get_or bytes (at + k - first span) 0)
    → (k : ℕ) → k < length new → line_at span (at + k) < line + 1 → get_or new k 0 ≡ get_or bytes (at + k - first span) 0
copied_more span bytes line at old new copies before k inside below =
    let inside_old : k < length old = omega (arith, copies.len) in
    copies.each k inside_old
    ∙ elim (line_at span (at + k) == line) as (λ b. (line_at span (at + k) == line) ≡ b → cond b (get_or bytes (at + k - first span) 0) (get_or old k 0) ≡ get_or bytes (at + k - first span) 0)
    [ true ↦ λ e. refl | false ↦ λ e. before k inside_old (grind (arith, nat_tests)) ] refl

-- a buffer with the right bytes at each place
pub part_by_index : (bytes into : List ℕ) (place count : ℕ) → length into ≡ count → place + count ≤ length bytes → ((k : ℕ) → k < count → get_or into k 0 ≡ get_or bytes (place + k) 0) → into ≡ take count (drop place bytes)
part_by_index bytes into place count len fits same =
    tabulate-by_index 0 (λ k. get_or bytes (place + k) 0) count into len same
    ∙ sym (tabulate-by_index 0 (λ k. get_or bytes (place + k) 0) count (take count (drop place bytes)) (length-take-le count (drop place bytes) (omega (arith, length-drop place bytes)))
    (λ k lt. get_or-take count (drop place bytes) k 0 lt ∙ get_or-drop place bytes k 0))

-- a byte of a buffer that lies within a line is in the span, and in the same line
pub in_line : (span : Span) (at k count : ℕ) → Has span at → at % 64 + count ≤ 64 → k < count → Has span (at + k)
in_line span at k count has within lt = (omega (arith, has.0), omega (arith, has.1))

pub same_line : (span : Span) (at k count : ℕ) → Has span at → at % 64 + count ≤ 64 → k < count → line_at span (at + k) ≡ line_at span at
same_line span at k count has within lt = omega (arith, has.0)

-- the bytes from a place on begin with the one there
pub drop_next : (bytes : List ℕ) (k : ℕ) → k < length bytes → drop k bytes ≡ get_or bytes k 0 ∷ drop (k + 1) bytes
drop_next [] k lt = absurd (omega arith)
drop_next (b ∷ bytes) zero lt = refl
drop_next (b ∷ bytes) (suc k) lt = let next : suc k + 1 ≡ suc (k + 1) = omega arith in rw next (drop_next bytes k (omega arith))

-- bytes that are put in place of as many
put_append : (got front mid back : List ℕ) → length mid ≡ length got → put (front ++ (mid ++ back)) (length front) got ≡ front ++ (got ++ back)
put_append [] front [] back e = refl
put_append [] front (m ∷ mid) back e = absurd (omega (arith, e))
put_append (b ∷ got) front [] back e = absurd (omega (arith, e))
put_append (b ∷ got) front (m ∷ mid) back e =
    let size : length (front ++ b ∷ []) ≡ length front + 1 = length-append front (b ∷ []) in
    let same : length mid ≡ length got = omega (arith, e) in
    ap (λ bytes. put bytes (length front + 1) got) (set-append_seam front m (mid ++ back) b ∙ sym (append_assoc front (b ∷ []) (mid ++ back)))
    ∙ ap (λ n. put ((front ++ b ∷ []) ++ (mid ++ back)) n got) (sym size)
    ∙ put_append got (front ++ b ∷ []) mid back same
    ∙ append_assoc front (b ∷ []) (got ++ back)

-- what was put stands there
pub part-put : (bytes got : List ℕ) (place : ℕ) → place + length got ≤ length bytes → take (length got) (drop place (put bytes place got)) ≡ got
part-put bytes got place fits =
    let front = take place bytes in
    let mid = take (length got) (drop place bytes) in
    let back = drop (length got) (drop place bytes) in
    let size : length front ≡ place = length-take-le place bytes (omega arith) in
    let count : length mid ≡ length got = length-take-le (length got) (drop place bytes) (omega (arith, length-drop place bytes)) in
    let parts : front ++ (mid ++ back) ≡ bytes = ap (λ rest. front ++ rest) (take-append-drop (length got) (drop place bytes)) ∙ take-append-drop place bytes in
    let all : put bytes place got ≡ front ++ (got ++ back) = ap (λ b. put b place got) (sym parts) ∙ ap (λ n. put (front ++ (mid ++ back)) n got) (sym size) ∙ put_append got front mid back count in
    ap (λ b. take (length got) (drop place b)) all ∙ ap (λ n. take (length got) (drop n (front ++ (got ++ back)))) (sym size) ∙ ap (take (length got)) (drop-append_seam front (got ++ back)) ∙ take-append_seam got back
