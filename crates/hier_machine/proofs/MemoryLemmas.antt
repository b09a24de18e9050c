-- The lines of a memory, page by page and through levels that keep no line.
use Rattle.std.proofs.Common.{◌≡◌, ℕ, zero, suc, ◌+◌, ◌*◌, ◌%◌, List, [], ◌∷◌, ◌++◌, length, take, drop, replicate, Option, Some, None, slice_get, is_some, refl, sym, ◌∙◌, ap, arith}
use Rattle.std.proofs.Math.Seq.{take-add}
use Rattle.std.proofs.lemmas.List.{drop-drop, replicate-append-replicate}
use Rattle.hier_types.specs.Lines.{AreLines, flatten, zero_line}
use Rattle.hier_types.specs.declared.settings.Settings.{Settings}
use Rattle.hier_types.proofs.LineLemmas.{line_of_flatten}
use Rattle.recency.specs.declared.entry.Entry.{Entry}
use Rattle.recency.specs.Kept.{Kept}
use Rattle.recency.specs.Levels.{KeepsUnder, kept_of, overlay, overlay_from, set_at}
use Rattle.page_store.specs.Store.{Store, fresh}
use Rattle.hier_machine.specs.Memory.{guest_bytes, guest_lines, lines_below}
use Rattle.hier_machine.specs.Start.{asked_sizing, start_memory}

-- one line more of a page
pub next_line : (lines : List (List ℕ)) (page index : ℕ) (line : List ℕ) → AreLines lines → slice_get lines (64 * page + index) ≡ Some line
    → take (64 * index) (drop (4096 * page) (flatten lines)) ++ line ≡ take (64 * (index + 1)) (drop (4096 * page) (flatten lines))
next_line lines page index line whole at =
    let memory = flatten lines in
    let rest = drop (4096 * page) memory in
    let size : 64 * (index + 1) ≡ 64 * index + 64 = omega arith in
    let place : 4096 * page + 64 * index ≡ 64 * (64 * page + index) = omega arith in
    let here : take 64 (drop (64 * index) rest) ≡ line =
    ap (take 64) (drop-drop (64 * index) (4096 * page) memory ∙ ap (λ n. drop n memory) place) ∙ line_of_flatten lines (64 * page + index) line whole at in
    ap (λ l. take (64 * index) rest ++ l) (sym here) ∙ sym (take-add (64 * index) 64 rest) ∙ ap (λ n. take n rest) (sym size)

overlay_from_none : (kept : ℕ → Option Entry) (i : ℕ) (lines : List (List ℕ)) → ((j : ℕ) → kept j ≡ None) → overlay_from kept i lines ≡ lines
overlay_from_none kept i [] none = refl
overlay_from_none kept i (bytes ∷ lines) none = rw (none i) (ap (λ rest. bytes ∷ rest) (overlay_from_none kept (suc i) lines none))

-- a set that keeps no line
abbrev pub empty_set : ℕ → Kept
empty_set ways = record { ways = ways; lines = [] }

empty_at : (n ways i : ℕ) → (set_at (replicate n (empty_set ways)) i).lines ≡ []
empty_at zero ways i = refl
empty_at (suc n) ways zero = refl
empty_at (suc n) ways (suc i) = empty_at n ways i

kept_none : (n ways line : ℕ) → kept_of (replicate n (empty_set ways)) line ≡ None
kept_none n ways line = rw (empty_at n ways (line % length (replicate n (empty_set ways)))) refl

-- over sets that keep no line the lines are those below
pub overlay_none : (lines : List (List ℕ)) (n ways : ℕ) → overlay lines (replicate n (empty_set ways)) ≡ lines
overlay_none lines n ways = overlay_from_none (kept_of (replicate n (empty_set ways))) 0 lines (kept_none n ways)

-- sets that keep no line fit any lines of the same number
pub keeps_none : (n ways : ℕ) (old new : List (List ℕ)) → length new ≡ length old → KeepsUnder (replicate n (empty_set ways)) old new
keeps_none n ways old new len = record {
  len = len;
  kept = λ line some. absurd (let none = ap is_some (kept_none n ways line) in cc);
}

-- the lines of a memory that no level keeps a line of
pub start_lines : (settings : Settings) (store : Store) → guest_lines (start_memory settings store) ≡ store.lines
start_lines settings store =
    overlay_none (lines_below (start_memory settings store).below) settings.l1_sets settings.l1_ways ∙ overlay_none store.lines settings.l2_sets (2 * settings.l2_ways)

flatten_zeros : (n : ℕ) → flatten (replicate n zero_line) ≡ replicate (64 * n) 0
flatten_zeros zero = refl
flatten_zeros (suc n) =
    let size : 64 + 64 * n ≡ 64 * suc n = omega arith in
    ap (λ rest. zero_line ++ rest) (flatten_zeros n) ∙ replicate-append-replicate 64 (64 * n) 0 ∙ ap (λ k. replicate k 0) size

-- the bytes of a memory over a fresh store
pub start_bytes : (settings : Settings) → guest_bytes (start_memory settings (fresh (asked_sizing settings) settings.geometry.pages)) ≡ replicate (4096 * settings.geometry.pages) 0
start_bytes settings =
    let pages = settings.geometry.pages in
    let size : 64 * (64 * pages) ≡ 4096 * pages = omega arith in
    ap flatten (start_lines settings (fresh (asked_sizing settings) pages)) ∙ flatten_zeros (64 * pages) ∙ ap (λ k. replicate k 0) size
