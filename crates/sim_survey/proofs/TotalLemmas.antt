-- What pages take, page by page, and what a memory takes.
use Rattle.std.proofs.Common.{◌≡◌, ◌≤◌, ◌*◌, ◌/◌, ◌∙◌, ℕ, List, [], ◌∷◌, length, map, refl, sym, ap, arith}
use Rattle.std.specs.List.{range_with_len}
use Rattle.std.proofs.lemmas.List.{length-map}
use Rattle.std.proofs.lemmas.List.FromFn.{length-map-range_with_len, get_or-map-range_with_len}
use Rattle.hier_types.specs.declared.settings.Codec.{Codec}
use Rattle.hier_types.proofs.TableLemmas.{tabulate-by_index, length-tabulate}
use Rattle.hier_types.specs.Tabulate.{tabulate}
use Rattle.page_plan.specs.Pages.{page_of, pages_of}
use Rattle.page_plan.specs.Sizes.{row_of, sizes_of_memory}
use Rattle.size_ledger.specs.Shares.{totals_of}
use Rattle.sim_survey.specs.Filled.{page_count, line_at, lines_of_filled}

map-map : {A B C : Type 0} (g : B → C) (f : A → B) (xs : List A) → map g (map f xs) ≡ map (λ x. g (f x)) xs
map-map g f [] = refl
map-map g f (x ∷ xs) = ap (λ ys. g (f x) ∷ ys) (map-map g f xs)

-- the rows of pages
pub rows_few : (codec : Codec) (bytes : List ℕ) → length bytes ≤ 67108864 → length (map (row_of codec) (pages_of (lines_of_filled bytes))) ≤ 16384
rows_few codec bytes few =
    let lines = lines_of_filled bytes in
    let long = length-tabulate (λ line. line_at bytes (64 * line)) (64 * page_count (length bytes)) in
    let pages = length-tabulate (page_of lines) (length lines / 64) in
    omega (arith, length-map (pages_of lines) (row_of codec), long, pages, few)

-- row by row, by the numbers of the pages
pub rows_of_range : (codec : Codec) (bytes : List ℕ)
    → map (λ page. row_of codec (page_of (lines_of_filled bytes) page)) (range_with_len 0 (page_count (length bytes))) ≡ map (row_of codec) (pages_of (lines_of_filled bytes))
rows_of_range codec bytes =
    let lines = lines_of_filled bytes in
    let n = page_count (length bytes) in
    let long = length-tabulate (λ line. line_at bytes (64 * line)) (64 * n) in
    let count : n ≡ length lines / 64 = omega (arith, long) in
    sym (map-map (row_of codec) (page_of lines) (range_with_len 0 n))
    ∙ ap (map (row_of codec)) (tabulate-by_index [] (page_of lines) n (map (page_of lines) (range_with_len 0 n)) (length-map-range_with_len (page_of lines) 0 n)
    (λ k lt. get_or-map-range_with_len (page_of lines) 0 n k k [] lt (omega arith)))
    ∙ ap (λ m. map (row_of codec) (tabulate (page_of lines) m)) count

-- and their totals
pub totals_are : (codec : Codec) (lines : List (List ℕ)) → totals_of (map (row_of codec) (pages_of lines)) ≡ sizes_of_memory codec lines
unfolding sizes_of_memory
totals_are codec lines = refl
