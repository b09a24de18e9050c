-- Lines and pages of bytes that are filled with zeros.
use Rattle.std.proofs.Common.{◌≡◌, ◌<◌, ◌≤◌, ◌+◌, ◌-◌, ◌*◌, ◌∙◌, ℕ, List, [], ◌++◌, length, take, drop, get_or, min, refl, inl, inr, sym, ap, arith, length-append, length-drop}
use Rattle.std.specs.Prelude.{replicate}
use Rattle.std.proofs.lemmas.Bool.{cases_lt}
use Rattle.std.proofs.lemmas.List.{get_or-take, get_or_append_left, get_or-append_right, get_or-replicate, get_or_past, length-take-le}
use Rattle.std.proofs.Common.{get_or-drop}
use Rattle.hier_types.proofs.TableLemmas.{tabulate-by_index, part-tabulate}
use Rattle.hier_types.specs.Tabulate.{tabulate}
use Rattle.page_plan.specs.Pages.{page_of}
use Rattle.sim_survey.specs.Filled.{page_count, line_at, lines_of_filled}

-- a line past the end
pub past_end : (bytes : List ℕ) (first : ℕ) → length bytes ≤ first → replicate 64 0 ≡ line_at bytes first
past_end bytes first past =
    tabulate-by_index 0 (λ place. get_or bytes (first + place) 0) 64 (replicate 64 0) refl (λ k lt.
    get_or-replicate 64 k 0 0 lt ∙ sym (get_or_past bytes (first + k) 0 (omega arith)))

-- a line that begins before it
pub line_from_part : (bytes : List ℕ) (first count : ℕ) (front : List ℕ) → first < length bytes → count ≡ min (length bytes - first) 64
    → front ≡ take count (drop first bytes) → front ++ drop count (replicate 64 0) ≡ line_at bytes first
line_from_part bytes first count front inside counted copied =
    let zeros : List ℕ = drop count (replicate 64 0) in
    let rest : length (drop first bytes) ≡ length bytes - first = length-drop first bytes in
    let long : length front ≡ count = ap length copied ∙ length-take-le count (drop first bytes) (omega arith) in
    let short : length zeros ≡ 64 - count = length-drop count (replicate 64 0) in
    tabulate-by_index 0 (λ place. get_or bytes (first + place) 0) 64 (front ++ zeros) (omega (arith, length-append front zeros)) (λ k lt.
    elim (cases_lt k count) [
      | inl before ↦
          get_or_append_left front zeros 0 k (omega arith) ∙ ap (λ xs. get_or xs k 0) copied ∙ get_or-take count (drop first bytes) k 0 before
          ∙ get_or-drop first bytes k 0
      | inr behind ↦
          let at : count + (k - count) ≡ k = omega arith in
          get_or-append_right front zeros count k 0 long behind ∙ get_or-drop count (replicate 64 0) (k - count) 0
          ∙ ap (λ n. get_or (replicate 64 0) n 0) at ∙ get_or-replicate 64 k 0 0 lt ∙ sym (get_or_past bytes (first + k) 0 (omega arith))
    ])

-- the lines of one page
pub page_is : (bytes : List ℕ) (page : ℕ) (lines : List (List ℕ)) → page < page_count (length bytes) → length lines ≡ 64
    → ((k : ℕ) → k < 64 → get_or lines k [] ≡ line_at bytes (4096 * page + 64 * k)) → lines ≡ page_of (lines_of_filled bytes) page
page_is bytes page lines inside whole copied =
    let f : ℕ → List ℕ = λ line. line_at bytes (64 * line) in
    let rest = 64 * page_count (length bytes) - 64 * page - 64 in
    let all : 64 * page + (64 + rest) ≡ 64 * page_count (length bytes) = omega arith in
    tabulate-by_index [] (λ j. f (64 * page + j)) 64 lines whole (λ k lt.
    let place : 4096 * page + 64 * k ≡ 64 * (64 * page + k) = omega arith in
    copied k lt ∙ ap (line_at bytes) place)
    ∙ sym (part-tabulate f (64 * page) 64 rest) ∙ ap (λ n. take 64 (drop (64 * page) (tabulate f n))) all
