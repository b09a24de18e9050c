-- The lines of one page among those of all.
use Rattle.std.proofs.Common.{◌≡◌, ◌≢◌, ◌<◌, ◌≤◌, ◌+◌, ◌-◌, ◌*◌, ◌/◌, ◌%◌, ◌∙◌, ℕ, Some, option_map, List, [], ◌++◌, length, set, take, drop, slice_get, inl, inr, sym, ap, arith, append_assoc, length-append, length-drop}
use Rattle.std.proofs.Math.Seq.{take-set-lt}
use Rattle.std.proofs.lemmas.Bool.{cases_lt}
use Rattle.std.proofs.lemmas.List.{take-append-drop, take_at, drop_at, take-append-le, drop-append-le, take-take, drop-take, take-set-le, drop-set-lt, drop-set-add, drop-drop, length-map, length-take-le}
use Rattle.std.proofs.lemmas.Option.{slice_get-map, slice_get-get_or, slice_get_within, same_Some}
use Rattle.hier_types.proofs.TableLemmas.{length-tabulate, get_or-tabulate}
use Rattle.hier_types.specs.declared.settings.Codec.{Codec}
use Rattle.page_plan.specs.PagePlan.{plan_of}
use Rattle.page_plan.specs.Pages.{page_of, pages_of, plans_of}
use Rattle.page_plan.specs.Pages.{with_page}

-- a write in the page
pub page_of-set : (lines : List (List ℕ)) (i : ℕ) (x : List ℕ) → page_of (set lines i x) (i / 64) ≡ set (page_of lines (i / 64)) (i % 64) x
page_of-set lines i x =
    let split : i ≡ 64 * (i / 64) + i % 64 = omega arith in
    ap (λ k. take 64 (drop (64 * (i / 64)) (set lines k x))) split ∙ ap (take 64) (drop-set-add (64 * (i / 64)) lines (i % 64) x)
    ∙ take-set-lt 64 (drop (64 * (i / 64)) lines) (i % 64) x (omega arith)

-- the parts of a list
pub three_parts : (lines : List (List ℕ)) (a b : ℕ) → take a lines ++ take b (drop a lines) ++ drop (a + b) lines ≡ lines
three_parts lines a b =
    append_assoc (take a lines) (take b (drop a lines)) (drop (a + b) lines) ∙ ap (λ xs. take a lines ++ (take b (drop a lines) ++ xs)) (sym (drop-drop b a lines))
    ∙ ap (λ xs. take a lines ++ xs) (take-append-drop b (drop a lines)) ∙ take-append-drop a lines

-- a write of one line is a change of its page
pub with_page-set : (lines : List (List ℕ)) (i : ℕ) (x : List ℕ) → with_page lines (i / 64) (page_of (set lines i x) (i / 64)) ≡ set lines i x
with_page-set lines i x =
    let before : take (64 * (i / 64)) (set lines i x) ≡ take (64 * (i / 64)) lines = take-set-le (64 * (i / 64)) lines i x (omega arith) in
    let after : drop (64 * (i / 64) + 64) (set lines i x) ≡ drop (64 * (i / 64) + 64) lines = drop-set-lt (64 * (i / 64) + 64) lines i x (omega arith) in
    ap (λ xs. xs ++ page_of (set lines i x) (i / 64) ++ drop (64 * (i / 64) + 64) lines) (sym before)
    ∙ ap (λ xs. take (64 * (i / 64)) (set lines i x) ++ page_of (set lines i x) (i / 64) ++ xs) (sym after)
    ∙ three_parts (set lines i x) (64 * (i / 64)) 64

module _ (lines : List (List ℕ)) (page : ℕ) (others : List (List ℕ)) (within : 64 * page + 64 ≤ length lines) (whole : length others ≡ 64) where
  front_length : length (take (64 * page) lines) ≡ 64 * page
  front_length = length-take-le (64 * page) lines (omega arith)

  grouped : with_page lines page others ≡ take (64 * page) lines ++ (others ++ drop (64 * page + 64) lines)
  grouped = append_assoc (take (64 * page) lines) others (drop (64 * page + 64) lines)

  fronts_length : length (take (64 * page) lines ++ others) ≡ 64 * page + 64
  fronts_length = length-append (take (64 * page) lines) others ∙ (let a = front_length in omega arith)

  pub length-with_page : length (with_page lines page others) ≡ length lines
  length-with_page =
      let a = fronts_length in
      length-append (take (64 * page) lines ++ others) (drop (64 * page + 64) lines) ∙ (let b = length-drop (64 * page + 64) lines in omega arith)

  -- the page that was changed
  pub page_of-with : page_of (with_page lines page others) page ≡ others
  page_of-with =
      ap (λ xs. take 64 (drop (64 * page) xs)) grouped
      ∙ ap (take 64) (drop_at (take (64 * page) lines) (others ++ drop (64 * page + 64) lines) (64 * page) front_length)
      ∙ take_at others (drop (64 * page + 64) lines) 64 whole

  -- a page before it
  page_before : (q : ℕ) → q < page → page_of (with_page lines page others) q ≡ page_of lines q
  page_before q lt =
      let short : 64 * q ≤ length (take (64 * page) lines) = omega (arith, front_length) in
      let room : 64 ≤ length (drop (64 * q) (take (64 * page) lines)) = omega (arith, front_length, length-drop (64 * q) (take (64 * page) lines)) in
      let gap : 64 * q + 64 ≤ 64 * page = omega arith in
      let rest : 64 * page ≡ 64 * q + (64 * page - 64 * q) = omega arith in
      ap (λ xs. take 64 (drop (64 * q) xs)) grouped
      ∙ ap (take 64) (drop-append-le (64 * q) (take (64 * page) lines) (others ++ drop (64 * page + 64) lines) short)
      ∙ take-append-le 64 (drop (64 * q) (take (64 * page) lines)) (others ++ drop (64 * page + 64) lines) room
      ∙ ap (λ n. take 64 (drop (64 * q) (take n lines))) rest ∙ ap (take 64) (drop-take (64 * q) (64 * page - 64 * q) lines)
      ∙ take-take 64 (64 * page - 64 * q) (drop (64 * q) lines) (omega arith)

  -- a page behind it
  page_behind : (q : ℕ) → page < q → page_of (with_page lines page others) q ≡ page_of lines q
  page_behind q lt =
      let split : 64 * q ≡ (64 * page + 64) + (64 * q - (64 * page + 64)) = omega arith in
      ap (λ n. take 64 (drop n (with_page lines page others))) split
      ∙ ap (take 64) (sym (drop-drop (64 * q - (64 * page + 64)) (64 * page + 64) (with_page lines page others)))
      ∙ ap (λ xs. take 64 (drop (64 * q - (64 * page + 64)) xs)) (drop_at (take (64 * page) lines ++ others) (drop (64 * page + 64) lines) (64 * page + 64) fronts_length)
      ∙ ap (take 64) (drop-drop (64 * q - (64 * page + 64)) (64 * page + 64) lines) ∙ ap (λ n. take 64 (drop n lines)) (sym split)

  -- any other page
  pub page_of-with_other : (q : ℕ) → q ≢ page → page_of (with_page lines page others) q ≡ page_of lines q
  page_of-with_other q ne = elim (cases_lt q page) [
    | inl before ↦ page_before q before
    | inr le ↦ page_behind q (omega arith)
  ]

-- all pages, by number
pub length-pages_of : (lines : List (List ℕ)) → length (pages_of lines) ≡ length lines / 64
length-pages_of lines = length-tabulate (page_of lines) (length lines / 64)

pub pages_of-get : (lines : List (List ℕ)) (page : ℕ) → page < length lines / 64 → slice_get (pages_of lines) page ≡ Some (page_of lines page)
pages_of-get lines page lt =
    let inside : page < length (pages_of lines) = omega (arith, length-pages_of lines) in
    slice_get-get_or (pages_of lines) page [] inside ∙ ap Some (get_or-tabulate [] (page_of lines) (length lines / 64) page lt)

-- a page of the list is the one of its number
pub pages_of-is : (lines : List (List ℕ)) (i : ℕ) (page : List (List ℕ)) → slice_get (pages_of lines) i ≡ Some page → page_of lines i ≡ page
pages_of-is lines i page e =
    let within : i < length lines / 64 = omega (arith, slice_get_within (pages_of lines) i page e, length-pages_of lines) in
    same_Some (page_of lines i) page (sym (pages_of-get lines i within) ∙ e)

-- their plans
pub length-plans_of : (codec : Codec) (lines : List (List ℕ)) → length (plans_of codec lines) ≡ length lines / 64
length-plans_of codec lines = length-map (pages_of lines) (plan_of codec) ∙ length-pages_of lines

pub plans_of-get : (codec : Codec) (lines : List (List ℕ)) (page : ℕ) → page < length lines / 64 → slice_get (plans_of codec lines) page ≡ Some (plan_of codec (page_of lines page))
plans_of-get codec lines page lt = slice_get-map (plan_of codec) (pages_of lines) page ∙ ap (λ o. option_map (plan_of codec) o) (pages_of-get lines page lt)
