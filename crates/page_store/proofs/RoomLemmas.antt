-- The lines of all pages, and one page of them that is filled.
use Rattle.std.proofs.Common.{◌≡◌, ◌≢◌, ◌<◌, ◌≤◌, ◌+◌, ◌-◌, ◌*◌, ◌/◌, ◌%◌, ◌∙◌, ℕ, Some, List, [], ◌++◌, length, get_or, set, take, drop, slice_get, sym, ap, subst, inl, inr, arith}
use Rattle.std.proofs.lemmas.Bool.{cases_eq, cases_lt}
use Rattle.std.proofs.lemmas.List.{get_or-set_same, get_or-set_other, get_or-map, get_or-append_right, get_or_append_left, get_or-take, get_or-drop, length-append, length-drop, length-map, length-set, length-take-le, map-set, same_lists}
use Rattle.std.proofs.lemmas.Option.{slice_get-get_or}
use Rattle.byte_parts.proofs.PartLemmas.{part_stays}
use Rattle.hier_types.specs.declared.settings.Codec.{Codec}
use Rattle.hier_types.proofs.TableLemmas.{length-tabulate, get_or-tabulate, tabulate-by_index}
use Rattle.page_plan.specs.Pages.{page_of, with_page}
use Rattle.page_plan.proofs.PageLemmas.{length-with_page}
use Rattle.page_slots.specs.declared.desc.Desc.{Desc}
use Rattle.page_slots.specs.declared.desc.Shape.TheVariants.{Zero}
use Rattle.page_slots.specs.Descs.{line_of, content_of, size_of}
use Rattle.page_store.specs.declared.room.Held.{Held}
use Rattle.page_store.specs.Rooms.{held_of, helds, start_of, bytes_of, held_at, bytes_at, all_bytes, all_lines, IsWithin, Fills}
use Rattle.page_store.specs.Store.{desc_at}

abbrev zero_held : Held
zero_held = record { shape = Zero; unit = 0 }

-- how a page is kept, before and after one is kept otherwise
pub helds_at : (ds : List Desc) (page : ℕ) → page < length ds → held_at (helds ds) page ≡ held_of (desc_at ds page)
helds_at ds page within = get_or-map held_of ds page _ _ within

pub helds_set : (ds : List Desc) (page : ℕ) (d : Desc) → helds (set ds page d) ≡ set (helds ds) page (held_of d)
helds_set ds page d = map-set held_of ds page d

pub length-helds : (ds : List Desc) → length (helds ds) ≡ length ds
length-helds ds = length-map ds held_of

held_same : (pages : List Held) (page : ℕ) (held : Held) → page < length pages → held_at (set pages page held) page ≡ held
held_same pages page held within = get_or-set_same pages page held (record { shape = Zero; unit = 0 }) within

held_other : (pages : List Held) (page q : ℕ) (held : Held) → q ≢ page → held_at (set pages page held) q ≡ held_at pages q
held_other pages page q held ne = get_or-set_other pages page q held (record { shape = Zero; unit = 0 }) ne

-- the bytes of a page
pub bytes_at_all : (memory : List ℕ) (pages : List Held) (q : ℕ) → q < length pages → bytes_at (all_bytes memory pages) q ≡ bytes_of memory (held_at pages q)
bytes_at_all memory pages q within = get_or-map (bytes_of memory) pages q (record { shape = Zero; unit = 0 }) [] within

pub length-all_lines : (pages : List Held) (bytes : List (List ℕ)) → length (all_lines pages bytes) ≡ 64 * length pages
length-all_lines pages bytes = length-tabulate (λ n. line_of (held_at pages (n / 64)).shape (bytes_at bytes (n / 64)) (n % 64)) (64 * length pages)

-- line i of a page among all lines
pub line_at : (pages : List Held) (bytes : List (List ℕ)) (q i : ℕ) → q < length pages → i < 64
    → get_or (all_lines pages bytes) (64 * q + i) [] ≡ line_of (held_at pages q).shape (bytes_at bytes q) i
line_at pages bytes q i within i_in =
    let high : (64 * q + i) / 64 ≡ q = omega arith in
    let low : (64 * q + i) % 64 ≡ i = omega arith in
    get_or-tabulate [] (λ n. line_of (held_at pages (n / 64)).shape (bytes_at bytes (n / 64)) (n % 64)) (64 * length pages) (64 * q + i) (omega arith)
    ∙ ap (λ (p : ℕ). line_of (held_at pages p).shape (bytes_at bytes p) ((64 * q + i) % 64)) high
    ∙ ap (λ (j : ℕ). line_of (held_at pages q).shape (bytes_at bytes q) j) low

pub line_read : (memory : List ℕ) (pages : List Held) (q i : ℕ) → q < length pages → i < 64
    → slice_get (all_lines pages (all_bytes memory pages)) (64 * q + i) ≡ Some (line_of (held_at pages q).shape (bytes_of memory (held_at pages q)) i)
line_read memory pages q i within i_in =
    let long = length-all_lines pages (all_bytes memory pages) in
    slice_get-get_or (all_lines pages (all_bytes memory pages)) (64 * q + i) [] (omega arith)
    ∙ ap Some (line_at pages (all_bytes memory pages) q i within i_in ∙ ap (λ (b : List ℕ). line_of (held_at pages q).shape b i) (bytes_at_all memory pages q within))

-- an element of one page of a list
get_or-page_of : (lines : List (List ℕ)) (q i : ℕ) → i < 64 → get_or (page_of lines q) i [] ≡ get_or lines (64 * q + i) []
get_or-page_of lines q i i_in = get_or-take 64 (drop (64 * q) lines) i [] i_in ∙ get_or-drop (64 * q) lines i []

pub length-page_of : (lines : List (List ℕ)) (q : ℕ) → 64 * q + 64 ≤ length lines → length (page_of lines q) ≡ 64
length-page_of lines q within = length-take-le 64 (drop (64 * q) lines) (omega (arith, length-drop (64 * q) lines))

-- the lines of one page among all lines
pub page_of_all : (pages : List Held) (bytes : List (List ℕ)) (q : ℕ) → q < length pages → page_of (all_lines pages bytes) q ≡ content_of (held_at pages q).shape (bytes_at bytes q)
page_of_all pages bytes q within =
    let long = length-all_lines pages bytes in
    tabulate-by_index [] (line_of (held_at pages q).shape (bytes_at bytes q)) 64 (page_of (all_lines pages bytes) q) (length-page_of (all_lines pages bytes) q (omega arith))
    (λ i i_in. get_or-page_of (all_lines pages bytes) q i i_in ∙ line_at pages bytes q i within i_in)

-- an element of a list in which the lines of one page were changed
module _ (lines : List (List ℕ)) (page : ℕ) (others : List (List ℕ)) (within : 64 * page + 64 ≤ length lines) (whole : length others ≡ 64) where
  front : length (take (64 * page) lines) ≡ 64 * page
  front = length-take-le (64 * page) lines (omega arith)

  fronts : length (take (64 * page) lines ++ others) ≡ 64 * page + 64
  fronts = length-append (take (64 * page) lines) others ∙ (let a = front in omega arith)

  with_page_same : (i : ℕ) → i < 64 → get_or (with_page lines page others) (64 * page + i) [] ≡ get_or others i []
  with_page_same i i_in =
      let a = fronts in
      let low : 64 * page + i < length (take (64 * page) lines ++ others) = omega arith in
      get_or_append_left (take (64 * page) lines ++ others) (drop (64 * page + 64) lines) [] (64 * page + i) low
      ∙ get_or-append_right (take (64 * page) lines) others (64 * page) (64 * page + i) [] front (omega arith) ∙ ap (λ (j : ℕ). get_or others j []) (omega arith)

  with_page_other : (q i : ℕ) → i < 64 → q ≢ page → get_or (with_page lines page others) (64 * q + i) [] ≡ get_or lines (64 * q + i) []
  with_page_other q i i_in ne =
      let a = fronts in
      let b = front in
      elim (cases_lt q page) [
        | inl before ↦
            let gap : 64 * q + i < 64 * page = omega arith in
            get_or_append_left (take (64 * page) lines ++ others) (drop (64 * page + 64) lines) [] (64 * q + i) (omega arith)
            ∙ get_or_append_left (take (64 * page) lines) others [] (64 * q + i) (omega arith) ∙ get_or-take (64 * page) lines (64 * q + i) [] gap
        | inr le ↦
            let gap : 64 * page + 64 ≤ 64 * q + i = omega arith in
            get_or-append_right (take (64 * page) lines ++ others) (drop (64 * page + 64) lines) (64 * page + 64) (64 * q + i) [] fronts gap
            ∙ get_or-drop (64 * page + 64) lines (64 * q + i - (64 * page + 64)) [] ∙ ap (λ (j : ℕ). get_or lines j []) (omega arith)
      ]

-- a list whose elements are those of all lines
lines_by : (pages : List Held) (bytes xs : List (List ℕ)) → length xs ≡ 64 * length pages
    → ((q i : ℕ) → q < length pages → i < 64 → get_or xs (64 * q + i) [] ≡ line_of (held_at pages q).shape (bytes_at bytes q) i) → all_lines pages bytes ≡ xs
lines_by pages bytes xs long same =
    sym (tabulate-by_index [] (λ n. line_of (held_at pages (n / 64)).shape (bytes_at bytes (n / 64)) (n % 64)) (64 * length pages) xs long
    (λ k lt.
    let split : 64 * (k / 64) + k % 64 ≡ k = omega arith in
    ap (λ (n : ℕ). get_or xs n []) (sym split) ∙ same (k / 64) (k % 64) (omega arith) (omega arith)))

-- all lines after one page was kept otherwise, with these bytes
pub lines_after : (pages : List Held) (bytes : List (List ℕ)) (page : ℕ) (held : Held) (own : List ℕ) → page < length pages → length bytes ≡ length pages
    → all_lines (set pages page held) (set bytes page own) ≡ with_page (all_lines pages bytes) page (content_of held.shape own)
lines_after pages bytes page held own within paged =
    let olds = all_lines pages bytes in
    let size : length (set pages page held) ≡ length pages = length-set pages page held in
    let long = length-all_lines pages bytes in
    let whole : length (content_of held.shape own) ≡ 64 = length-tabulate (line_of held.shape own) 64 in
    let inside : 64 * page + 64 ≤ length olds = omega arith in
    lines_by (set pages page held) (set bytes page own) (with_page olds page (content_of held.shape own))
    (length-with_page olds page (content_of held.shape own) inside whole ∙ long ∙ ap (λ (n : ℕ). 64 * n) (sym size))
    (λ q i q_in i_in. elim (cases_eq q page) [
      | inl e ↦
          let at : get_or (with_page olds page (content_of held.shape own)) (64 * page + i) [] ≡ line_of (held_at (set pages page held) page).shape (bytes_at (set bytes page own) page) i =
          with_page_same olds page (content_of held.shape own) inside whole i i_in ∙ get_or-tabulate [] (line_of held.shape own) 64 i i_in
          ∙ ap (λ (h : Held). line_of h.shape own i) (sym (held_same pages page held within))
          ∙ ap (λ (b : List ℕ). line_of (held_at (set pages page held) page).shape b i) (sym (get_or-set_same bytes page own [] (omega arith))) in
          subst (λ (p : ℕ). get_or (with_page olds page (content_of held.shape own)) (64 * p + i) [] ≡ line_of (held_at (set pages page held) p).shape (bytes_at (set bytes page own) p) i) (sym e) at
      | inr ne ↦
          with_page_other olds page (content_of held.shape own) inside whole q i i_in ne ∙ line_at pages bytes q i (omega arith) i_in
          ∙ ap (λ (h : Held). line_of h.shape (bytes_at bytes q) i) (sym (held_other pages page q held ne))
          ∙ ap (λ (b : List ℕ). line_of (held_at (set pages page held) q).shape b i) (sym (get_or-set_other bytes page q own [] ne))
    ])

-- the bytes of all blocks where those of one page became these, and those of every other page stay
module _ (memory : List ℕ) (pages : List Held) (page : ℕ) (held : Held) (own memory' : List ℕ) (within : page < length pages) (there : bytes_of memory' held ≡ own)
    (stay : (q : ℕ) → q < length pages → q ≢ page → bytes_of memory' (held_at pages q) ≡ bytes_of memory (held_at pages q)) where
  pub bytes_with : all_bytes memory' (set pages page held) ≡ set (all_bytes memory pages) page own
  bytes_with =
      let size : length (set pages page held) ≡ length pages = length-set pages page held in
      let long : length (all_bytes memory' (set pages page held)) ≡ length (set pages page held) = length-map (set pages page held) (bytes_of memory') in
      let olds : length (all_bytes memory pages) ≡ length pages = length-map pages (bytes_of memory) in
      let changed : length (set (all_bytes memory pages) page own) ≡ length (all_bytes memory pages) = length-set (all_bytes memory pages) page own in
      same_lists (all_bytes memory' (set pages page held)) (set (all_bytes memory pages) page own) (omega arith)
      (λ q d q_in. elim (cases_eq q page) [
        | inl e ↦
            let at : get_or (all_bytes memory' (set pages page held)) page d ≡ get_or (set (all_bytes memory pages) page own) page d =
            get_or-map (bytes_of memory') (set pages page held) page zero_held d (omega arith) ∙ ap (bytes_of memory') (held_same pages page held within) ∙ there
            ∙ sym (get_or-set_same (all_bytes memory pages) page own d (omega arith)) in
            subst (λ (p : ℕ). get_or (all_bytes memory' (set pages page held)) p d ≡ get_or (set (all_bytes memory pages) page own) p d) (sym e) at
        | inr ne ↦
            get_or-map (bytes_of memory') (set pages page held) q zero_held d (omega arith) ∙ ap (bytes_of memory') (held_other pages page q held ne) ∙ stay q (omega arith) ne
            ∙ sym (get_or-map (bytes_of memory) pages q zero_held d (omega arith)) ∙ sym (get_or-set_other (all_bytes memory pages) page q own d ne)
      ])

-- the blocks of other pages after one was filled
module _ (codec : Codec) (memory : List ℕ) (pages : List Held) (page : ℕ) (held : Held) (own memory' : List ℕ) (within : page < length pages)
    (room : (q : ℕ) → q < length pages → IsWithin memory (held_at pages q)) (fills : Fills codec memory pages page held own memory') where
  pub others_stay : (q : ℕ) → q < length pages → q ≢ page → bytes_of memory' (held_at pages q) ≡ bytes_of memory (held_at pages q)
  others_stay q q_in ne =
      part_stays (start_of held) (size_of held.shape) (start_of (held_at pages q)) (size_of (held_at pages q).shape) memory memory' fills.changes (room q q_in) (fills.apart q q_in ne)
