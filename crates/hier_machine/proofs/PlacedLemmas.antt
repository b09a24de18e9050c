-- The image, placed page by page.
use Rattle.std.proofs.Common.{◌≡◌, ℕ, zero, suc, ◌+◌, ◌-◌, ◌*◌, ◌<◌, ◌≤◌, List, [], ◌++◌, length, replicate, take, drop, get_or, Some, slice_get, refl, sym, ◌∙◌, ap, arith, append_assoc, length-append, inl, inr}
use Rattle.std.proofs.Math.Seq.{take-append_seam, drop-append_seam, drop-append-add}
use Rattle.std.proofs.lemmas.List.{append-nil, length-replicate, replicate-append-replicate, take-replicate, drop-replicate}
use Rattle.hier_types.specs.Lines.{zero_line}
use Rattle.hier_types.specs.Tabulate.{tabulate}
use Rattle.hier_types.proofs.TableLemmas.{length-tabulate, part-tabulate, tabulate-add, tabulate-by_index, tabulate-none, tabulate-same}
use Rattle.elf_image.specs.Image.{Loaded, byte_at, page_of}
use Rattle.page_slots.specs.declared.desc.Desc.TheVariants.{Zero}
use Rattle.hier_types.specs.declared.faults.NoSpace.{NoSpace}
use Rattle.page_plan.specs.PagePlan.{plan_of}
use Rattle.page_plan.specs.Pages as pages
use Rattle.page_plan.specs.Pages.{lines_of_page, with_page}
use Rattle.page_plan.specs.Sizes.{order_of}
use Rattle.page_plan.proofs.PageLemmas.{page_of-with}
use Rattle.page_store.specs.Crowds.{MayRefuse}
use Rattle.page_store.specs.Store.{HasZero, Sizing, Store, sizing_of}
use Rattle.hier_machine.specs.Lines.{line_in, lines_before}
use Rattle.hier_machine.specs.Placed.{AwaitsImage, PlacedUpTo, zero_page}

-- a line of a page
line_of_page : (image : Loaded) (page index : ℕ) → index < 64 → take 64 (drop (64 * index) (page_of image.span image.file page)) ≡ line_in image (64 * page + index)
line_of_page image page index inside =
    let f : ℕ → ℕ = λ place. byte_at image.span image.file (4096 * page + place) in
    let rest = 4096 - (64 * index + 64) in
    let size : 4096 ≡ 64 * index + (64 + rest) = omega arith in
    ap (λ n. take 64 (drop (64 * index) (tabulate f n))) size ∙ part-tabulate f (64 * index) 64 rest
    ∙ tabulate-same 0 (λ j. f (64 * index + j)) (λ j. byte_at image.span image.file (64 * (64 * page + index) + j)) 64
    (λ k lt. let at : 4096 * page + (64 * index + k) ≡ 64 * (64 * page + index) + k = omega arith in ap (byte_at image.span image.file) at)

-- a page in place of another
with_parts : (front mid back others : List (List ℕ)) (page : ℕ) → length front ≡ 64 * page → length mid ≡ 64 → with_page (front ++ (mid ++ back)) page others ≡ front ++ (others ++ back)
with_parts front mid back others page f m =
    let head : take (64 * page) (front ++ (mid ++ back)) ≡ front = ap (λ n. take n (front ++ (mid ++ back))) (sym f) ∙ take-append_seam front (mid ++ back) in
    let tail : drop (64 * page + 64) (front ++ (mid ++ back)) ≡ back =
    ap (λ n. drop (n + 64) (front ++ (mid ++ back))) (sym f) ∙ drop-append-add front (mid ++ back) 64 ∙ ap (λ n. drop n (mid ++ back)) (sym m) ∙ drop-append_seam mid back in
    rw (head, tail) (append_assoc front others back)

-- the lines before a page, with those of the page apart
parts_before : (image : Loaded) (page : ℕ) → page < image.span.pages
    → lines_before image page ≡ tabulate (line_in image) (64 * page) ++ (replicate 64 zero_line ++ replicate (64 * (image.span.pages - (page + 1))) zero_line)
parts_before image page inside =
    let rest : 64 * (image.span.pages - page) ≡ 64 + 64 * (image.span.pages - (page + 1)) = omega arith in
    ap (λ n. tabulate (line_in image) (64 * page) ++ replicate n zero_line) rest
    ∙ ap (λ l. tabulate (line_in image) (64 * page) ++ l) (sym (replicate-append-replicate 64 (64 * (image.span.pages - (page + 1))) zero_line))

lines_of_image : (image : Loaded) (page : ℕ) → lines_of_page (page_of image.span image.file page) ≡ tabulate (λ i. line_in image (64 * page + i)) 64
lines_of_image image page =
    tabulate-same [] (λ i. take 64 (drop (64 * i) (page_of image.span image.file page))) (λ i. line_in image (64 * page + i)) 64 (λ k lt. line_of_page image page k lt)

-- the lines after a page was placed
placed_page : (image : Loaded) (page : ℕ) → page < image.span.pages → with_page (lines_before image page) page (lines_of_page (page_of image.span image.file page)) ≡ lines_before image (page + 1)
placed_page image page inside =
    let f = line_in image in
    let back = replicate (64 * (image.span.pages - (page + 1))) zero_line in
    let more : 64 * (page + 1) ≡ 64 * page + 64 = omega arith in
    ap (λ l. with_page l page (lines_of_page (page_of image.span image.file page))) (parts_before image page inside)
    ∙ with_parts (tabulate f (64 * page)) (replicate 64 zero_line) back (lines_of_page (page_of image.span image.file page)) page (length-tabulate f (64 * page)) (length-replicate 64 zero_line)
    ∙ ap (λ l. tabulate f (64 * page) ++ (l ++ back)) (lines_of_image image page)
    ∙ sym (append_assoc (tabulate f (64 * page)) (tabulate (λ i. f (64 * page + i)) 64) back)
    ∙ ap (λ l. l ++ back) (sym (tabulate-add f (64 * page) 64) ∙ ap (tabulate f) (sym more))

get-replicate : {A : Type 0} (n k : ℕ) (x d : A) → k < n → get_or (replicate n x) k d ≡ x
get-replicate zero k x d lt = absurd (omega arith)
get-replicate (suc n) zero x d lt = refl
get-replicate (suc n) (suc k) x d lt = get-replicate n k x d (omega arith)

lines_of_zeros : lines_of_page zero_page ≡ replicate 64 zero_line
lines_of_zeros =
    sym (tabulate-by_index [] (λ i. take 64 (drop (64 * i) zero_page)) 64 (replicate 64 zero_line) (length-replicate 64 zero_line)
    (λ k lt. get-replicate 64 k zero_line [] lt ∙ sym (ap (take 64) (drop-replicate (64 * k) 4096 0) ∙ take-replicate 64 (4096 - 64 * k) 0 (omega arith))))

-- a page of zeros changes nothing
zero_page_stays : (image : Loaded) (page : ℕ) → page < image.span.pages → page_of image.span image.file page ≡ zero_page → lines_before image page ≡ lines_before image (page + 1)
zero_page_stays image page inside zeros =
    let f = line_in image in
    let back = replicate (64 * (image.span.pages - (page + 1))) zero_line in
    parts_before image page inside
    ∙ sym (with_parts (tabulate f (64 * page)) (replicate 64 zero_line) back (replicate 64 zero_line) page (length-tabulate f (64 * page)) (length-replicate 64 zero_line))
    ∙ ap (λ l. with_page l page (replicate 64 zero_line)) (sym (parts_before image page inside))
    ∙ ap (λ l. with_page (lines_before image page) page l) (sym (ap lines_of_page zeros ∙ lines_of_zeros))
    ∙ placed_page image page inside

-- they are all lines of the span
lines_counted : (image : Loaded) (page : ℕ) → page ≤ image.span.pages → length (lines_before image page) ≡ 64 * image.span.pages
lines_counted image page within =
    let front = tabulate (line_in image) (64 * page) in
    let back = replicate (64 * (image.span.pages - page)) zero_line in
    omega (arith, length-append front back, length-tabulate (line_in image) (64 * page), length-replicate (64 * (image.span.pages - page)) zero_line)

-- The store after the pages before one were placed.
pub record PlacedFacts (image : Loaded) (sizing : Sizing) (page : ℕ) (s : Store) : Type 0 where
  pub lines : s.lines ≡ lines_before image page
  pub count : length s.descriptors ≡ image.span.pages
  pub zeros : (other : ℕ) → page ≤ other → other < image.span.pages → HasZero s other
  pub sizing_is : sizing_of s ≡ sizing

some_zero : (n i : ℕ) → i < n → slice_get (replicate n Zero) i ≡ Some Zero
some_zero zero i lt = absurd (omega arith)
some_zero (suc n) zero lt = refl
some_zero (suc n) (suc i) lt = some_zero n i (omega arith)

suc_is : (n : ℕ) → suc n ≡ n + 1
suc_is n = omega arith

pub placed_facts : (image : Loaded) (sizing : Sizing) (page : ℕ) (s : Store) → page ≤ image.span.pages → PlacedUpTo image sizing page s → PlacedFacts image sizing page s
placed_facts image sizing zero s within h =
    let all : 64 * (image.span.pages - 0) ≡ 64 * image.span.pages = omega arith in
    rw h (record {
      lines = sym (ap (λ l. l ++ replicate (64 * (image.span.pages - 0)) zero_line) (tabulate-none (line_in image)) ∙ ap (λ n. replicate n zero_line) all);
      count = length-replicate image.span.pages Zero;
      zeros = λ other le lt. some_zero image.span.pages other lt;
      sizing_is = ap (λ (n : ℕ). record sizing { frames = n }) (length-replicate sizing.frames 0);
    })
placed_facts image sizing (suc page) s within (mid, before, inl (zeros, same)) =
    let so = placed_facts image sizing page mid (omega arith) before in
    rw (same, suc_is page) (record {
      lines = so.lines ∙ zero_page_stays image page (omega arith) zeros;
      count = so.count;
      zeros = λ other le lt. so.zeros other (omega arith) lt;
      sizing_is = so.sizing_is;
    })
placed_facts image sizing (suc page) s within (mid, before, inr (some, places)) =
    let so = placed_facts image sizing page mid (omega arith) before in
    rw (suc_is page) (record {
      lines = places.outline.lines_are ∙ ap (λ l. with_page l page (lines_of_page (page_of image.span image.file page))) so.lines ∙ placed_page image page (omega arith);
      count = places.outline.pages_stay ∙ so.count;
      zeros = λ other le lt. places.outline.zeros_stay other (λ e. omega (arith, e)) (so.zeros other (omega arith) lt);
      sizing_is = places.outline.sizing_is ∙ so.sizing_is;
    })

-- all pages were placed
pub placed_all : (image : Loaded) (sizing : Sizing) (s : Store) → PlacedUpTo image sizing image.span.pages s → s.lines ≡ tabulate (line_in image) (64 * image.span.pages)
placed_all image sizing s h =
    let none : 64 * (image.span.pages - image.span.pages) ≡ 0 = omega arith in
    (placed_facts image sizing image.span.pages s (omega arith) h).lines ∙ ap (λ n. tabulate (line_in image) (64 * image.span.pages) ++ replicate n zero_line) none ∙ append-nil (tabulate (line_in image) (64 * image.span.pages))

placed_size : (image : Loaded) (sizing : Sizing) (page : ℕ) (s : Store) → page ≤ image.span.pages → PlacedUpTo image sizing page s → length s.lines ≡ 64 * image.span.pages
placed_size image sizing page s within h = ap length (placed_facts image sizing page s within h).lines ∙ lines_counted image page within

-- the lines stay as many
pub placed_lines : (image : Loaded) (pages page : ℕ) (before s : Store) → AwaitsImage image pages before → page ≤ image.span.pages
    → PlacedUpTo image (sizing_of before) page s → length s.lines ≡ length before.lines
placed_lines image pages page before s awaits within h =
    let none : PlacedUpTo image (sizing_of before) 0 before = rw awaits.same awaits.empty in
    placed_size image (sizing_of before) page s within h ∙ sym (placed_size image (sizing_of before) 0 before (omega arith) none)

-- a page that found no room has the order of its plan in the image
pub refused_order : (image : Loaded) (sizing : Sizing) (page : ℕ) (s : Store) (refusal : NoSpace) → page < image.span.pages → PlacedFacts image sizing page s
    → MayRefuse (sizing_of s) s.lines (with_page s.lines page (lines_of_page (page_of image.span image.file page))) page refusal
    → order_of (plan_of sizing.codec (lines_of_page (page_of image.span image.file page))) ≡ Some refusal.order
refused_order image sizing page s refusal inside facts cause =
    let others = lines_of_page (page_of image.span image.file page) in
    let whole : length others ≡ 64 = length-tabulate (λ line. take 64 (drop (64 * line) (page_of image.span image.file page))) 64 in
    let counted : length s.lines ≡ 64 * image.span.pages = ap length facts.lines ∙ lines_counted image page (omega arith) in
    let here : pages.page_of (with_page s.lines page others) page ≡ others = page_of-with s.lines page others (omega (arith, counted)) whole in
    ap (λ (k : Sizing). order_of (plan_of k.codec others)) (sym facts.sizing_is) ∙ ap (λ l. order_of (plan_of (sizing_of s).codec l)) (sym here) ∙ cause.order_is
