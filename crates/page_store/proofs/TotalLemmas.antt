-- The totals of the pages, page after page.
use Rattle.std.proofs.Common.{◌≡◌, ◌<◌, ◌+◌, ◌/◌, ◌∙◌, ℕ, suc, List, [], ◌∷◌, ◌++◌, Option, length, map, refl, sym, ap, subst, arith, add-one}
use Rattle.std.specs.List.{sum_by}
use Rattle.std.proofs.lemmas.List.{get_or-map, length-map, same_lists}
use Rattle.std.proofs.lemmas.List.Sums.{sum_by-append, sum_by-cons, sum_by-take-drop}
use Rattle.hier_types.specs.Tabulate.{tabulate}
use Rattle.hier_types.specs.declared.settings.Codec.{Codec}
use Rattle.hier_types.proofs.TableLemmas.{length-tabulate, get_or-tabulate}
use Rattle.line_codec.specs.Layout.{exceptions_of, stored_sizes}
use Rattle.page_plan.specs.declared.least.PagePlan.{PagePlan}
use Rattle.page_plan.specs.declared.least.PagePlan.TheVariants as plan
use Rattle.page_plan.specs.PagePlan.{IsPlan, plan_of}
use Rattle.page_plan.specs.Pages.{page_of, pages_of}
use Rattle.page_plan.specs.Sizes.{bytes_at, row_by, row_in_slots, row_of, sizes_of_memory}
use Rattle.page_plan.proofs.PageLemmas.{length-pages_of}
use Rattle.page_plan.proofs.PlanLemmas.{IsPlan-plan_of}
use Rattle.page_slots.specs.declared.desc.Desc.{Desc}
use Rattle.page_slots.specs.declared.desc.Desc.TheVariants as descs
use Rattle.page_slots.specs.declared.desc.Shape.{Shape}
use Rattle.page_slots.specs.declared.desc.Shape.TheVariants as shapes
use Rattle.page_slots.specs.Descs.{shape_of}
use Rattle.page_slots.specs.Sound.{IsSound as IsSoundPage}
use Rattle.page_store.specs.Rooms.{HasTarget}
use Rattle.page_store.specs.PageBlocks.{IsAtPlan}
use Rattle.page_store.specs.Rows.{row_at, row_of_shape, totals_at, totals_in}
use Rattle.page_store.specs.Store.{AreAtPlan, IsSound, Store, desc_at, shape_at}
use Rattle.page_store.proofs.BlockRoomLemmas.{desc_there}
use Rattle.page_store.proofs.RoomLemmas.{helds_at}
use Rattle.size_ledger.specs.declared.row.SizeRow.{SizeRow}
use Rattle.size_ledger.specs.Ranges.{HasKnownOrder}
use Rattle.size_ledger.specs.Shares.{no_pages, plus, share, totals_of}

module _ (rows : List SizeRow) (row : SizeRow) where
  sum_more : (f : SizeRow → ℕ) → sum_by f (rows ++ row ∷ []) ≡ sum_by f rows + f row
  sum_more f =
      let one : sum_by f (row ∷ []) ≡ f row = omega (arith, sum_by-cons f row []) in
      sum_by-append f rows (row ∷ []) ∙ ap (λ n. sum_by f rows + n) one

  totals_more : totals_of (rows ++ row ∷ []) ≡ plus (totals_of rows) (share row)
  totals_more =
      rw (
        sum_more (λ row. (share row).zero),
        sum_more (λ row. (share row).c512),
        sum_more (λ row. (share row).c1024),
        sum_more (λ row. (share row).c2048),
        sum_more (λ row. (share row).c4096),
        sum_more (λ row. (share row).exceptions),
        sum_more (λ row. (share row).encoded),
        sum_more (λ row. (share row).blocks),
      ) refl

-- one page more
pub totals_next : (f : ℕ → SizeRow) (page : ℕ) → totals_of (tabulate f (page + 1)) ≡ plus (totals_of (tabulate f page)) (share (f page))
totals_next f page =
    let next : totals_of (tabulate f (suc page)) ≡ plus (totals_of (tabulate f page)) (share (f page)) = unfold tabulate in totals_more (tabulate f page) (f page) in
    subst (λ (n : ℕ). totals_of (tabulate f n) ≡ plus (totals_of (tabulate f page)) (share (f page))) (sym (add-one page)) next

-- no line is no exception
none_of : (t : ℕ) → exceptions_of [] t ≡ 0
unfolding exceptions_of
none_of t = refl

-- a page with slots of one length takes what a plan of that length says
one_length : (sizes : List (Option ℕ)) (order target : ℕ) → row_in_slots order target target 0 sizes ≡ row_by (plan.Packed order target (exceptions_of sizes target)) sizes
one_length sizes order target =
    let exceptions : exceptions_of [] target + exceptions_of sizes target ≡ exceptions_of sizes target = omega (arith, none_of target) in
    rw (exceptions, sum_by-take-drop (bytes_at target) sizes 0) refl

-- a page at its plan takes what the plan says
lies_at_plan : (codec : Codec) (lines : List (List ℕ)) (p : PagePlan) (d : Desc) → IsPlan codec lines p → IsAtPlan p d
    → row_of_shape (shape_of d) (stored_sizes codec lines) ≡ row_by p (stored_sizes codec lines)
lies_at_plan codec lines plan.Zero descs.Zero is at = refl
lies_at_plan codec lines plan.Zero (descs.Packed block target) is at = absurd at
lies_at_plan codec lines plan.Zero (descs.Mid block small large i) is at = absurd at
lies_at_plan codec lines plan.Zero (descs.Raw block) is at = absurd at
lies_at_plan codec lines (plan.Packed order target exceptions) descs.Zero is at = absurd at
lies_at_plan codec lines (plan.Packed order target exceptions) (descs.Packed block t) is at = rw (at.0, at.1, is.1.counted) (one_length (stored_sizes codec lines) order target)
lies_at_plan codec lines (plan.Packed order target exceptions) (descs.Mid block small large i) is at = absurd at
lies_at_plan codec lines (plan.Packed order target exceptions) (descs.Raw block) is at = absurd at
lies_at_plan codec lines plan.Raw descs.Zero is at = absurd at
lies_at_plan codec lines plan.Raw (descs.Packed block target) is at = absurd at
lies_at_plan codec lines plan.Raw (descs.Mid block small large i) is at = absurd at
lies_at_plan codec lines plan.Raw (descs.Raw block) is at = refl

-- where each page is at its plan, the lines alone tell the totals
pub totals_planned : (s : Store) → IsSound s → AreAtPlan s → totals_at s ≡ sizes_of_memory s.codec s.lines
unfolding totals_in sizes_of_memory
totals_planned s sound planned =
    let many : length s.lines / 64 ≡ length s.descriptors = omega (arith, sound.whole) in
    let left = length-tabulate (row_at s) (length s.descriptors) in
    let right = length-map (pages_of s.lines) (row_of s.codec) in
    ap totals_of (same_lists (tabulate (row_at s) (length s.descriptors)) (map (row_of s.codec) (pages_of s.lines)) (omega (arith, left, right, length-pages_of s.lines, many))
    (λ page d within.
    let inside : page < length s.descriptors = omega (arith, left) in
    let lines = page_of s.lines page in
    let at : IsAtPlan (plan_of s.codec lines) (desc_at s.descriptors page) = planned page (desc_at s.descriptors page) (desc_there s.descriptors page inside) in
    let shape : shape_at s page ≡ shape_of (desc_at s.descriptors page) = ap (λ h. h.shape) (helds_at s.descriptors page inside) in
    let lies : row_at s page ≡ row_of s.codec lines =
    ap (λ (f : Shape). row_of_shape f (stored_sizes s.codec lines)) shape ∙ lies_at_plan s.codec lines (plan_of s.codec lines) (desc_at s.descriptors page) (IsPlan-plan_of s.codec lines) at in
    get_or-tabulate d (row_at s) (length s.descriptors) page inside ∙ lies
    ∙ sym (get_or-map (row_of s.codec) (pages_of s.lines) page [] d (omega (arith, length-pages_of s.lines)) ∙ ap (row_of s.codec) (get_or-tabulate [] (page_of s.lines) (length s.lines / 64) page (omega arith)))))

-- a sound page has slots of known lengths, in a block of a known order
pub has_target : (codec : Codec) (shape : Shape) (own : List ℕ) → IsSoundPage codec shape own → HasTarget shape
has_target codec shapes.Zero own sound = tt
has_target codec shapes.Raw own sound = tt
has_target codec (shapes.Slotted slots) own sound = sound.holds.targets

pub known_order : (codec : Codec) (shape : Shape) (own : List ℕ) (sizes : List (Option ℕ)) → IsSoundPage codec shape own → HasKnownOrder (row_of_shape shape sizes)
known_order codec shapes.Zero own sizes sound = tt
known_order codec shapes.Raw own sizes sound = omega arith
known_order codec (shapes.Slotted slots) own sizes sound = omega (arith, sound.holds.order_in)

-- no page yet
pub no_totals : (f : ℕ → SizeRow) → totals_of (tabulate f 0) ≡ no_pages
no_totals f = unfold tabulate in refl
