-- The totals of the pages where one of them has changed.
use Rattle.std.proofs.Common.{◌≡◌, ◌≢◌, ◌<◌, ◌≤◌, ◌+◌, ◌*◌, ◌∙◌, ℕ, zero, suc, Bool, true, false, Option, Some, None, List, IfSome, length, get_or, replicate, set, take, drop, slice_get, inl, inr, sym, ap, subst, arith}
use Rattle.std.proofs.lemmas.Bool.{cases_eq}
use Rattle.std.proofs.lemmas.Bool.Decides.{nat_tests}
use Rattle.std.proofs.lemmas.List.{get_or-replicate, get_or-set_same, get_or-set_other, length-replicate, length-append, length-map, length-set, length-take, same_lists, take-append-drop}
use Rattle.std.proofs.lemmas.List.Sums.{get_or-le-sum_by, sum_by-set}
use Rattle.std.proofs.lemmas.Option.{get_or_from_slice_get, slice_get_within}
use Rattle.hier_types.specs.Tabulate.{tabulate}
use Rattle.hier_types.specs.declared.counts.Totals.{Totals}
use Rattle.hier_types.specs.declared.settings.Codec.{Codec}
use Rattle.hier_types.specs.Lines.{AreLines}
use Rattle.hier_types.proofs.TableLemmas.{get_or-tabulate, length-tabulate, tabulate-same}
use Rattle.line_codec.specs.Layout.{stored_sizes}
use Rattle.line_codec.specs.Slots.{stored}
use Rattle.line_codec.proofs.LayoutLemmas.{exceptions_of-le}
use Rattle.page_mover.specs.declared.turning.Turn.{Turn}
use Rattle.page_plan.specs.KeptSizes.{kept_sizes}
use Rattle.page_plan.specs.Pages.{page_of, with_page}
use Rattle.page_plan.specs.Sizes.{bytes_at, row_in_slots}
use Rattle.page_plan.proofs.PageLemmas.{page_of-with_other}
use Rattle.page_slots.specs.declared.desc.Desc.{Desc}
use Rattle.page_slots.specs.declared.desc.Desc.TheVariants as descs
use Rattle.page_slots.specs.declared.desc.Shape.{Shape}
use Rattle.page_slots.specs.declared.desc.Shape.TheVariants as shapes
use Rattle.page_slots.specs.Forms.{form_of, order_of}
use Rattle.page_slots.specs.Sound.{IsSound as IsSoundPage}
use Rattle.page_slots.proofs.FormLemmas.{form_is}
use Rattle.page_store.specs.declared.room.Held.{Held}
use Rattle.page_store.specs.Lays.{Lays}
use Rattle.page_store.specs.Rooms.{bytes_at as own_bytes_at, held_at, held_of, helds}
use Rattle.page_store.specs.Rows.{row_at, row_of_shape, totals_at, totals_in}
use Rattle.page_store.specs.Store.{IsKept, IsSound, Store, shape_at}
use Rattle.page_store.specs.Turns.{MakesTurnOn}
use Rattle.page_store.proofs.ListLemmas.{sum_by-bounded}
use Rattle.page_store.proofs.PagesLemmas.{line_with, sizes_at}
use Rattle.page_store.proofs.RoomLemmas.{helds_at, helds_set, length-page_of}
use Rattle.page_store.proofs.StoreLemmas.{lines_of_one}
use Rattle.page_store.proofs.TotalLemmas.{known_order}
use Rattle.recency.specs.Kept.{Kept}
use Rattle.size_ledger.specs.declared.row.SizeRow.{SizeRow}
use Rattle.size_ledger.specs.Ranges.{AreWithinPages, HasKnownOrder}
use Rattle.size_ledger.specs.Shares.{AreWithin, block_bytes, has_none, has_order, one_if, plus, share, totals_of}

-- totals, by their parts
same_totals : (a b : Totals) → a.zero ≡ b.zero → a.c512 ≡ b.c512 → a.c1024 ≡ b.c1024 → a.c2048 ≡ b.c2048 → a.c4096 ≡ b.c4096 → a.exceptions ≡ b.exceptions → a.encoded ≡ b.encoded → a.blocks ≡ b.blocks → a ≡ b
same_totals a b zeros c512 c1024 c2048 c4096 exceptions encoded blocks =
    let left : Totals = record { zero = a.zero; c512 = a.c512; c1024 = a.c1024; c2048 = a.c2048; c4096 = a.c4096; exceptions = a.exceptions; encoded = a.encoded; blocks = a.blocks } in
    let right : Totals = record { zero = b.zero; c512 = b.c512; c1024 = b.c1024; c2048 = b.c2048; c4096 = b.c4096; exceptions = b.exceptions; encoded = b.encoded; blocks = b.blocks } in
    let same : left ≡ right = cc in
    same

-- a share that is added to two totals can be taken from both
pub plus_cancels : (a b c : Totals) → plus a c ≡ plus b c → a ≡ b
plus_cancels a b c same =
    let zeros : a.zero + c.zero ≡ b.zero + c.zero = ap (λ (t : Totals). t.zero) same in
    let c512 : a.c512 + c.c512 ≡ b.c512 + c.c512 = ap (λ (t : Totals). t.c512) same in
    let c1024 : a.c1024 + c.c1024 ≡ b.c1024 + c.c1024 = ap (λ (t : Totals). t.c1024) same in
    let c2048 : a.c2048 + c.c2048 ≡ b.c2048 + c.c2048 = ap (λ (t : Totals). t.c2048) same in
    let c4096 : a.c4096 + c.c4096 ≡ b.c4096 + c.c4096 = ap (λ (t : Totals). t.c4096) same in
    let exceptions : a.exceptions + c.exceptions ≡ b.exceptions + c.exceptions = ap (λ (t : Totals). t.exceptions) same in
    let encoded : a.encoded + c.encoded ≡ b.encoded + c.encoded = ap (λ (t : Totals). t.encoded) same in
    let blocks : a.blocks + c.blocks ≡ b.blocks + c.blocks = ap (λ (t : Totals). t.blocks) same in
    same_totals a b (omega (arith, zeros)) (omega (arith, c512)) (omega (arith, c1024)) (omega (arith, c2048)) (omega (arith, c4096)) (omega (arith, exceptions)) (omega (arith, encoded)) (omega (arith, blocks))

-- one row of some
module _ (rows : List SizeRow) (i : ℕ) (d : SizeRow) (within : i < length rows) where
  rows_set : (row : SizeRow) → plus (totals_of (set rows i row)) (share (get_or rows i d)) ≡ plus (totals_of rows) (share row)
  rows_set row =
      same_totals (plus (totals_of (set rows i row)) (share (get_or rows i d))) (plus (totals_of rows) (share row))
      (sum_by-set (λ (r : SizeRow). (share r).zero) rows i row d within)
      (sum_by-set (λ (r : SizeRow). (share r).c512) rows i row d within)
      (sum_by-set (λ (r : SizeRow). (share r).c1024) rows i row d within)
      (sum_by-set (λ (r : SizeRow). (share r).c2048) rows i row d within)
      (sum_by-set (λ (r : SizeRow). (share r).c4096) rows i row d within)
      (sum_by-set (λ (r : SizeRow). (share r).exceptions) rows i row d within)
      (sum_by-set (λ (r : SizeRow). (share r).encoded) rows i row d within)
      (sum_by-set (λ (r : SizeRow). (share r).blocks) rows i row d within)

  rows_have : AreWithin (share (get_or rows i d)) (totals_of rows)
  rows_have = record {
    zero_is = get_or-le-sum_by (λ (r : SizeRow). (share r).zero) rows i d within;
    c512_is = get_or-le-sum_by (λ (r : SizeRow). (share r).c512) rows i d within;
    c1024_is = get_or-le-sum_by (λ (r : SizeRow). (share r).c1024) rows i d within;
    c2048_is = get_or-le-sum_by (λ (r : SizeRow). (share r).c2048) rows i d within;
    c4096_is = get_or-le-sum_by (λ (r : SizeRow). (share r).c4096) rows i d within;
    exceptions_are = get_or-le-sum_by (λ (r : SizeRow). (share r).exceptions) rows i d within;
    encoded_is = get_or-le-sum_by (λ (r : SizeRow). (share r).encoded) rows i d within;
    blocks_are = get_or-le-sum_by (λ (r : SizeRow). (share r).blocks) rows i d within;
  }

-- what all pages take where one of them has another row
rows_are : (f g : ℕ → SizeRow) (n page : ℕ) → page < n → ((q : ℕ) → q < n → q ≢ page → g q ≡ f q) → tabulate g n ≡ set (tabulate f n) page (g page)
rows_are f g n page within others =
    let none : SizeRow = f 0 in
    let long = length-tabulate f n in
    let new = length-tabulate g n in
    same_lists (tabulate g n) (set (tabulate f n) page (g page)) (omega (arith, long, new, length-set (tabulate f n) page (g page)))
    (λ q d lt.
    let q_in : q < n = omega (arith, new) in
    get_or-tabulate d g n q q_in ∙ elim (cases_eq q page) [
      | inl same ↦ ap g same ∙ sym (get_or-set_same (tabulate f n) page (g page) d (omega (arith, long))) ∙ ap (λ (k : ℕ). get_or (set (tabulate f n) page (g page)) k d) (sym same)
      | inr ne ↦ others q q_in ne ∙ sym (get_or-set_other (tabulate f n) page q (g page) d ne ∙ get_or-tabulate d f n q q_in)
    ])

-- one page's row changed, and no other
pub totals_set : (s t : Store) (page : ℕ) → page < length s.descriptors → length t.descriptors ≡ length s.descriptors → ((q : ℕ) → q < length s.descriptors → q ≢ page → row_at t q ≡ row_at s q)
    → plus (totals_at t) (share (row_at s page)) ≡ plus (totals_at s) (share (row_at t page))
unfolding totals_in
totals_set s t page within pages others =
    let n = length s.descriptors in
    let rows = tabulate (row_at s) n in
    let long : length rows ≡ n = length-tabulate (row_at s) n in
    let after : tabulate (row_at t) (length t.descriptors) ≡ set rows page (row_at t page) = ap (tabulate (row_at t)) pages ∙ rows_are (row_at s) (row_at t) n page within others in
    let at : get_or rows page (row_at s page) ≡ row_at s page = get_or-tabulate (row_at s page) (row_at s) n page within in
    ap (λ (rs : List SizeRow). plus (totals_of rs) (share (row_at s page))) after
    ∙ ap (λ (r : SizeRow). plus (totals_of (set rows page (row_at t page))) (share r)) (sym at)
    ∙ rows_set rows page (row_at s page) (omega (arith, long)) (row_at t page)

-- the totals have the share of each page
pub totals_have : (s : Store) (page : ℕ) → page < length s.descriptors → AreWithin (share (row_at s page)) (totals_at s)
unfolding totals_in
totals_have s page within =
    let n = length s.descriptors in
    let rows = tabulate (row_at s) n in
    let long : length rows ≡ n = length-tabulate (row_at s) n in
    let at : get_or rows page (row_at s page) ≡ row_at s page = get_or-tabulate (row_at s page) (row_at s) n page within in
    subst (λ (r : SizeRow). AreWithin (share r) (totals_of rows)) at (rows_have rows page (row_at s page) (omega (arith, long)))

-- Totals stay in range.

-- a row as a page of 64 lines can have it
record IsSmall (row : SizeRow) : Type 0 where
  known : HasKnownOrder row
  exceptions_most : row.exceptions ≤ 255
  encoded_most : row.encoded ≤ 65535

one_most : (b : Bool) → one_if b ≤ 1
one_most true = omega arith
one_most false = omega arith

block_most : (row : SizeRow) → HasKnownOrder row → block_bytes row.order ≤ 4096
block_most row known = by row.order known
  where
    by : (order : Option ℕ) → IfSome order (λ k. k ≤ 3) → block_bytes order ≤ 4096
    by None known = omega arith
    by (Some zero) known = omega arith
    by (Some (suc zero)) known = omega arith
    by (Some (suc (suc zero))) known = omega arith
    by (Some (suc (suc (suc zero)))) known = omega arith
    by (Some (suc (suc (suc (suc k))))) known = absurd (omega arith)

-- the totals of small rows
rows_most : (rows : List SizeRow) → ((i : ℕ) (row : SizeRow) → slice_get rows i ≡ Some row → IsSmall row) → AreWithinPages (length rows) (totals_of rows)
rows_most rows small = record {
  zero_most = omega (arith, sum_by-bounded (λ (r : SizeRow). (share r).zero) 1 rows (λ i r at. one_most (has_none r.order)));
  c512_most = omega (arith, sum_by-bounded (λ (r : SizeRow). (share r).c512) 1 rows (λ i r at. one_most (has_order 0 r.order)));
  c1024_most = omega (arith, sum_by-bounded (λ (r : SizeRow). (share r).c1024) 1 rows (λ i r at. one_most (has_order 1 r.order)));
  c2048_most = omega (arith, sum_by-bounded (λ (r : SizeRow). (share r).c2048) 1 rows (λ i r at. one_most (has_order 2 r.order)));
  c4096_most = omega (arith, sum_by-bounded (λ (r : SizeRow). (share r).c4096) 1 rows (λ i r at. one_most (has_order 3 r.order)));
  exceptions_most = sum_by-bounded (λ (r : SizeRow). (share r).exceptions) 255 rows (λ i r at. (small i r at).exceptions_most);
  encoded_most = sum_by-bounded (λ (r : SizeRow). (share r).encoded) 65535 rows (λ i r at. (small i r at).encoded_most);
  blocks_most = sum_by-bounded (λ (r : SizeRow). (share r).blocks) 4096 rows (λ i r at. block_most r (small i r at).known);
}

-- a line takes no more than 64 bytes
bytes_most : (t : ℕ) (size : Option ℕ) → t ≤ 64 → bytes_at t size ≤ 64
bytes_most t None le = omega arith
bytes_most t (Some n) le = grind (arith, nat_tests)

-- a page in slots
slots_small : (order small large at : ℕ) (sizes : List (Option ℕ)) → order ≤ 3 → small ≤ 64 → large ≤ 64 → length sizes ≤ 64 → IsSmall (row_in_slots order small large at sizes)
slots_small order small large at sizes order_in small_in large_in long =
    let parts : length (take at sizes) + length (drop at sizes) ≡ length sizes = sym (length-append (take at sizes) (drop at sizes)) ∙ ap length (take-append-drop at sizes) in
    let front = sum_by-bounded (bytes_at small) 64 (take at sizes) (λ i size there. bytes_most small size small_in) in
    let back = sum_by-bounded (bytes_at large) 64 (drop at sizes) (λ i size there. bytes_most large size large_in) in
    record {
      known = order_in;
      exceptions_most = omega (arith, parts, exceptions_of-le (take at sizes) small, exceptions_of-le (drop at sizes) large);
      encoded_most = omega (arith, parts, front, back);
    }

-- a sound page of 64 lines
page_small : (codec : Codec) (shape : Shape) (own : List ℕ) (sizes : List (Option ℕ)) → IsSoundPage codec shape own → length sizes ≤ 64 → IsSmall (row_of_shape shape sizes)
page_small codec shapes.Zero own sizes sound long = record { known = tt; exceptions_most = omega arith; encoded_most = omega arith }
page_small codec shapes.Raw own sizes sound long = record { known = omega arith; exceptions_most = omega arith; encoded_most = omega arith }
page_small codec (shapes.Slotted slots) own sizes sound long =
    let is = form_is slots (length own) sound.holds in
    slots_small (order_of slots) (form_of slots).small (form_of slots).large (form_of slots).at sizes (omega (arith, sound.holds.order_in))
    (omega (arith, is.ordered, is.slots_in, is.few)) (omega (arith, is.slots_in, is.few)) long

-- the totals of a sound store
pub totals_most : (s : Store) → IsSound s → AreWithinPages (length s.descriptors) (totals_at s)
unfolding totals_in
totals_most s sound =
    let n = length s.descriptors in
    let rows = tabulate (row_at s) n in
    let long : length rows ≡ n = length-tabulate (row_at s) n in
    subst (λ (k : ℕ). AreWithinPages k (totals_of rows)) long (rows_most rows
    (λ i row there.
    let within : i < n = omega (arith, long, slice_get_within rows i row there) in
    let is : row_at s i ≡ row = sym (get_or-tabulate row (row_at s) n i within) ∙ get_or_from_slice_get rows i row row there in
    let lines = page_of s.lines i in
    let few : length (stored_sizes s.codec lines) ≤ 64 = omega (arith, length-map lines (stored s.codec), length-take 64 (drop (64 * i) s.lines)) in
    subst IsSmall is (page_small s.codec (shape_at s i) (own_bytes_at s.bytes i) (stored_sizes s.codec lines) (sound.pages_are i within) few)))

-- the totals after one page has changed, where its row before was taken out and the new one was added
pub ledger_set : (s t : Store) (page : ℕ) (before after : SizeRow) (old new : Totals) → page < length s.descriptors → length t.descriptors ≡ length s.descriptors
    → ((q : ℕ) → q < length s.descriptors → q ≢ page → row_at t q ≡ row_at s q) → before ≡ row_at s page → after ≡ row_at t page → old ≡ totals_at s
    → plus new (share before) ≡ plus old (share after) → new ≡ totals_at t
ledger_set s t page before after old new within pages others is_before is_after is_old kept =
    plus_cancels new (totals_at t) (share before)
    (kept ∙ ap (λ (k : Totals). plus k (share after)) is_old ∙ ap (λ (r : SizeRow). plus (totals_at s) (share r)) is_after
    ∙ sym (totals_set s t page within pages others) ∙ ap (λ (r : SizeRow). plus (totals_at t) (share r)) (sym is_before))

-- the totals of a sound store have room for another row
pub totals_few : (s : Store) → IsSound s → AreWithinPages 65536 (totals_at s)
totals_few s sound =
    let most = totals_most s sound in
    let few = sound.most in
    record {
      zero_most = omega (arith, most.zero_most);
      c512_most = omega (arith, most.c512_most);
      c1024_most = omega (arith, most.c1024_most);
      c2048_most = omega (arith, most.c2048_most);
      c4096_most = omega (arith, most.c4096_most);
      exceptions_most = omega (arith, most.exceptions_most);
      encoded_most = omega (arith, most.encoded_most);
      blocks_most = omega (arith, most.blocks_most);
    }

-- what a page takes, by its shape and the sizes that are kept of it
pub row_is : (s : Store) (memory : List ℕ) (sizes : List (List ℕ)) → IsKept s memory sizes → (page : ℕ) (shape : Shape) (read : List ℕ) (row : SizeRow) → page < length s.descriptors → shape ≡ shape_at s page
    → read ≡ get_or sizes page read → ((lines : List (List ℕ)) → AreLines lines → kept_sizes s.codec lines ≡ read → row ≡ row_of_shape shape (stored_sizes s.codec lines)) → row ≡ row_at s page
row_is s memory sizes kept page shape read row within is at value =
    let lines = page_of s.lines page in
    value lines (lines_of_one s.lines page kept.sound.lines_are) (sym (sizes_at s memory sizes kept page read within at))
    ∙ ap (λ (f : Shape). row_of_shape f (stored_sizes s.codec lines)) is

-- the order of its block is one that a block has
pub row_known : (s : Store) (memory : List ℕ) (sizes : List (List ℕ)) → IsKept s memory sizes → (page : ℕ) (shape : Shape) (read : List ℕ) (row : SizeRow) → page < length s.descriptors → shape ≡ shape_at s page
    → read ≡ get_or sizes page read → ((lines : List (List ℕ)) → AreLines lines → kept_sizes s.codec lines ≡ read → row ≡ row_of_shape shape (stored_sizes s.codec lines)) → HasKnownOrder row
row_known s memory sizes kept page shape read row within is at value =
    subst HasKnownOrder (sym (row_is s memory sizes kept page shape read row within is at value))
    (known_order s.codec (shape_at s page) (own_bytes_at s.bytes page) (stored_sizes s.codec (page_of s.lines page)) (kept.sound.pages_are page within))

-- the rows of other pages, which are kept as they were and have the same lines
rows_stay : (s t : Store) (q : ℕ) → t.codec ≡ s.codec → shape_at t q ≡ shape_at s q → page_of t.lines q ≡ page_of s.lines q → row_at t q ≡ row_at s q
rows_stay s t q codec shape lines =
    ap (λ (f : Shape). row_of_shape f (stored_sizes t.codec (page_of t.lines q))) shape
    ∙ ap (λ (k : Codec). row_of_shape (shape_at s q) (stored_sizes k (page_of t.lines q))) codec
    ∙ ap (λ (ls : List (List ℕ)). row_of_shape (shape_at s q) (stored_sizes s.codec ls)) lines

-- another page than the one that is kept otherwise has the shape that it had
shape_other : (ds : List Desc) (page : ℕ) (desc : Desc) (ds' : List Desc) (q : ℕ) → q ≢ page → ds' ≡ set ds page desc → (held_at (helds ds') q).shape ≡ (held_at (helds ds) q).shape
shape_other ds page desc ds' q ne is =
    ap (λ (xs : List Desc). (held_at (helds xs) q).shape) is ∙ ap (λ (hs : List Held). (held_at hs q).shape) (helds_set ds page desc)
    ∙ ap (λ (h : Held). h.shape) (get_or-set_other (helds ds) page q (held_of desc) (record { shape = shapes.Zero; unit = 0 }) ne)

-- a line was put into its page
pub ledger_put : (s t : Store) (page line : ℕ) (from : List ℕ) (bytes : List (List ℕ)) (meta : Kept) (before after : SizeRow) (old new : Totals) → IsSound s → page < length s.descriptors → line < 64
    → t ≡ record s { lines = set s.lines (64 * page + line) from; bytes = bytes; meta = meta } → before ≡ row_at s page → after ≡ row_at t page → old ≡ totals_at s
    → plus new (share before) ≡ plus old (share after) → new ≡ totals_at t
ledger_put s t page line from bytes meta before after old new sound within line_in is is_before is_after is_old kept =
    let room : 64 * page + 64 ≤ length s.lines = omega (arith, sound.whole) in
    let whole : length (set (page_of s.lines page) line from) ≡ 64 = length-set (page_of s.lines page) line from ∙ length-page_of s.lines page room in
    let descriptors : t.descriptors ≡ s.descriptors = ap (λ (x : Store). x.descriptors) is in
    let lines : t.lines ≡ with_page s.lines page (set (page_of s.lines page) line from) = ap (λ (x : Store). x.lines) is ∙ sym (line_with s.lines page line from line_in) in
    ledger_set s t page before after old new within (ap length descriptors)
    (λ q q_in ne. rows_stay s t q (ap (λ (x : Store). x.codec) is) (ap (λ (ds : List Desc). (held_at (helds ds) q).shape) descriptors)
    (ap (λ (ls : List (List ℕ)). page_of ls q) lines ∙ page_of-with_other s.lines page (set (page_of s.lines page) line from) room whole q ne))
    is_before is_after is_old kept

-- a page was laid anew
pub ledger_laid : (s t : Store) (page : ℕ) (lines : List (List ℕ)) (before after : SizeRow) (old new : Totals) → IsSound s → page < length s.descriptors → length lines ≡ 64 → Lays s page (with_page s.lines page lines) t
    → before ≡ row_at s page → after ≡ row_at t page → old ≡ totals_at s → plus new (share before) ≡ plus old (share after) → new ≡ totals_at t
ledger_laid s t page lines before after old new sound within whole lays is_before is_after is_old kept =
    let room : 64 * page + 64 ≤ length s.lines = omega (arith, sound.whole) in
    let lines_are : t.lines ≡ with_page s.lines page lines = ap (λ (x : Store). x.lines) lays.is in
    ledger_set s t page before after old new within (ap length lays.comes.descriptors_are ∙ length-set s.descriptors page lays.comes.desc)
    (λ q q_in ne. rows_stay s t q (ap (λ (x : Store). x.codec) lays.is)
    (shape_other s.descriptors page lays.comes.desc t.descriptors q ne lays.comes.descriptors_are)
    (ap (λ (ls : List (List ℕ)). page_of ls q) lines_are ∙ page_of-with_other s.lines page lines room whole q ne))
    is_before is_after is_old kept

-- a page was turned, which changes no line
pub ledger_turned : (s t : Store) (page : ℕ) (turn : Turn) (before after : SizeRow) (old new : Totals) → page < length s.descriptors → MakesTurnOn s page turn t
    → before ≡ row_at s page → after ≡ row_at t page → old ≡ totals_at s → plus new (share before) ≡ plus old (share after) → new ≡ totals_at t
ledger_turned s t page turn before after old new within makes is_before is_after is_old kept =
    ledger_set s t page before after old new within (ap length makes.comes.descriptors_are ∙ length-set s.descriptors page makes.comes.desc)
    (λ q q_in ne. rows_stay s t q (ap (λ (x : Store). x.codec) makes.is) (shape_other s.descriptors page makes.comes.desc t.descriptors q ne makes.comes.descriptors_are)
    (ap (λ (x : Store). page_of x.lines q) makes.is))
    is_before is_after is_old kept

-- a page of zeros
abbrev pub zeros_row : SizeRow
zeros_row = record { order = None; exceptions = 0; encoded = 0 }

-- pages of zeros, whatever their lines are
pub totals_fresh : (codec : Codec) (lines : List (List ℕ)) (n : ℕ) → totals_of (tabulate (λ q. zeros_row) n) ≡ totals_in codec (replicate n descs.Zero) lines
unfolding totals_in
totals_fresh codec lines n =
    let ds = replicate n descs.Zero in
    let rows : ℕ → SizeRow = λ q. row_of_shape (held_at (helds ds) q).shape (stored_sizes codec (page_of lines q)) in
    let long : length ds ≡ n = length-replicate n descs.Zero in
    ap totals_of (tabulate-same zeros_row (λ q. zeros_row) rows n
    (λ q q_in.
    let zero : (held_at (helds ds) q).shape ≡ shapes.Zero =
    ap (λ (h : Held). h.shape) (helds_at ds q (omega (arith, long)) ∙ ap held_of (get_or-replicate n q descs.Zero descs.Zero (omega (arith, long)))) in
    ap (λ (f : Shape). row_of_shape f (stored_sizes codec (page_of lines q))) (sym zero)))
    ∙ ap (λ (k : ℕ). totals_of (tabulate rows k)) (sym long)
