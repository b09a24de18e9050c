-- What the methods of a memory of pages leave.
use Rattle.std.proofs.Common.{◌≡◌, ◌<◌, ◌≤◌, ◌+◌, ◌*◌, ◌/◌, ◌%◌, ◌∙◌, ℕ, Some, List, [], ◌++◌, IfSome, length, get_or, set, take, drop, slice_get, refl, sym, ap, subst, inl, inr, arith}
use Rattle.std.proofs.lemmas.Bool.{cases_eq}
use Rattle.std.proofs.lemmas.Option.{same_Some, slice_get_read}
use Rattle.std.proofs.lemmas.List.{get_or-set_same, map-set, set-get_or, take_all, take-append-le}
use Rattle.buddy_frames.specs.Units.{IsUsedPlace}
use Rattle.byte_parts.specs.Parts.{ChangesWithin}
use Rattle.hier_types.specs.declared.counts.PageCounts.{PageCounts}
use Rattle.hier_types.specs.declared.settings.Codec.{Codec}
use Rattle.meta_cache.specs.Entries.{looked}
use Rattle.meta_cache.proofs.EntryLemmas.{distinct_looked, looked_other, looked_page}
use Rattle.page_plan.specs.declared.least.PagePlan.{PagePlan}
use Rattle.page_plan.specs.declared.least.PagePlan.TheVariants as plan
use Rattle.page_plan.specs.KeptSizes.{kept_size, kept_sizes}
use Rattle.page_plan.specs.PagePlan.{IsInRange, IsPlan, plan_of}
use Rattle.page_plan.specs.Pages.{page_of, with_page}
use Rattle.page_plan.proofs.PageLemmas.{page_of-set, page_of-with, with_page-set}
use Rattle.page_plan.proofs.PlanLemmas.{IsPlan-plan_of}
use Rattle.page_slots.specs.declared.desc.Desc.{Desc}
use Rattle.page_slots.specs.declared.desc.Desc.TheVariants as descs
use Rattle.page_slots.specs.declared.desc.Shape.{Shape}
use Rattle.page_slots.specs.declared.desc.Shape.TheVariants as shapes
use Rattle.page_slots.specs.declared.desc.Slots.{Slots}
use Rattle.hier_types.specs.Lines.{zero_line}
use Rattle.page_slots.specs.Descs.{content_of, line_of, shape_of, size_of}
use Rattle.page_slots.specs.Laid.{HasRoomFor, bytes_for}
use Rattle.page_slots.specs.Sound.{IsSound as IsSoundPage}
use Rattle.page_store.specs.declared.room.Held.{Held}
use Rattle.page_store.specs.Lays.{Lays, laid_bytes}
use Rattle.page_store.specs.Noted.{noted}
use Rattle.page_store.specs.PageBlocks.{AreSound, ComesToPlan, IsAtPlan}
use Rattle.page_store.specs.Rooms.{IsShaped, IsWithin, bytes_at, bytes_of, held_at, held_of, helds, start_of}
use Rattle.page_store.specs.Store.{IsCopy, IsKept, Store, desc_at, shape_at, store_in}
use Rattle.page_store.proofs.BlockLemmas.{block_at-same, block_live}
use Rattle.page_store.proofs.BlockRoomLemmas.{block_within, page_within}
use Rattle.page_store.proofs.RoomLemmas.{bytes_at_all, helds_at, length-helds, line_at, page_of_all}
use Rattle.page_store.proofs.StoreLemmas as change
use Rattle.recency.specs.declared.entry.Entry.{Entry}
use Rattle.recency.specs.Kept.{Kept, clean_entry, entry_of}

-- what a call leaves in a vector that it was lent as a slice
pub written_back : (n : ℕ) (items new : List ℕ) → length new ≡ length items → length items ≡ n → take n (new ++ drop (length new) items) ≡ new
written_back n items new same long = take-append-le n new (drop (length new) items) (omega arith) ∙ take_all n new (omega arith)

-- one page of a store as it is kept
module _ (s : Store) (memory : List ℕ) (sizes : List (List ℕ)) (kept : IsKept s memory sizes) (page : ℕ) (within : page < length s.descriptors) where
  pub own_held : held_at (helds s.descriptors) page ≡ held_of (desc_at s.descriptors page)
  own_held = helds_at s.descriptors page within

  pub own_within : IsWithin memory (held_of (desc_at s.descriptors page))
  own_within = subst (IsWithin memory) own_held (page_within s.descriptors s.used memory kept.sound.blocks_are kept.sound.shaped kept.in_memory page within)

  pub own_shape : shape_at s page ≡ shape_of (desc_at s.descriptors page)
  own_shape = ap (λ h. h.shape) own_held

  pub own_bytes : bytes_at s.bytes page ≡ bytes_of memory (held_of (desc_at s.descriptors page))
  own_bytes = ap (λ (bs : List (List ℕ)). bytes_at bs page) kept.stands ∙ bytes_at_all memory (helds s.descriptors) page (omega (arith, length-helds s.descriptors)) ∙ ap (bytes_of memory) own_held

  pub own_sound : IsSoundPage s.codec (shape_of (desc_at s.descriptors page)) (bytes_of memory (held_of (desc_at s.descriptors page)))
  own_sound =
      subst (IsSoundPage s.codec (shape_of (desc_at s.descriptors page))) own_bytes
      (subst (λ (f : Shape). IsSoundPage s.codec f (bytes_at s.bytes page)) own_shape (kept.sound.pages_are page within))

  pub own_lines : page_of s.lines page ≡ content_of (shape_of (desc_at s.descriptors page)) (bytes_of memory (held_of (desc_at s.descriptors page)))
  own_lines =
      ap (λ (ls : List (List ℕ)). page_of ls page) kept.sound.says ∙ page_of_all (helds s.descriptors) s.bytes page (omega (arith, length-helds s.descriptors))
      ∙ ap (λ (f : Shape). content_of f (bytes_at s.bytes page)) own_shape ∙ ap (content_of (shape_of (desc_at s.descriptors page))) own_bytes

-- the sizes that are kept of a page
pub sizes_at : (s : Store) (memory : List ℕ) (sizes : List (List ℕ)) → IsKept s memory sizes → (page : ℕ) (before : List ℕ) → page < length s.descriptors → before ≡ get_or sizes page before
    → before ≡ kept_sizes s.codec (page_of s.lines page)
sizes_at s memory sizes kept page before within read =
    let counted : length sizes ≡ length s.descriptors = kept.counted in
    let there : slice_get sizes page ≡ Some before = slice_get_read sizes (length sizes) page before refl (omega arith) read in
    same_Some before (kept_sizes s.codec (page_of s.lines page)) (sym there ∙ kept.sized page (omega arith))

-- a page that has metadata was looked up
pub kept_looked : (s : Store) (memory : List ℕ) (sizes : List (List ℕ)) (page : ℕ) (slots : Slots) (chunk : List ℕ) (counts : PageCounts) → IsKept s memory sizes → shape_at s page ≡ shapes.Slotted slots
    → chunk ≡ take 64 (bytes_at s.bytes page) → IsKept (record s { meta = looked s.meta page chunk; counts = counts }) memory sizes
kept_looked s memory sizes page slots chunk counts kept slotted is_chunk = record {
  sound = record {
    some = kept.sound.some;
    most = kept.sound.most;
    whole = kept.sound.whole;
    lines_are = kept.sound.lines_are;
    blocks_are = kept.sound.blocks_are;
    shaped = kept.sound.shaped;
    paged = kept.sound.paged;
    pages_are = kept.sound.pages_are;
    says = kept.sound.says;
    copies = λ q e is. elim (cases_eq q page) [
      | inl same ↦
          let here : entry_of (looked s.meta page chunk).lines page ≡ Some e = subst (λ (p : ℕ). entry_of (looked s.meta page chunk).lines p ≡ Some e) same is in
          let bytes : chunk ≡ e.bytes = ap (λ (x : Entry). x.bytes) (same_Some (clean_entry page chunk) e (sym (looked_page s.meta page chunk) ∙ here)) in
          subst (λ (p : ℕ). IsCopy (shape_at s p) (bytes_at s.bytes p) e.bytes) (sym same)
          (subst (λ (f : Shape). IsCopy f (bytes_at s.bytes page) e.bytes) (sym slotted) (sym bytes ∙ is_chunk))
      | inr ne ↦ kept.sound.copies q e (looked_other s.meta page chunk q e ne is)
    ];
    distinct = distinct_looked s.meta page chunk kept.sound.distinct;
    cursor_in = kept.sound.cursor_in;
  };
  stands = kept.stands;
  in_memory = kept.in_memory;
  counted = kept.counted;
  sized = kept.sized;
}

-- a page at a plan is of a shape of its block, which has room for its lines
pub shaped_at : (p : PagePlan) (d : Desc) → IsInRange p → IsAtPlan p d → IsShaped d
shaped_at plan.Zero descs.Zero range at = tt
shaped_at plan.Zero (descs.Packed block target) range at = absurd at
shaped_at plan.Zero (descs.Mid block small large i) range at = absurd at
shaped_at plan.Zero (descs.Raw block) range at = absurd at
shaped_at (plan.Packed order target exceptions) descs.Zero range at = absurd at
shaped_at (plan.Packed order target exceptions) (descs.Packed block t) range at = omega (arith, range.0, at.0)
shaped_at (plan.Packed order target exceptions) (descs.Mid block small large i) range at = absurd at
shaped_at (plan.Packed order target exceptions) (descs.Raw block) range at = absurd at
shaped_at plan.Raw descs.Zero range at = absurd at
shaped_at plan.Raw (descs.Packed block target) range at = absurd at
shaped_at plan.Raw (descs.Mid block small large i) range at = absurd at
shaped_at plan.Raw (descs.Raw block) range at = at

pub room_at : (codec : Codec) (lines : List (List ℕ)) (p : PagePlan) (d : Desc) → IsPlan codec lines p → IsAtPlan p d → HasRoomFor codec (shape_of d) lines (size_of (shape_of d))
room_at codec lines plan.Zero descs.Zero is at = (refl, is)
room_at codec lines plan.Zero (descs.Packed block target) is at = absurd at
room_at codec lines plan.Zero (descs.Mid block small large i) is at = absurd at
room_at codec lines plan.Zero (descs.Raw block) is at = absurd at
room_at codec lines (plan.Packed order target exceptions) descs.Zero is at = absurd at
room_at codec lines (plan.Packed order target exceptions) (descs.Packed block t) is at = rw (at.0, at.1) ((is.1.is_order.known, refl), (is.1.is_target, is.1.is_order.room))
room_at codec lines (plan.Packed order target exceptions) (descs.Mid block small large i) is at = absurd at
room_at codec lines (plan.Packed order target exceptions) (descs.Raw block) is at = absurd at
room_at codec lines plan.Raw descs.Zero is at = absurd at
room_at codec lines plan.Raw (descs.Packed block target) is at = absurd at
room_at codec lines plan.Raw (descs.Mid block small large i) is at = absurd at
room_at codec lines plan.Raw (descs.Raw block) is at = refl

-- A page came to the plan of these lines, which are new in it.
module _ (s : Store) (memory : List ℕ) (sizes : List (List ℕ)) (kept : IsKept s memory sizes) (page : ℕ) (within : page < length s.descriptors) (lines : List (List ℕ)) (whole : length lines ≡ 64)
    (ds : List Desc) (used : List ℕ) (comes : ComesToPlan s.descriptors s.used page (plan_of s.codec lines) ds used) (sound : AreSound ds used) (frames : length used ≡ length s.used)
    (range : IsInRange (plan_of s.codec lines)) where
  desc_new : desc_at ds page ≡ comes.desc
  desc_new = ap (λ (xs : List Desc). desc_at xs page) comes.descriptors_are ∙ get_or-set_same s.descriptors page comes.desc descs.Zero within

  blocks : AreSound (set s.descriptors page comes.desc) used
  blocks = subst (λ (xs : List Desc). AreSound xs used) comes.descriptors_are sound

  shaped : IsShaped comes.desc
  shaped = shaped_at (plan_of s.codec lines) comes.desc range comes.at_plan

  pub new_room : HasRoomFor s.codec (shape_of (desc_at ds page)) lines (size_of (shape_of (desc_at ds page)))
  new_room = rw desc_new (room_at s.codec lines (plan_of s.codec lines) comes.desc (IsPlan-plan_of s.codec lines) comes.at_plan)

  pub new_within : IsWithin memory (held_of (desc_at ds page))
  new_within =
      rw desc_new (block_within comes.desc used memory shaped
      (subst (λ o. IfSome o (IsUsedPlace used)) (block_at-same s.descriptors page comes.desc within) (block_live (set s.descriptors page comes.desc) used page blocks))
      (kept.in_memory ∙ ap (λ (n : ℕ). 4096 * n) (sym frames)))

  -- and was laid so
  module _ (memory' own : List ℕ) (changes : ChangesWithin (start_of (held_of (desc_at ds page))) (size_of (shape_of (desc_at ds page))) memory memory')
      (there : bytes_of memory' (held_of (desc_at ds page)) ≡ own) (page_sound : IsSoundPage s.codec (shape_of (desc_at ds page)) own)
      (content : content_of (shape_of (desc_at ds page)) own ≡ lines) (value : own ≡ bytes_for s.codec (shape_of (desc_at ds page)) lines) where
    inside : 64 * page + 64 ≤ length s.lines
    inside = omega (arith, kept.sound.whole)

    here : page_of (with_page s.lines page lines) page ≡ lines
    here = page_of-with s.lines page lines inside whole

    changes' : ChangesWithin (start_of (held_of comes.desc)) (size_of (shape_of comes.desc)) memory memory'
    changes' = rw desc_new at changes

    there' : bytes_of memory' (held_of comes.desc) ≡ own
    there' = rw desc_new at there

    page_sound' : IsSoundPage s.codec (shape_of comes.desc) own
    page_sound' = rw desc_new at page_sound

    content' : content_of (shape_of comes.desc) own ≡ lines
    content' = rw desc_new at content

    value' : laid_bytes s.codec (with_page s.lines page lines) page comes.desc ≡ own
    value' = ap (bytes_for s.codec (shape_of comes.desc)) here ∙ sym (rw desc_new at value)

    seen : store_in s.codec memory' (set s.descriptors page comes.desc) used (noted s.meta page (shape_of comes.desc) own) s.counts s.stops s.cursor
        ≡ record s { lines = with_page s.lines page lines; descriptors = set s.descriptors page comes.desc; bytes = set s.bytes page own; used = used; meta = noted s.meta page (shape_of comes.desc) own }
    seen =
        change.seen_after s memory sizes kept page within comes.desc own used s.counts s.stops shaped page_sound' blocks frames memory' changes' there'
        ∙ ap (λ (ls : List (List ℕ)). record s {
          lines = with_page s.lines page ls;
          descriptors = set s.descriptors page comes.desc;
          bytes = set s.bytes page own;
          used = used;
          meta = noted s.meta page (shape_of comes.desc) own;
        }) content'

    pub lays : Lays s page (with_page s.lines page lines) (store_in s.codec memory' ds used (noted s.meta page (shape_of (desc_at ds page)) own) s.counts s.stops s.cursor)
    lays =
        let made : Lays s page (with_page s.lines page lines) (store_in s.codec memory' (set s.descriptors page comes.desc) used (noted s.meta page (shape_of comes.desc) own) s.counts s.stops s.cursor) = record {
          comes = record {
            desc = comes.desc;
            at_plan = subst (λ (ls : List (List ℕ)). IsAtPlan (plan_of s.codec ls) comes.desc) (sym here) comes.at_plan;
            new_block = comes.new_block;
            descriptors_are = refl;
            used_is = comes.used_is;
          };
          is = seen ∙ ap (λ (b : List ℕ). record s {
            lines = with_page s.lines page lines;
            descriptors = set s.descriptors page comes.desc;
            bytes = set s.bytes page b;
            used = used;
            meta = noted s.meta page (shape_of comes.desc) b;
          }) (sym value');
        } in
        rw (desc_new, comes.descriptors_are) made

    pub kept_laid : (own_sizes : List ℕ) → own_sizes ≡ kept_sizes s.codec lines
        → IsKept (store_in s.codec memory' ds used (noted s.meta page (shape_of (desc_at ds page)) own) s.counts s.stops s.cursor) memory' (set sizes page own_sizes)
    kept_laid own_sizes sized =
        rw (desc_new, comes.descriptors_are) (subst (λ (t : Store). IsKept t memory' (set sizes page own_sizes))
        (sym (change.seen_after s memory sizes kept page within comes.desc own used s.counts s.stops shaped page_sound' blocks frames memory' changes' there'))
        (change.kept_after s memory sizes kept page within comes.desc own used s.counts s.stops shaped page_sound' blocks frames memory' changes' there' own_sizes
        (sized ∙ ap (kept_sizes s.codec) (sym content'))))

  -- the same of what a body finds: `m` is the memory that was lent, and `m'` what came back of it
  module _ (new : Held) (new_is : new ≡ held_of (desc_at ds page)) (m m' kept_memory read : List ℕ) (m_is : m ≡ memory) (back : kept_memory ≡ m') (read_is : read ≡ kept_memory)
      (given : List (List ℕ)) (gathered : given ≡ lines) (changes : ChangesWithin (start_of new) (size_of new.shape) m m') (page_sound : IsSoundPage s.codec new.shape (bytes_of m' new))
      (content : content_of new.shape (bytes_of m' new) ≡ given) (value : bytes_of m' new ≡ bytes_for s.codec new.shape given)
      (meta : Kept) (notes : meta ≡ noted s.meta page new.shape (bytes_of read new)) where
    changes_here : ChangesWithin (start_of (held_of (desc_at ds page))) (size_of (shape_of (desc_at ds page))) memory m'
    changes_here = subst (λ (h : Held). ChangesWithin (start_of h) (size_of h.shape) memory m') new_is (subst (λ (x : List ℕ). ChangesWithin (start_of new) (size_of new.shape) x m') m_is changes)

    sound_here : IsSoundPage s.codec (shape_of (desc_at ds page)) (bytes_of m' (held_of (desc_at ds page)))
    sound_here = subst (λ (h : Held). IsSoundPage s.codec h.shape (bytes_of m' h)) new_is page_sound

    content_here : content_of (shape_of (desc_at ds page)) (bytes_of m' (held_of (desc_at ds page))) ≡ lines
    content_here = subst (λ (h : Held). content_of h.shape (bytes_of m' h) ≡ lines) new_is (content ∙ gathered)

    value_here : bytes_of m' (held_of (desc_at ds page)) ≡ bytes_for s.codec (shape_of (desc_at ds page)) lines
    value_here = subst (λ (h : Held). bytes_of m' h ≡ bytes_for s.codec h.shape lines) new_is (value ∙ ap (bytes_for s.codec new.shape) gathered)

    notes_here : meta ≡ noted s.meta page (shape_of (desc_at ds page)) (bytes_of m' (held_of (desc_at ds page)))
    notes_here = notes ∙ ap (λ (x : List ℕ). noted s.meta page new.shape (bytes_of x new)) (read_is ∙ back) ∙ ap (λ (h : Held). noted s.meta page h.shape (bytes_of m' h)) new_is

    pub lays_by : Lays s page (with_page s.lines page lines) (store_in s.codec kept_memory ds used meta s.counts s.stops s.cursor)
    lays_by = rw (back, notes_here) (lays m' (bytes_of m' (held_of (desc_at ds page))) changes_here refl sound_here content_here value_here)

    pub kept_by : (own_sizes : List ℕ) → own_sizes ≡ kept_sizes s.codec lines → IsKept (store_in s.codec kept_memory ds used meta s.counts s.stops s.cursor) kept_memory (set sizes page own_sizes)
    kept_by own_sizes sized = rw (back, notes_here) (kept_laid m' (bytes_of m' (held_of (desc_at ds page))) changes_here refl sound_here content_here value_here own_sizes sized)

-- one line of a page as another line of all
pub line_with : (lines : List (List ℕ)) (page line : ℕ) (from : List ℕ) → line < 64 → with_page lines page (set (page_of lines page) line from) ≡ set lines (64 * page + line) from
line_with lines page line from line_in =
    let i = 64 * page + line in
    let high : (64 * page + line) / 64 ≡ page = omega arith in
    let low : (64 * page + line) % 64 ≡ line = omega arith in
    let whole : with_page lines ((64 * page + line) / 64) (set (page_of lines ((64 * page + line) / 64)) ((64 * page + line) % 64) from) ≡ set lines (64 * page + line) from =
    ap (with_page lines ((64 * page + line) / 64)) (sym (page_of-set lines (64 * page + line) from)) ∙ with_page-set lines (64 * page + line) from in
    subst (λ (p : ℕ). with_page lines p (set (page_of lines p) line from) ≡ set lines (64 * page + line) from) high
    (subst (λ (j : ℕ). with_page lines ((64 * page + line) / 64) (set (page_of lines ((64 * page + line) / 64)) j from) ≡ set lines (64 * page + line) from) low whole)

-- A line was put into its page's block.
module _ (s : Store) (memory : List ℕ) (sizes : List (List ℕ)) (kept : IsKept s memory sizes) (page : ℕ) (within : page < length s.descriptors) (line : ℕ) (line_in : line < 64) (from : List ℕ)
    (held : Held) (held_is : held ≡ held_of (desc_at s.descriptors page)) (m m' kept_memory : List ℕ) (m_is : m ≡ memory) (back : kept_memory ≡ m')
    (changes : ChangesWithin (start_of held) (size_of held.shape) m m') (page_sound : IsSoundPage s.codec held.shape (bytes_of m' held))
    (content : content_of held.shape (bytes_of m' held) ≡ set (content_of held.shape (bytes_of m held)) line from) where
  desc_same : set s.descriptors page (desc_at s.descriptors page) ≡ s.descriptors
  desc_same = set-get_or s.descriptors page descs.Zero

  put_changes : ChangesWithin (start_of (held_of (desc_at s.descriptors page))) (size_of (shape_of (desc_at s.descriptors page))) memory m'
  put_changes = subst (λ (h : Held). ChangesWithin (start_of h) (size_of h.shape) memory m') held_is (subst (λ (x : List ℕ). ChangesWithin (start_of held) (size_of held.shape) x m') m_is changes)

  put_sound : IsSoundPage s.codec (shape_of (desc_at s.descriptors page)) (bytes_of m' (held_of (desc_at s.descriptors page)))
  put_sound = subst (λ (h : Held). IsSoundPage s.codec h.shape (bytes_of m' h)) held_is page_sound

  put_content : content_of (shape_of (desc_at s.descriptors page)) (bytes_of m' (held_of (desc_at s.descriptors page))) ≡ set (page_of s.lines page) line from
  put_content =
      subst (λ (h : Held). content_of h.shape (bytes_of m' h) ≡ set (content_of h.shape (bytes_of memory h)) line from) held_is
      (subst (λ (x : List ℕ). content_of held.shape (bytes_of m' held) ≡ set (content_of held.shape (bytes_of x held)) line from) m_is content)
      ∙ ap (λ (ls : List (List ℕ)). set ls line from) (sym (own_lines s memory sizes kept page within))

  put_blocks : AreSound (set s.descriptors page (desc_at s.descriptors page)) s.used
  put_blocks = subst (λ (xs : List Desc). AreSound xs s.used) (sym desc_same) kept.sound.blocks_are

  pub seen_put : (meta : Kept) (read : List ℕ) → read ≡ kept_memory → meta ≡ noted s.meta page held.shape (bytes_of read held)
      → store_in s.codec kept_memory s.descriptors s.used meta s.counts s.stops s.cursor ≡ record s {
        lines = set s.lines (64 * page + line) from;
        bytes = set s.bytes page (bytes_of m' held);
        meta = noted s.meta page held.shape (bytes_of m' held);
      }
  seen_put meta read read_is notes =
      let made =
      change.seen_after s memory sizes kept page within (desc_at s.descriptors page) (bytes_of m' (held_of (desc_at s.descriptors page))) s.used s.counts s.stops
      (kept.sound.shaped page within) put_sound put_blocks refl m' put_changes refl in
      let lines = ap (with_page s.lines page) put_content ∙ line_with s.lines page line from line_in in
      let meta_is : meta ≡ noted s.meta page held.shape (bytes_of m' held) = notes ∙ ap (λ (x : List ℕ). noted s.meta page held.shape (bytes_of x held)) (read_is ∙ back) in
      rw (back, meta_is, held_is, ← lines)
      (subst (λ (xs : List Desc). store_in s.codec m' xs s.used (noted s.meta page (shape_of (desc_at s.descriptors page)) (bytes_of m' (held_of (desc_at s.descriptors page)))) s.counts s.stops s.cursor ≡ record s {
        lines = with_page s.lines page (content_of (shape_of (desc_at s.descriptors page)) (bytes_of m' (held_of (desc_at s.descriptors page))));
        descriptors = xs;
        bytes = set s.bytes page (bytes_of m' (held_of (desc_at s.descriptors page)));
        meta = noted s.meta page (shape_of (desc_at s.descriptors page)) (bytes_of m' (held_of (desc_at s.descriptors page)));
      }) desc_same made)

  pub kept_put : (meta : Kept) (read : List ℕ) (own_sizes : List ℕ) → read ≡ kept_memory → meta ≡ noted s.meta page held.shape (bytes_of read held)
      → own_sizes ≡ kept_sizes s.codec (set (page_of s.lines page) line from)
      → IsKept (store_in s.codec kept_memory s.descriptors s.used meta s.counts s.stops s.cursor) kept_memory (set sizes page own_sizes)
  kept_put meta read own_sizes read_is notes sized =
      let seen =
      change.seen_after s memory sizes kept page within (desc_at s.descriptors page) (bytes_of m' (held_of (desc_at s.descriptors page))) s.used s.counts s.stops
      (kept.sound.shaped page within) put_sound put_blocks refl m' put_changes refl in
      let made =
      change.kept_after s memory sizes kept page within (desc_at s.descriptors page) (bytes_of m' (held_of (desc_at s.descriptors page))) s.used s.counts s.stops
      (kept.sound.shaped page within) put_sound put_blocks refl m' put_changes refl own_sizes (sized ∙ ap (kept_sizes s.codec) (sym put_content)) in
      let meta_is : meta ≡ noted s.meta page (shape_of (desc_at s.descriptors page)) (bytes_of m' (held_of (desc_at s.descriptors page))) =
      notes ∙ ap (λ (x : List ℕ). noted s.meta page held.shape (bytes_of x held)) (read_is ∙ back) ∙ ap (λ (h : Held). noted s.meta page h.shape (bytes_of m' h)) held_is in
      rw (back, meta_is)
      (subst (λ (xs : List Desc). IsKept (store_in s.codec m' xs s.used (noted s.meta page (shape_of (desc_at s.descriptors page)) (bytes_of m' (held_of (desc_at s.descriptors page)))) s.counts s.stops s.cursor) m' (set sizes page own_sizes))
      desc_same (subst (λ (t : Store). IsKept t m' (set sizes page own_sizes)) (sym seen) made))

-- the sizes of a page in which one line is another
pub sizes_with : (s : Store) (memory : List ℕ) (sizes : List (List ℕ)) → IsKept s memory sizes → (page line : ℕ) (from before own_sizes : List ℕ) → page < length s.descriptors
    → before ≡ get_or sizes page before → own_sizes ≡ set before line (kept_size s.codec from) → own_sizes ≡ kept_sizes s.codec (set (page_of s.lines page) line from)
sizes_with s memory sizes kept page line from before own_sizes within read is =
    is ∙ ap (λ (xs : List ℕ). set xs line (kept_size s.codec from)) (sizes_at s memory sizes kept page before within read) ∙ sym (map-set (kept_size s.codec) (page_of s.lines page) line from)

-- zeros that are written to a page of zeros
pub zeros_stay : (s : Store) (memory : List ℕ) (sizes : List (List ℕ)) → IsKept s memory sizes → (line : ℕ) (bytes : List ℕ) → line < length s.lines → shape_at s (line / 64) ≡ shapes.Zero → bytes ≡ zero_line
    → s.lines ≡ set s.lines line bytes
zeros_stay s memory sizes kept line bytes within is_zero zeros =
    let split : 64 * (line / 64) + line % 64 ≡ line = omega arith in
    let pages : length (helds s.descriptors) ≡ length s.descriptors = length-helds s.descriptors in
    let at : get_or s.lines line [] ≡ zero_line =
    ap (get_or s.lines line) refl ∙ ap (λ (n : ℕ). get_or s.lines n []) (sym split) ∙ ap (λ (ls : List (List ℕ)). get_or ls (64 * (line / 64) + line % 64) []) kept.sound.says
    ∙ line_at (helds s.descriptors) s.bytes (line / 64) (line % 64) (omega (arith, within, kept.sound.whole, pages)) (omega arith)
    ∙ ap (λ (f : Shape). line_of f (bytes_at s.bytes (line / 64)) (line % 64)) is_zero in
    sym (ap (set s.lines line) (zeros ∙ sym at) ∙ set-get_or s.lines line [])
