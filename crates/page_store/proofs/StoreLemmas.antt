-- A store whose lines change in one page.
use Rattle.std.proofs.Common.{◌≡◌, ◌≢◌, ◌<◌, ◌≤◌, ◌+◌, ◌-◌, ◌*◌, ◌∙◌, ℕ, Some, Ok, Err, List, [], ◌++◌, length, set, take, drop, replicate, slice_get, refl, sym, ap, subst, inl, inr, arith}
use Rattle.std.proofs.lemmas.Bool.{cases_eq}
use Rattle.std.proofs.lemmas.List.{length-set, get_or-set_same, get_or-set_other, drop-replicate, take-replicate}
use Rattle.std.proofs.lemmas.List.Elements.{All-append, All-take, All-drop}
use Rattle.std.proofs.lemmas.Option.{none-some}
use Rattle.hier_types.specs.Lines.{AreLines, zero_line}
use Rattle.hier_types.specs.Calls.{Answer}
use Rattle.hier_types.specs.declared.counts.PageCounts.{PageCounts}
use Rattle.hier_types.proofs.TableLemmas.{length-tabulate}
use Rattle.page_plan.specs.KeptSizes.{kept_sizes}
use Rattle.page_slots.specs.declared.desc.Desc.{Desc}
use Rattle.page_slots.specs.declared.desc.Desc.TheVariants as descs
use Rattle.page_plan.specs.Pages.{page_of, with_page}
use Rattle.page_slots.proofs.ContentLemmas.{content_lines}
use Rattle.page_store.specs.PageBlocks.{AreSound}
use Rattle.page_store.specs.Store.{Store, HasZero, IsCopy, IsKept, IsSound, desc_at, store_in}
use Rattle.page_store.specs.Calls.{PlacesPage}
use Rattle.page_store.proofs.ListLemmas.{get-set_same, get-set_other}
use Rattle.page_plan.proofs.PageLemmas.{length-with_page, page_of-with, page_of-with_other}
use Rattle.byte_parts.specs.Parts.{ChangesWithin}
use Rattle.meta_cache.specs.Entries.{AreDistinct}
use Rattle.meta_cache.proofs.EntryLemmas.{distinct_forgotten, distinct_with_copy, forgotten_other, forgotten_page, with_copy_other, with_copy_page}
use Rattle.page_slots.specs.declared.desc.Shape.{Shape}
use Rattle.page_slots.specs.declared.desc.Shape.TheVariants as shapes
use Rattle.page_slots.specs.Descs.{content_of, line_of, shape_of, size_of}
use Rattle.page_slots.specs.Sound.{IsSound as IsSoundPage}
use Rattle.page_store.specs.declared.room.Held.{Held}
use Rattle.page_store.specs.Noted.{noted}
use Rattle.page_store.specs.Rooms.{IsShaped, IsWithin, Fills, ShareNone, all_bytes, all_lines, bytes_at, bytes_of, held_at, held_of, helds, start_of}
use Rattle.page_store.proofs.BlockRoomLemmas.{page_within, pages_share_none}
use Rattle.page_store.proofs.RoomLemmas.{bytes_with, helds_at, helds_set, length-helds, lines_after, others_stay}
use Rattle.recency.specs.declared.entry.Entry.{Entry}
use Rattle.recency.specs.Kept.{Kept, entry_of}

-- lines that are new in one page alone
pub record AreNewIn (before : List (List ℕ)) (page : ℕ) (after : List (List ℕ)) : Type 0 where
  pub same : length after ≡ length before
  pub lines_are : AreLines after
  pub others : (q : ℕ) → q ≢ page → page_of after q ≡ page_of before q

-- another page's lines
pub page_new : (lines : List (List ℕ)) (page : ℕ) (others : List (List ℕ)) → 64 * page + 64 ≤ length lines → length others ≡ 64 → AreLines lines → AreLines others
    → AreNewIn lines page (with_page lines page others)
page_new lines page others inside whole are are_others = record {
  same = length-with_page lines page others inside whole;
  lines_are =
      All-append (λ line. length line ≡ 64) (take (64 * page) lines ++ others) (drop (64 * page + 64) lines)
      (All-append (λ line. length line ≡ 64) (take (64 * page) lines) others (All-take (λ line. length line ≡ 64) (64 * page) lines are) are_others)
      (All-drop (λ line. length line ≡ 64) (64 * page + 64) lines are);
  others = page_of-with_other lines page others inside whole;
}

-- the lines of one page have 64 bytes
pub lines_of_one : (lines : List (List ℕ)) (page : ℕ) → AreLines lines → AreLines (page_of lines page)
lines_of_one lines page are = All-take (λ line. length line ≡ 64) 64 (drop (64 * page) lines) (All-drop (λ line. length line ≡ 64) (64 * page) lines are)

-- the entries after a page became other bytes
noted_page : (meta : Kept) (page : ℕ) (shape : Shape) (own : List ℕ) (e : Entry) → AreDistinct meta.lines → entry_of (noted meta page shape own).lines page ≡ Some e → IsCopy shape own e.bytes
noted_page meta page shapes.Zero own e distinct is = absurd (none-some e (sym (forgotten_page meta page distinct) ∙ is))
noted_page meta page shapes.Raw own e distinct is = absurd (none-some e (sym (forgotten_page meta page distinct) ∙ is))
noted_page meta page (shapes.Slotted slots) own e distinct is = with_copy_page meta page (take 64 own) e is

noted_other : (meta : Kept) (page : ℕ) (shape : Shape) (own : List ℕ) (q : ℕ) → q ≢ page → entry_of (noted meta page shape own).lines q ≡ entry_of meta.lines q
noted_other meta page shapes.Zero own q ne = forgotten_other meta page q ne
noted_other meta page shapes.Raw own q ne = forgotten_other meta page q ne
noted_other meta page (shapes.Slotted slots) own q ne = with_copy_other meta page (take 64 own) q ne

noted_distinct : (meta : Kept) (page : ℕ) (shape : Shape) (own : List ℕ) → AreDistinct meta.lines → AreDistinct (noted meta page shape own).lines
noted_distinct meta page shapes.Zero own distinct = distinct_forgotten meta page distinct
noted_distinct meta page shapes.Raw own distinct = distinct_forgotten meta page distinct
noted_distinct meta page (shapes.Slotted slots) own distinct = distinct_with_copy meta page (take 64 own) distinct

pub noted_ways : (meta : Kept) (page : ℕ) (shape : Shape) (own : List ℕ) → (noted meta page shape own).ways ≡ meta.ways
noted_ways meta page shapes.Zero own = refl
noted_ways meta page shapes.Raw own = refl
noted_ways meta page (shapes.Slotted slots) own = refl

-- One page is kept otherwise, or in other bytes: the store stays as it is to be kept.
module _ (s : Store) (memory : List ℕ) (sizes : List (List ℕ)) (kept : IsKept s memory sizes) (page : ℕ) (within : page < length s.descriptors) (desc : Desc) (own : List ℕ)
    (used : List ℕ) (counts : PageCounts) (stops : ℕ) (shaped : IsShaped desc) (page_sound : IsSoundPage s.codec (shape_of desc) own)
    (blocks : AreSound (set s.descriptors page desc) used) (frames : length used ≡ length s.used) where
  -- the store after it
  abbrev pub after : Store
  after = record s {
    lines = with_page s.lines page (content_of (shape_of desc) own);
    descriptors = set s.descriptors page desc;
    bytes = set s.bytes page own;
    used = used;
    meta = noted s.meta page (shape_of desc) own;
    counts = counts;
    stops = stops;
  }

  inside : 64 * page + 64 ≤ length s.lines
  inside = omega (arith, kept.sound.whole)

  whole : length (content_of (shape_of desc) own) ≡ 64
  whole = length-tabulate (line_of (shape_of desc) own) 64

  pub new_lines : AreNewIn s.lines page (with_page s.lines page (content_of (shape_of desc) own))
  new_lines = page_new s.lines page (content_of (shape_of desc) own) inside whole kept.sound.lines_are (content_lines s.codec (shape_of desc) own page_sound)

  same_pages : length (set s.descriptors page desc) ≡ length s.descriptors
  same_pages = length-set s.descriptors page desc

  desc_here : desc_at (set s.descriptors page desc) page ≡ desc
  desc_here = get_or-set_same s.descriptors page desc descs.Zero within

  desc_there' : (q : ℕ) → q ≢ page → desc_at (set s.descriptors page desc) q ≡ desc_at s.descriptors q
  desc_there' q ne = get_or-set_other s.descriptors page q desc descs.Zero ne

  pub shaped_after : (q : ℕ) → q < length (set s.descriptors page desc) → IsShaped (desc_at (set s.descriptors page desc) q)
  shaped_after q q_in = elim (cases_eq q page) [
    | inl e ↦ subst (λ (p : ℕ). IsShaped (desc_at (set s.descriptors page desc) p)) (sym e) (subst IsShaped (sym desc_here) shaped)
    | inr ne ↦ subst IsShaped (sym (desc_there' q ne)) (kept.sound.shaped q (omega (arith, same_pages)))
  ]

  held_here : held_at (helds (set s.descriptors page desc)) page ≡ held_of desc
  held_here = helds_at (set s.descriptors page desc) page (omega (arith, same_pages)) ∙ ap held_of desc_here

  held_other : (q : ℕ) → q ≢ page → held_at (helds (set s.descriptors page desc)) q ≡ held_at (helds s.descriptors) q
  held_other q ne = ap (λ hs. held_at hs q) (helds_set s.descriptors page desc) ∙ get_or-set_other (helds s.descriptors) page q (held_of desc) (record { shape = shapes.Zero; unit = 0 }) ne

  paged : length s.bytes ≡ length (helds s.descriptors)
  paged = kept.sound.paged ∙ sym (length-helds s.descriptors)

  bytes_here : bytes_at (set s.bytes page own) page ≡ own
  bytes_here = get_or-set_same s.bytes page own [] (omega (arith, kept.sound.paged))

  bytes_there : (q : ℕ) → q ≢ page → bytes_at (set s.bytes page own) q ≡ bytes_at s.bytes q
  bytes_there q ne = get_or-set_other s.bytes page q own [] ne

  says_after : with_page s.lines page (content_of (shape_of desc) own) ≡ all_lines (helds (set s.descriptors page desc)) (set s.bytes page own)
  says_after =
      ap (λ (ls : List (List ℕ)). with_page ls page (content_of (shape_of desc) own)) kept.sound.says
      ∙ sym (lines_after (helds s.descriptors) s.bytes page (held_of desc) own (omega (arith, length-helds s.descriptors)) paged)
      ∙ ap (λ (hs : List Held). all_lines hs (set s.bytes page own)) (sym (helds_set s.descriptors page desc))

  sound_page : (q : ℕ) → q < length (set s.descriptors page desc) → IsSoundPage s.codec (held_at (helds (set s.descriptors page desc)) q).shape (bytes_at (set s.bytes page own) q)
  sound_page q q_in = elim (cases_eq q page) [
    | inl e ↦ subst (λ (p : ℕ). IsSoundPage s.codec (held_at (helds (set s.descriptors page desc)) p).shape (bytes_at (set s.bytes page own) p)) (sym e)
        (rw (held_here, bytes_here) page_sound)
    | inr ne ↦ rw (held_other q ne, bytes_there q ne) (kept.sound.pages_are q (omega (arith, same_pages)))
  ]

  copies_after : (q : ℕ) (e : Entry) → entry_of (noted s.meta page (shape_of desc) own).lines q ≡ Some e
      → IsCopy (held_at (helds (set s.descriptors page desc)) q).shape (bytes_at (set s.bytes page own) q) e.bytes
  copies_after q e is = elim (cases_eq q page) [
    | inl same ↦ subst (λ (p : ℕ). IsCopy (held_at (helds (set s.descriptors page desc)) p).shape (bytes_at (set s.bytes page own) p) e.bytes) (sym same)
        (rw (held_here, bytes_here) (noted_page s.meta page (shape_of desc) own e kept.sound.distinct (subst (λ (p : ℕ). entry_of (noted s.meta page (shape_of desc) own).lines p ≡ Some e) same is)))
    | inr ne ↦ rw (held_other q ne, bytes_there q ne) (kept.sound.copies q e (sym (noted_other s.meta page (shape_of desc) own q ne) ∙ is))
  ]

  pub sound_after : IsSound after
  sound_after = record {
    some = subst (λ n. 1 ≤ n) (sym same_pages) kept.sound.some;
    most = subst (λ n. n ≤ 65536) (sym same_pages) kept.sound.most;
    whole = new_lines.same ∙ kept.sound.whole ∙ ap (λ n. 64 * n) (sym same_pages);
    lines_are = new_lines.lines_are;
    blocks_are = blocks;
    shaped = shaped_after;
    paged = length-set s.bytes page own ∙ kept.sound.paged ∙ sym same_pages;
    pages_are = sound_page;
    says = says_after;
    copies = copies_after;
    distinct = noted_distinct s.meta page (shape_of desc) own kept.sound.distinct;
    cursor_in = subst (λ n. s.cursor < n) (sym same_pages) kept.sound.cursor_in;
  }

  long : length memory ≡ 4096 * length used
  long = kept.in_memory ∙ ap (λ (n : ℕ). 4096 * n) (sym frames)

  -- the memory in which the page's block has these bytes, and every other block those that it had
  module _ (memory' : List ℕ) (same : length memory' ≡ length memory) (there : bytes_of memory' (held_of desc) ≡ own)
      (stay : (q : ℕ) → q < length (helds s.descriptors) → q ≢ page → bytes_of memory' (held_at (helds s.descriptors) q) ≡ bytes_of memory (held_at (helds s.descriptors) q)) where
    all_bytes_with : all_bytes memory' (helds (set s.descriptors page desc)) ≡ set s.bytes page own
    all_bytes_with =
        ap (all_bytes memory') (helds_set s.descriptors page desc)
        ∙ bytes_with memory (helds s.descriptors) page (held_of desc) own memory' (omega (arith, length-helds s.descriptors)) there stay
        ∙ ap (λ (bs : List (List ℕ)). set bs page own) (sym kept.stands)

    -- what is seen of it
    pub seen_with : store_in s.codec memory' (set s.descriptors page desc) used (noted s.meta page (shape_of desc) own) counts stops s.cursor ≡ after
    seen_with =
        let bytes : all_bytes memory' (helds (set s.descriptors page desc)) ≡ set s.bytes page own = all_bytes_with in
        let lines : all_lines (helds (set s.descriptors page desc)) (all_bytes memory' (helds (set s.descriptors page desc))) ≡ with_page s.lines page (content_of (shape_of desc) own) =
        ap (all_lines (helds (set s.descriptors page desc))) bytes ∙ sym says_after in
        rw (lines, bytes) refl

    pub kept_with : (own_sizes : List ℕ) → own_sizes ≡ kept_sizes s.codec (content_of (shape_of desc) own) → IsKept after memory' (set sizes page own_sizes)
    kept_with own_sizes sized =
        let counted : length sizes ≡ length s.descriptors = kept.counted in
        record {
          sound = sound_after;
          stands = sym all_bytes_with;
          in_memory = same ∙ long;
          counted = length-set sizes page own_sizes ∙ counted ∙ sym same_pages;
          sized = λ q lt. elim (cases_eq q page) [
            | inl same ↦
                let here : page_of (with_page s.lines page (content_of (shape_of desc) own)) page ≡ content_of (shape_of desc) own = page_of-with s.lines page (content_of (shape_of desc) own) inside whole in
                let there : slice_get (set sizes page own_sizes) page ≡ Some (kept_sizes s.codec (page_of (with_page s.lines page (content_of (shape_of desc) own)) page)) =
                get-set_same sizes page own_sizes (omega arith) ∙ ap Some (sized ∙ ap (kept_sizes s.codec) (sym here)) in
                subst (λ (r : ℕ). slice_get (set sizes page own_sizes) r ≡ Some (kept_sizes s.codec (page_of (with_page s.lines page (content_of (shape_of desc) own)) r))) (sym same) there
            | inr ne ↦
                let before_lt : q < length sizes = omega (arith, length-set sizes page own_sizes) in
                get-set_other sizes page q own_sizes ne ∙ kept.sized q before_lt ∙ ap (λ l. Some (kept_sizes s.codec l)) (sym (new_lines.others q ne))
          ];
        }

  -- the memory in which the page's block was filled
  module _ (memory' : List ℕ) (changes : ChangesWithin (start_of (held_of desc)) (size_of (shape_of desc)) memory memory') (there : bytes_of memory' (held_of desc) ≡ own) where
    fills : Fills s.codec memory (helds s.descriptors) page (held_of desc) own memory'
    fills =
        let at = same_pages in
        record {
          within = subst (IsWithin memory) held_here (page_within (set s.descriptors page desc) used memory blocks shaped_after long page (omega arith));
          apart = λ q q_in ne.
              let q_in' : q < length s.descriptors = omega (arith, length-helds s.descriptors) in
              subst (λ h. ShareNone h (held_of desc)) (held_other q ne) (subst (ShareNone (held_at (helds (set s.descriptors page desc)) q)) held_here
              (pages_share_none (set s.descriptors page desc) used memory blocks shaped_after long q page (omega arith) (omega arith) ne));
          changes = changes;
          sound = page_sound;
          there = there;
        }

    stay : (q : ℕ) → q < length (helds s.descriptors) → q ≢ page → bytes_of memory' (held_at (helds s.descriptors) q) ≡ bytes_of memory (held_at (helds s.descriptors) q)
    stay =
        others_stay s.codec memory (helds s.descriptors) page (held_of desc) own memory' (omega (arith, length-helds s.descriptors))
        (λ q q_in. page_within s.descriptors s.used memory kept.sound.blocks_are kept.sound.shaped kept.in_memory q (omega (arith, length-helds s.descriptors))) fills

    pub seen_after : store_in s.codec memory' (set s.descriptors page desc) used (noted s.meta page (shape_of desc) own) counts stops s.cursor ≡ after
    seen_after = seen_with memory' changes.same_length there stay

    pub kept_after : (own_sizes : List ℕ) → own_sizes ≡ kept_sizes s.codec (content_of (shape_of desc) own) → IsKept after memory' (set sizes page own_sizes)
    kept_after own_sizes sized = kept_with memory' changes.same_length there stay own_sizes sized

-- a page of the memory at its start
pub zero_page : (n page : ℕ) → page < n → page_of (replicate (64 * n) zero_line) page ≡ replicate 64 zero_line
zero_page n page lt = ap (take 64) (drop-replicate (64 * page) (64 * n) zero_line) ∙ take-replicate 64 (64 * n - 64 * page) zero_line (omega arith)

-- a page that is placed leaves every other page that is zero
pub placed_others : (s : Store) (page : ℕ) (bytes : List ℕ) (answer : Answer) (t : Store) (other : ℕ) → PlacesPage s page bytes answer t → other ≢ page → HasZero s other → HasZero t other
placed_others s page bytes (Ok u) t other places ne zero = places.outline.zeros_stay other ne zero
placed_others s page bytes (Err refusal) t other refused ne zero = refused.outline.zeros_stay other ne zero
