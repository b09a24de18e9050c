-- Where the pages of a sound store lie, and what their places say of their lines.
use Rattle.std.proofs.Common.{◌≡◌, ◌≢◌, ◌<◌, ◌≤◌, ◌+◌, ◌*◌, ◌^◌, ◌%◌, ◌∙◌, ℕ, Option, Some, None, List, [], length, option_map, slice_get, refl, sym, ap, subst, inl, inr, arith}
use Rattle.std.specs.Option.{option_and_then}
use Rattle.std.proofs.lemmas.Bool.{cases_lt}
use Rattle.std.proofs.lemmas.List.{get_or_past}
use Rattle.std.proofs.lemmas.Option.{none-some, same_Some, slice_get-get_or, slice_get_cases}
use Rattle.buddy_frames.specs.Units.{Place, past, IsPlace}
use Rattle.buddy_frames.proofs.PlaceLemmas.{four}
use Rattle.page_slots.specs.declared.desc.Desc.{Desc}
use Rattle.page_slots.specs.declared.desc.Shape.TheVariants.{Zero}
use Rattle.page_slots.specs.declared.placing.PlaceRow.{PlaceRow}
use Rattle.page_slots.specs.Descs.{block_of, line_of, shape_of, size_of}
use Rattle.page_slots.specs.Places.{SuitsLine, place_of}
use Rattle.page_slots.specs.Sound.{IsSound as IsSoundPage}
use Rattle.page_slots.proofs.ContentLemmas.{size_sound}
use Rattle.page_slots.proofs.PlaceLemmas.{apart, fit, one_place, suits}
use Rattle.page_store.specs.declared.room.Held.{Held}
use Rattle.page_store.specs.PageBlocks.{base_at, block_at}
use Rattle.page_store.specs.Rooms.{all_lines, bytes_at, helds}
use Rattle.page_store.specs.Layouts.{LiesInFrames, SoundStoresAreLaidOut, block_size, place_in}
use Rattle.page_store.specs.Store.{IsSound, Store, desc_at, shape_at}
use Rattle.page_store.proofs.BlockRoomLemmas.{base_none, block_there, ends_of}
use Rattle.page_store.proofs.RoomLemmas.{helds_at, length-all_lines, length-helds, line_at}

-- the block that begins at a base
record HasBase (ds : List Desc) (page base : ℕ) : Type 0 where
  block : Place
  there : block_at ds page ≡ Some block
  is_base : 512 * block.unit ≡ base

has_base : (ds : List Desc) (page base : ℕ) → base_at ds page ≡ Some base → HasBase ds page base
has_base ds page base e = go (block_at ds page) refl
  where
    first : Place → ℕ
    first block = 512 * block.unit

    go : (o : Option Place) → block_at ds page ≡ o → HasBase ds page base
    go None is = absurd (none-some base (sym (ap (option_map first) is) ∙ e))
    go (Some block) is = record { block = block; there = is; is_base = same_Some (512 * block.unit) base (sym (ap (option_map first) is) ∙ e) }

page_in : (ds : List Desc) (page : ℕ) (block : Place) → block_at ds page ≡ Some block → page < length ds
page_in ds page block e = elim (slice_get_cases ds page).1 [
  | inl found ↦ found.1
  | inr past ↦ absurd (none-some block (sym (ap (option_and_then block_of) past.1) ∙ e))
]

module _ (s : Store) (sound : IsSound s) where
  -- the units of the block that begins at a base
  record Spans (page base : ℕ) : Type 0 where
    block : Place
    there : block_at s.descriptors page ≡ Some block
    within : page < length s.descriptors
    is_base : 512 * block.unit ≡ base
    is_past : base + block_size s page ≡ 512 * past block
    lies : IsPlace s.used block

  spans : (page base : ℕ) → base_at s.descriptors page ≡ Some base → Spans page base
  spans page base e =
      let has = has_base s.descriptors page base e in
      let within = page_in s.descriptors page has.block has.there in
      let d = desc_at s.descriptors page in
      let ends = ends_of d has.block (sym (block_there s.descriptors page within) ∙ has.there) (sound.shaped page within) in
      let shape : shape_at s page ≡ shape_of d = ap (λ (h : Held). h.shape) (helds_at s.descriptors page within) in
      let size : block_size s page ≡ size_of (shape_of d) =
      size_sound s.codec (shape_at s page) (bytes_at s.bytes page) (sound.pages_are page within) ∙ ap size_of shape in
      record {
        block = has.block;
        there = has.there;
        within = within;
        is_base = has.is_base;
        is_past = omega (arith, ends, has.is_base, size);
        lies = (sound.blocks_are.live page has.block has.there).lies;
      }

  lies_in_frames : (page base : ℕ) → base_at s.descriptors page ≡ Some base → LiesInFrames s (block_size s page) base
  lies_in_frames page base e =
      let at = spans page base e in
      let unit = at.block.unit in
      let size : block_size s page ≡ 512 * 2 ^ at.block.order = omega (arith, at.is_base, at.is_past) in
      record {
        inside = omega (arith, at.is_past, at.lies.within);
        aligned = four (λ k. unit % 2 ^ k ≡ 0 → block_size s page ≡ 512 * 2 ^ k → base % block_size s page ≡ 0) at.block.order at.lies.known
            (λ al is. subst (λ n. base % n ≡ 0) (sym is) (omega (arith, at.is_base)))
            (λ al is. subst (λ n. base % n ≡ 0) (sym is) (omega (arith, at.is_base)))
            (λ al is. subst (λ n. base % n ≡ 0) (sym is) (omega (arith, at.is_base)))
            (λ al is. subst (λ n. base % n ≡ 0) (sym is) (omega (arith, at.is_base)))
            at.lies.aligned size;
      }

  -- past the last page there is nothing
  past_last : (page : ℕ) → length s.descriptors ≤ page → shape_at s page ≡ Zero
  past_last page le = ap (λ (h : Held). h.shape) (get_or_past (helds s.descriptors) page (record { shape = Zero; unit = 0 }) (omega (arith, length-helds s.descriptors)))

  page_sound : (page : ℕ) → IsSoundPage s.codec (shape_at s page) (bytes_at s.bytes page)
  page_sound page = elim (cases_lt page (length s.descriptors)) [
    | inl within ↦ sound.pages_are page within
    | inr le ↦ subst (λ f. IsSoundPage s.codec f (bytes_at s.bytes page)) (sym (past_last page le))
        (ap length (get_or_past s.bytes page [] (omega (arith, sound.paged))))
  ]

  not_zero : (page : ℕ) → base_at s.descriptors page ≢ None → shape_at s page ≢ Zero
  not_zero page some is = elim (cases_lt page (length s.descriptors)) [
    | inl within ↦
        let shape : shape_of (desc_at s.descriptors page) ≡ Zero = sym (ap (λ (h : Held). h.shape) (helds_at s.descriptors page within)) ∙ is in
        some (ap (option_map (λ (block : Place). 512 * block.unit)) (block_there s.descriptors page within) ∙ base_none (desc_at s.descriptors page) shape)
    | inr le ↦ elim (slice_get_cases s.descriptors page).1 [
      | inl found ↦ absurd (omega (arith, le, found.1))
      | inr past ↦ some (ap (λ o. option_map (λ (block : Place). 512 * block.unit) (option_and_then block_of o)) past.1)
    ]
  ]

  -- a line of all lines is what the page's bytes say
  says_line : (page i : ℕ) (line : List ℕ) → page < length s.descriptors → i < 64 → slice_get s.lines (64 * page + i) ≡ Some line
      → line_of (shape_at s page) (bytes_at s.bytes page) i ≡ line
  says_line page i line within i_in e =
      let pages = helds s.descriptors in
      let inside : page < length pages = omega (arith, within, length-helds s.descriptors) in
      let all = all_lines pages s.bytes in
      let read : slice_get all (64 * page + i) ≡ Some (line_of (shape_at s page) (bytes_at s.bytes page) i) =
      slice_get-get_or all (64 * page + i) [] (omega (arith, inside, length-all_lines pages s.bytes)) ∙ ap Some (line_at pages s.bytes page i inside i_in) in
      same_Some _ _ (sym read ∙ sym (ap (λ (ls : List (List ℕ)). slice_get ls (64 * page + i)) sound.says) ∙ e)

  suits_line : (page index : ℕ) (row : PlaceRow) (line : List ℕ) → place_in s page index ≡ Some row → row.line < 64
      → slice_get s.lines (64 * page + row.line) ≡ Some line → SuitsLine s.codec (shape_at s page) line row
  suits_line page index row line e line_in there = elim (cases_lt page (length s.descriptors)) [
    | inl within ↦
        subst (λ l. SuitsLine s.codec (shape_at s page) l row) (says_line page row.line line within line_in there)
        (suits s.codec (shape_at s page) (bytes_at s.bytes page) index row (page_sound page) e line_in)
    | inr le ↦ absurd (none-some row (ap (λ f. place_of f (bytes_at s.bytes page) index) (sym (past_last page le)) ∙ e))
  ]

pub laid_out : SoundStoresAreLaidOut
laid_out s sound = record {
  blocks_lie = λ page base e. lies_in_frames s sound page base e;
  blocks_are_apart = λ page other base base' ne e f.
      let at = spans s sound page base e in
      let to = spans s sound other base' f in
      elim (sound.blocks_are.apart page other at.block to.block ne at.there to.there) [
        | inl l ↦ inl (omega (arith, at.is_past, to.is_base))
        | inr r ↦ inr (omega (arith, to.is_past, at.is_base))
      ];
  places_fit = λ page index row e. fit s.codec (shape_at s page) (bytes_at s.bytes page) index row (page_sound s sound page) e;
  places_are_apart = λ page i j row other i_some j_some ne e f.
      apart s.codec (shape_at s page) (bytes_at s.bytes page) i j row other (page_sound s sound page) i_some j_some ne e f;
  lines_have_one_place = λ page line index some line_in. one_place (shape_at s page) (bytes_at s.bytes page) line index (not_zero s sound page some) line_in;
  places_suit = λ page index row line e line_in there. suits_line s sound page index row line e line_in there;
}
