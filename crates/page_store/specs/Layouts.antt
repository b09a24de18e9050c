-- Where each line of each page stands.
use Rattle.std.specs.Prelude.{◌≡◌, ◌≢◌, ◌↔◌, ◌<◌, ◌≤◌, ◌+◌, ◌*◌, ◌%◌, ℕ, List, Option, Some, None, length, slice_get}
use Rattle.page_slots.specs.Forms.{Apart}
use Rattle.page_slots.specs.Places.{IsPlaceOf, IsWithin, ShareNoByte, SuitsLine, place_of, places_before}
use Rattle.page_slots.specs.declared.placing.PlaceRow.{PlaceRow}
use Rattle.page_store.specs.PageBlocks.{base_at}
use Rattle.page_store.specs.Rooms.{bytes_at}
use Rattle.page_store.specs.Store.{IsSound, Store, shape_at}

-- a place of a page, by its index
abbrev pub place_in : Store → ℕ → ℕ → Option PlaceRow
place_in s page index = place_of (shape_at s page) (bytes_at s.bytes page) index

-- the length of a page's block
abbrev pub block_size : Store → ℕ → ℕ
block_size s page = length (bytes_at s.bytes page)

-- a block that begins here lies in the frames, at a multiple of its length
pub record LiesInFrames (s : Store) (size base : ℕ) : Type 0 where
  pub inside : base + size ≤ 4096 * length s.used
  pub aligned : base % size ≡ 0

-- Where the pages of a store lie, and what their places say of their lines.
pub record IsLaidOut (s : Store) : Type 0 where
  pub blocks_lie : (page base : ℕ) → base_at s.descriptors page ≡ Some base → LiesInFrames s (block_size s page) base
  pub blocks_are_apart : (page other base base' : ℕ) → page ≢ other → base_at s.descriptors page ≡ Some base
      → base_at s.descriptors other ≡ Some base' → Apart base (block_size s page) base' (block_size s other)
  pub places_fit : (page index : ℕ) (row : PlaceRow) → place_in s page index ≡ Some row → IsWithin (block_size s page) row
  pub places_are_apart : (page i j : ℕ) (row other : PlaceRow) → 1 ≤ i → 1 ≤ j → i ≢ j → place_in s page i ≡ Some row
      → place_in s page j ≡ Some other → ShareNoByte row other
  pub lines_have_one_place : (page line index : ℕ) → base_at s.descriptors page ≢ None → line < 64
      → IsPlaceOf (shape_at s page) (bytes_at s.bytes page) line index ↔ (index ≡ line + places_before (shape_at s page))
  pub places_suit : (page index : ℕ) (row : PlaceRow) (line : List ℕ) → place_in s page index ≡ Some row → row.line < 64
      → slice_get s.lines (64 * page + row.line) ≡ Some line → SuitsLine s.codec (shape_at s page) line row

-- the pages of a sound store are laid out so
abbrev pub SoundStoresAreLaidOut : Type 0
SoundStoresAreLaidOut = (s : Store) → IsSound s → IsLaidOut s
