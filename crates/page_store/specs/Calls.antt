-- What the calls of a store do.
use Rattle.std.specs.Prelude.{◌≡◌, ◌≢◌, ℕ, ◌⊎◌, ◌<◌, ◌/◌, ◌%◌, ◌*◌, ◌+◌, Bool, List, length, take, Some, Result, Ok, Err, if◌then◌else◌, is_some, slice_get, slice_set}
use Rattle.hier_types.specs.Calls.{Answer}
use Rattle.hier_types.specs.Causes.{raised}
use Rattle.hier_types.specs.Lines.{zero_line}
use Rattle.hier_types.specs.declared.counts.PageCounts.{PageCounts}
use Rattle.hier_types.specs.declared.faults.NoSpace.{NoSpace}
use Rattle.meta_cache.specs.Entries.{looked}
use Rattle.page_plan.specs.PagePlan.{plan_of}
use Rattle.page_plan.specs.Pages.{lines_of_page, page_of, with_page}
use Rattle.page_slots.specs.declared.desc.Shape.{Shape}
use Rattle.page_slots.specs.declared.desc.Shape.TheVariants.{Zero, Slotted}
use Rattle.page_slots.specs.Puts.{GoesRight, Overflows}
use Rattle.page_store.specs.PageBlocks.{block_at, Outgrows, LacksRoom}
use Rattle.page_store.specs.Rooms.{bytes_at}
use Rattle.page_store.specs.Store.{AreAtPlan, HasZero, Store, shape_at, sizing_of}
use Rattle.page_store.specs.Lays.{GoesAnew, TidiesOthers}
use Rattle.page_store.specs.Noted.{noted}
use Rattle.page_store.specs.Crowds.{Crowded, MayRefuse}
use Rattle.recency.specs.Kept.{entry_of}

-- one more line was read
abbrev pub read_more : PageCounts → PageCounts
read_more counts = record counts { reads = raised counts.reads }

-- one more line was written
abbrev pub written_more : PageCounts → PageCounts
written_more counts = record counts { writes = raised counts.writes }

-- one more page was looked up, and found or not
abbrev pub looked_more : Bool → PageCounts → PageCounts
looked_more found counts = if found then record counts { meta_hits = raised counts.meta_hits } else record counts { meta_misses = raised counts.meta_misses }

-- the store after the page was looked up in the metadata cache, where it has metadata
abbrev pub looked_by : Shape → Store → ℕ → Store
looked_by (Slotted slots) s page = record s {
  meta = looked s.meta page (take 64 (bytes_at s.bytes page));
  counts = looked_more (is_some (entry_of s.meta.lines page)) s.counts;
}
looked_by shape s page = s

abbrev pub looked_up : Store → ℕ → Store
looked_up s page = looked_by (shape_at s page) s page

-- What levels above may know of a call that may change one page: the lines, the counts that a run tells, and what never
-- changes.
pub record Outline (s : Store) (page : ℕ) (lines : List (List ℕ)) (reads writes : ℕ) (t : Store) : Type 0 where
  pub lines_are : t.lines ≡ lines
  pub reads_are : t.counts.reads ≡ reads
  pub writes_are : t.counts.writes ≡ writes
  pub turns_stay : t.counts.mover_turns ≡ s.counts.mover_turns
  pub sizing_is : sizing_of t ≡ sizing_of s
  pub pages_stay : length t.descriptors ≡ length s.descriptors
  pub zeros_stay : (other : ℕ) → other ≢ page → HasZero s other → HasZero t other

-- A line is read, which is counted, after its page was looked up.
pub record Reads (s : Store) (line : ℕ) (bytes : List ℕ) (t : Store) : Type 0 where
  pub outline : Outline s (line / 64) s.lines (raised s.counts.reads) s.counts.writes t
  pub bytes_are : slice_get s.lines line ≡ Some bytes
  pub rest : t ≡ record (looked_up s (line / 64)) { counts = read_more (looked_up s (line / 64)).counts }

-- the page has no place for these bytes as its line i: it is zero and they are not, or no slot and no chunk is free
abbrev pub HasNoPlace : Store → ℕ → ℕ → List ℕ → Type 0
HasNoPlace s page i bytes = ((shape_at s page ≡ Zero) × (bytes ≢ zero_line))
    ⊎ ((shape_at s page ≢ Zero) × Overflows s.codec (shape_at s page) (bytes_at s.bytes page) i bytes)

-- zeros are written to a page of zeros, which changes nothing
pub record StaysZero (s : Store) (page : ℕ) (bytes : List ℕ) (t : Store) : Type 0 where
  pub is_zero : shape_at s page ≡ Zero
  pub zeros : bytes ≡ zero_line
  pub stays : t ≡ s

-- the bytes are put where they belong in the page's block, as its line i, and all else stays
pub record PutsIn (s : Store) (page i : ℕ) (bytes : List ℕ) (t : Store) : Type 0 where
  pub not_zero : shape_at s page ≢ Zero
  pub has_place : Overflows s.codec (shape_at s page) (bytes_at s.bytes page) i bytes → ⊥
  pub own : List ℕ
  pub right : GoesRight s.codec (shape_at s page) i bytes (bytes_at s.bytes page) own
  pub is : t ≡ record s {
    lines = slice_set s.lines (64 * page + i) bytes;
    bytes = slice_set s.bytes page own;
    meta = noted s.meta page (shape_at s page) own;
  }

-- the bytes find a place in their page, or have none and the page is laid anew
abbrev pub GoesIn : Store → ℕ → ℕ → List ℕ → Store → Type 0
GoesIn s page i bytes t = StaysZero s page bytes t ⊎ (PutsIn s page i bytes t
    ⊎ (HasNoPlace s page i bytes × GoesAnew s page (slice_set s.lines (64 * page + i) bytes) t))

-- A line is written, which is counted, after its page was looked up.
pub record Writes (s : Store) (line : ℕ) (bytes : List ℕ) (t : Store) : Type 0 where
  pub outline : Outline s (line / 64) (slice_set s.lines line bytes) s.counts.reads (raised s.counts.writes) t
  pub after : Store
  pub goes : GoesIn (looked_up s (line / 64)) (line / 64) (line % 64) bytes after
  pub is : t ≡ record after { counts = written_more after.counts }

-- both requests for a place are refused, and all that was done is that the other pages were tidied
pub record IsRefused (s : Store) (page : ℕ) (lines : List (List ℕ)) (order : ℕ) (t : Store) : Type 0 where
  pub first : LacksRoom s.descriptors s.used page (plan_of s.codec (page_of lines page)) order
  pub mid : Store
  pub tidied : TidiesOthers s page mid
  pub again : LacksRoom mid.descriptors mid.used page (plan_of s.codec (page_of lines page)) order
  pub is : t ≡ record mid { stops = raised mid.stops }

-- The store refuses these lines, which would be new in one page alone: they would need a block where the page has none or
-- a smaller one, and the store is crowded. No line changes. `Why` tells why the page had to be laid anew, and `l` is the
-- store after the page was looked up, where it was.
pub record Refused (s l : Store) (page : ℕ) (lines : List (List ℕ)) (Why : Type 0) (refusal : NoSpace) (t : Store) : Type 0 where
  pub outline : Outline s page s.lines s.counts.reads s.counts.writes t
  pub cause : MayRefuse (sizing_of s) s.lines lines page refusal
  pub outgrown : Outgrows (block_at s.descriptors page) refusal.order
  pub crowded : Crowded t refusal
  pub few : length s.used < length s.descriptors
  pub why : Why
  pub inside : IsRefused l page lines refusal.order t

-- a read is always answered, with the bytes of the line
abbrev pub StoreRead : Store → ℕ → Result (List ℕ) NoSpace → Store → Type 0
StoreRead s line (Ok bytes) t = Reads s line bytes t
StoreRead s line (Err refusal) t = ⊥

-- a write of one line
abbrev pub StoreWrite : Store → ℕ → List ℕ → Answer → Store → Type 0
StoreWrite s line bytes (Ok u) t = Writes s line bytes t
StoreWrite s line bytes (Err refusal) t = Refused s (looked_up s (line / 64)) (line / 64) (slice_set s.lines line bytes)
    (HasNoPlace (looked_up s (line / 64)) (line / 64) (line % 64) bytes) refusal t

-- a page that is zero comes to these lines, which counts as no write
pub record Places (s : Store) (page : ℕ) (lines : List (List ℕ)) (t : Store) : Type 0 where
  pub outline : Outline s page lines s.counts.reads s.counts.writes t
  pub goes : GoesAnew s page lines t

-- the bytes of a page are placed at once, or refused
abbrev pub PlacesPage : Store → ℕ → List ℕ → Answer → Store → Type 0
PlacesPage s page bytes (Ok u) t = Places s page (with_page s.lines page (lines_of_page bytes)) t
PlacesPage s page bytes (Err refusal) t = Refused s s page (with_page s.lines page (lines_of_page bytes)) (Unit {0}) refusal t

-- Every page comes to its plan by turns, in rising order, which changes no line and is never refused. Nothing is counted but
-- these turns, and the mover stays where it is. Where each page is at its plan already, nothing changes.
pub record Tidies (s t : Store) : Type 0 where
  pub lines_are : t.lines ≡ s.lines
  pub reads_are : t.counts.reads ≡ s.counts.reads
  pub writes_are : t.counts.writes ≡ s.counts.writes
  pub turns_stay : t.counts.mover_turns ≡ s.counts.mover_turns
  pub sizing_is : sizing_of t ≡ sizing_of s
  pub pages_stay : length t.descriptors ≡ length s.descriptors
  pub stops_stay : t.stops ≡ s.stops
  pub cursor_stays : t.cursor ≡ s.cursor
  pub at_plan : AreAtPlan t
  pub tidied : TidiesOthers s (length s.descriptors) t
