-- A memory of pages in the bytes of their blocks, by what contracts see of it.
use Rattle.std.specs.Prelude.{◌≡◌, ℕ, ◌*◌, ◌<◌, ◌≤◌, List, [], length, take, Some, replicate, slice_get, slice_index_or}
use Rattle.hier_types.specs.Lines.{AreLines, zero_line}
use Rattle.hier_types.specs.declared.counts.PageCounts.{PageCounts}
use Rattle.hier_types.specs.declared.settings.Codec.{Codec}
use Rattle.meta_cache.specs.Entries.{AreDistinct}
use Rattle.number_set.specs.Numbers.{has}
use Rattle.page_plan.specs.KeptSizes.{kept_sizes}
use Rattle.page_plan.specs.PagePlan.{plan_of}
use Rattle.page_plan.specs.Pages.{page_of}
use Rattle.page_slots.specs.declared.desc.Desc.{Desc}
use Rattle.page_slots.specs.declared.desc.Desc.TheVariants as desc
use Rattle.page_slots.specs.declared.desc.Shape.{Shape}
use Rattle.page_slots.specs.declared.desc.Shape.TheVariants.{Slotted}
use Rattle.page_slots.specs.Sound.{IsSound as IsSoundPage}
use Rattle.page_store.specs.PageBlocks.{IsAtPlan, AreSound}
use Rattle.page_store.specs.Rooms.{IsShaped, all_bytes, all_lines, bytes_at, held_at, helds}
use Rattle.recency.specs.declared.entry.Entry.{Entry}
use Rattle.recency.specs.Kept.{Kept, entry_of}

-- the codec of the plans, the lines, how each page is kept, of each page the bytes of its block, the units in use, the
-- entries of the metadata cache, the counts, how many calls were refused, and the page whose turn of the mover comes next
pub record Store : Type 0 where
  pub codec : Codec
  pub lines : List (List ℕ)
  pub descriptors : List Desc
  pub bytes : List (List ℕ)
  pub used : List ℕ
  pub meta : Kept
  pub counts : PageCounts
  pub stops : ℕ
  pub cursor : ℕ

-- a store whose pages stand in this memory: what their bytes are, and which lines these say
abbrev pub store_in : Codec → List ℕ → List Desc → List ℕ → Kept → PageCounts → ℕ → ℕ → Store
store_in codec memory descriptors used meta counts stops cursor = record {
  codec = codec;
  lines = all_lines (helds descriptors) (all_bytes memory (helds descriptors));
  descriptors = descriptors;
  bytes = all_bytes memory (helds descriptors);
  used = used;
  meta = meta;
  counts = counts;
  stops = stops;
  cursor = cursor;
}

-- what sizes a store: the codec of its plans, the number of its frames, and the entries of its metadata cache
pub record Sizing : Type 0 where
  pub codec : Codec
  pub frames : ℕ
  pub meta : ℕ

abbrev pub sizing_of : Store → Sizing
sizing_of s = record { codec = s.codec; frames = length s.used; meta = s.meta.ways }

-- a store of this sizing and so many pages, all of them zero; no frame is in use, no page was looked up, and the mover stands
-- at page 0
abbrev pub fresh : Sizing → ℕ → Store
fresh sizing pages = record {
  codec = sizing.codec;
  lines = replicate (64 * pages) zero_line;
  descriptors = replicate pages desc.Zero;
  bytes = replicate pages [];
  used = replicate sizing.frames 0;
  meta = record { ways = sizing.meta; lines = [] };
  counts = record { reads = 0; writes = 0; meta_hits = 0; meta_misses = 0; mover_turns = 0; tidy_turns = 0 };
  stops = 0;
  cursor = 0;
}

-- the store has the page, and it is zero
abbrev pub HasZero : Store → ℕ → Type 0
HasZero s page = slice_get s.descriptors page ≡ Some desc.Zero

-- how the page of a number is kept; past the last one there are zeros
abbrev pub desc_at : List Desc → ℕ → Desc
desc_at descriptors page = slice_index_or descriptors page desc.Zero

-- how its bytes are read
abbrev pub shape_at : Store → ℕ → Shape
shape_at s page = (held_at (helds s.descriptors) page).shape

-- a chunk is that of a page's metadata
abbrev pub IsCopy : Shape → List ℕ → List ℕ → Type 0
IsCopy (Slotted slots) bytes chunk = chunk ≡ take 64 bytes
IsCopy shape bytes chunk = ⊥

-- each entry is of a page that has metadata, and is its true chunk
abbrev pub AreCopies : Store → Type 0
AreCopies s = (page : ℕ) (e : Entry) → entry_of s.meta.lines page ≡ Some e → IsCopy (shape_at s page) (bytes_at s.bytes page) e.bytes

-- The pages are 1 to 65,536 and whole, each is sound in its block and says its lines, the blocks are sound, and the entries
-- of the metadata cache are true, and the mover stands at a page.
pub record IsSound (s : Store) : Type 0 where
  pub some : 1 ≤ length s.descriptors
  pub most : length s.descriptors ≤ 65536
  pub whole : length s.lines ≡ 64 * length s.descriptors
  pub lines_are : AreLines s.lines
  pub blocks_are : AreSound s.descriptors s.used
  pub shaped : (page : ℕ) → page < length s.descriptors → IsShaped (desc_at s.descriptors page)
  pub paged : length s.bytes ≡ length s.descriptors
  pub pages_are : (page : ℕ) → page < length s.descriptors → IsSoundPage s.codec (shape_at s page) (bytes_at s.bytes page)
  pub says : s.lines ≡ all_lines (helds s.descriptors) s.bytes
  pub copies : AreCopies s
  pub distinct : AreDistinct s.meta.lines
  pub cursor_in : s.cursor < length s.descriptors

-- each page is at the plan of its lines
abbrev pub AreAtPlan : Store → Type 0
AreAtPlan s = (page : ℕ) (desc : Desc) → slice_get s.descriptors page ≡ Some desc → IsAtPlan (plan_of s.codec (page_of s.lines page)) desc

-- each page that is not among the strays is at the plan of its lines
abbrev pub AreStrays : Store → List ℕ → Type 0
AreStrays s strays = (page : ℕ) (desc : Desc) → slice_get s.descriptors page ≡ Some desc → has strays page ≡ 0
    → IsAtPlan (plan_of s.codec (page_of s.lines page)) desc

-- what each line of each page takes in a slot
abbrev pub AreSizes : Codec → List (List ℕ) → List (List ℕ) → Type 0
AreSizes codec lines sizes = (page : ℕ) → page < length sizes → slice_get sizes page ≡ Some (kept_sizes codec (page_of lines page))

-- the store as it is kept: its pages stand in a memory of all units, and what the lines take stands beside it
pub record IsKept (s : Store) (memory : List ℕ) (sizes : List (List ℕ)) : Type 0 where
  pub sound : IsSound s
  pub stands : s.bytes ≡ all_bytes memory (helds s.descriptors)
  pub in_memory : length memory ≡ 4096 * length s.used
  pub counted : length sizes ≡ length s.descriptors
  pub sized : AreSizes s.codec s.lines sizes
