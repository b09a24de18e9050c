-- The pages in the bytes of one memory: 4,096 bytes a frame, 512 a unit.
use Rattle.std.specs.Prelude.{ℕ, ◌≡◌, ◌≢◌, ◌⊎◌, ◌+◌, ◌*◌, ◌/◌, ◌%◌, ◌<◌, ◌≤◌, List, [], length, map, slice_index_or, slice_set}
use Rattle.byte_parts.specs.Parts.{part, ChangesWithin}
use Rattle.hier_types.specs.Tabulate.{tabulate}
use Rattle.hier_types.specs.declared.settings.Codec.{Codec}
use Rattle.page_plan.specs.Pages.{page_of, with_page}
use Rattle.page_slots.specs.declared.desc.Desc.{Desc}
use Rattle.page_slots.specs.declared.desc.Desc.TheVariants as descs
use Rattle.page_slots.specs.declared.desc.Shape.{Shape}
use Rattle.page_slots.specs.declared.desc.Shape.TheVariants.{Zero, Raw, Slotted}
use Rattle.page_slots.specs.Descs.{line_of, shape_of, size_of}
use Rattle.page_slots.specs.Sound.{HaveTargets, IsSound}
use Rattle.page_store.specs.declared.room.Held.{Held}
use Rattle.page_store.specs.declared.room.Change.{Change}
use Rattle.page_store.specs.declared.room.Change.TheVariants.{Nothing, OneLine, AllLines}

-- the first unit of a page's block; 0 where it has none
abbrev pub unit_of : Desc → ℕ
unit_of descs.Zero = 0
unit_of (descs.Raw block) = block.unit
unit_of (descs.Packed block target) = block.unit
unit_of (descs.Mid block small large at) = block.unit

-- a page's shape, and the first unit of its block
abbrev pub held_of : Desc → Held
held_of desc = record { shape = shape_of desc; unit = unit_of desc }

-- and of all pages
abbrev pub helds : List Desc → List Held
helds descriptors = map held_of descriptors

-- the order of a page's block is one of its shape
abbrev pub IsShaped : Desc → Type 0
IsShaped descs.Zero = Unit {0}
IsShaped (descs.Raw block) = block.order ≡ 3
IsShaped (descs.Packed block target) = block.order ≤ 2
IsShaped (descs.Mid block small large at) = block.order ≤ 2

-- the slots of a page have lengths that slots may have
abbrev pub HasTarget : Shape → Type 0
HasTarget (Slotted slots) = HaveTargets slots
HasTarget shape = Unit {0}

-- the first byte of a block; a page of zeros has no bytes, from 0 on
abbrev pub start_at : Shape → ℕ → ℕ
start_at Zero unit = 0
start_at Raw unit = 512 * unit
start_at (Slotted slots) unit = 512 * unit

abbrev pub start_of : Held → ℕ
start_of held = start_at held.shape held.unit

-- the bytes of a page's block, none where it is zero
abbrev pub bytes_of : List ℕ → Held → List ℕ
bytes_of memory held = part (start_of held) (size_of held.shape) memory

-- two blocks share no byte
abbrev pub ShareNone : Held → Held → Type 0
ShareNone h d = (start_of h + size_of h.shape ≤ start_of d) ⊎ (start_of d + size_of d.shape ≤ start_of h)

-- how the page of a number is kept
abbrev pub held_at : List Held → ℕ → Held
held_at pages page = slice_index_or pages page (record { shape = Zero; unit = 0 })

-- the bytes of the page of a number
abbrev pub bytes_at : List (List ℕ) → ℕ → List ℕ
bytes_at bytes page = slice_index_or bytes page []

-- of each page the bytes of its block
abbrev pub all_bytes : List ℕ → List Held → List (List ℕ)
all_bytes memory pages = map (bytes_of memory) pages

-- the lines of all pages, one page after another
abbrev pub all_lines : List Held → List (List ℕ) → List (List ℕ)
all_lines pages bytes = tabulate (λ n. line_of (held_at pages (n / 64)).shape (bytes_at bytes (n / 64)) (n % 64)) (64 * length pages)

-- a block lies in the memory
abbrev pub IsWithin : List ℕ → Held → Type 0
IsWithin memory held = start_of held + size_of held.shape ≤ length memory

-- the block of one page, the same or another, has these bytes, which are sound, and no other byte has changed
pub record Fills (codec : Codec) (memory : List ℕ) (pages : List Held) (page : ℕ) (held : Held) (bytes memory' : List ℕ) : Type 0 where
  pub within : IsWithin memory held
  pub apart : (other : ℕ) → other < length pages → other ≢ page → ShareNone (held_at pages other) held
  pub changes : ChangesWithin (start_of held) (size_of held.shape) memory memory'
  pub sound : IsSound codec held.shape bytes
  pub there : bytes_of memory' held ≡ bytes

-- what is new of a page is one of its lines, where it is one line
abbrev pub IsInPage : Change → Type 0
IsInPage Nothing = Unit {0}
IsInPage (OneLine line bytes) = line < 64
IsInPage (AllLines others) = Unit {0}

-- the lines of a page with what is new of it
abbrev pub changed : Change → List (List ℕ) → List (List ℕ)
changed Nothing lines = lines
changed (OneLine line bytes) lines = slice_set lines line bytes
changed (AllLines others) lines = others.now

-- all lines with what is new of one page
abbrev pub with_change : List (List ℕ) → ℕ → Change → List (List ℕ)
with_change lines page change = with_page lines page (changed change (page_of lines page))
