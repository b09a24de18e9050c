-- What turns of the mover do to a store.
use Rattle.std.specs.Prelude.{◌≡◌, ◌≢◌, ◌+◌, ◌==◌, ◌≤◌, ℕ, zero, suc, ◌⊎◌, List, Option, length, slice_set, if◌then◌else◌, IsSomeAnd}
use Rattle.buddy_frames.specs.Units.{Place}
use Rattle.hier_types.specs.Causes.{raised}
use Rattle.hier_types.specs.declared.counts.PageCounts.{PageCounts}
use Rattle.page_mover.specs.declared.turning.Turn.{Turn}
use Rattle.page_mover.specs.declared.turning.Turn.TheVariants.{Next}
use Rattle.page_mover.specs.declared.turning.TurnKind.{TurnKind}
use Rattle.page_mover.specs.Far.{far_of}
use Rattle.page_mover.specs.Moves.{MakesTurn, body}
use Rattle.page_mover.specs.Turns.{kind_of, turn_of}
use Rattle.page_slots.specs.declared.desc.Desc.{Desc}
use Rattle.page_slots.specs.declared.desc.Shape.{Shape}
use Rattle.page_slots.specs.declared.desc.Shape.TheVariants.{Zero, Raw, Slotted}
use Rattle.page_slots.specs.Descs.{block_of, shape_of}
use Rattle.page_slots.specs.Forms.{order_of}
use Rattle.page_slots.specs.Sound.{IsSound as IsSoundPage}
use Rattle.page_store.specs.Noted.{noted}
use Rattle.page_store.specs.PageBlocks.{IsNewBlock, block_at, moved}
use Rattle.page_store.specs.Rooms.{bytes_at}
use Rattle.page_store.specs.Store.{IsSound, Store, shape_at}

-- a page that holds this block can come to this shape by trimming it, or by giving it back
abbrev pub CanTrim : Option Place → Shape → Type 0
CanTrim held Zero = Unit {0}
CanTrim held Raw = ⊥
CanTrim held (Slotted slots) = IsSomeAnd held (λ block. order_of slots ≤ block.order)

-- one page comes to this shape, and every other stays as it is
pub record ComesToShape (descriptors : List Desc) (used : List ℕ) (page : ℕ) (shape : Shape) (descriptors' : List Desc) (used' : List ℕ) : Type 0 where
  pub desc : Desc
  pub shape_is : shape_of desc ≡ shape
  pub new_block : IsNewBlock used (block_at descriptors page) (block_of desc)
  pub descriptors_are : descriptors' ≡ slice_set descriptors page desc
  pub used_is : used' ≡ moved used (block_at descriptors page) (block_of desc)

-- the next turn of a page, and how far it is from its plan
abbrev pub turn_at : Store → ℕ → Turn
turn_at s page = turn_of s.codec (shape_at s page) (bytes_at s.bytes page)

abbrev pub far_at : Store → ℕ → ℕ
far_at s page = far_of s.codec (shape_at s page) (bytes_at s.bytes page)

-- A turn is made on a page, which is sound. The page that it leaves has the first bytes of the block that it had, which is
-- trimmed to them or given back, and all else stays.
pub record MakesTurnOn (s : Store) (page : ℕ) (turn : Turn) (t : Store) : Type 0 where
  pub was : IsSoundPage s.codec (shape_at s page) (bytes_at s.bytes page)
  pub shape : Shape
  pub front : List ℕ
  pub makes : MakesTurn s.codec (shape_at s page) (bytes_at s.bytes page) turn shape front
  pub comes : ComesToShape s.descriptors s.used page shape t.descriptors t.used
  pub is : t ≡ record s {
    descriptors = t.descriptors;
    bytes = slice_set s.bytes page (body shape front);
    used = t.used;
    meta = noted s.meta page shape (body shape front);
  }

-- the next turn of a page: none at its plan, where nothing changes
abbrev pub TurnsPage : Store → ℕ → Turn → Store → Type 0
TurnsPage s page turn t = ((turn ≡ Next) × ((turn_at s page ≡ Next) × (t ≡ s))) ⊎ ((turn ≢ Next) × MakesTurnOn s page turn t)

-- one more turn of the mover, and one more of the tidying
abbrev pub moved_more : PageCounts → PageCounts
moved_more counts = record counts { mover_turns = raised counts.mover_turns }

abbrev pub tidied_more : PageCounts → PageCounts
tidied_more counts = record counts { tidy_turns = raised counts.tidy_turns }

-- the page whose turn comes after that of a page
abbrev pub next_page : ℕ → ℕ → ℕ
next_page page pages = if page + 1 == pages then 0 else page + 1

-- the mover stays at a page until it is at its plan
abbrev pub cursor_after : Turn → Store → ℕ
cursor_after Next s = next_page s.cursor (length s.descriptors)
cursor_after turn s = s.cursor

-- The mover makes one turn on the page where it stands, which is counted.
pub record MoverTurns (s : Store) (kind : TurnKind) (t : Store) : Type 0 where
  pub turn : Turn
  pub kind_is : kind ≡ kind_of turn
  pub mid : Store
  pub turns : TurnsPage s s.cursor turn mid
  pub is : t ≡ record mid { counts = moved_more mid.counts; cursor = cursor_after turn s }

-- A turn for tidying: the page is not at its plan, and the turn is counted.
pub record TidyTurn (s : Store) (page : ℕ) (t : Store) : Type 0 where
  pub turn : Turn
  pub off : turn ≢ Next
  pub mid : Store
  pub makes : MakesTurnOn s page turn mid
  pub is : t ≡ record mid { counts = tidied_more mid.counts }

-- so many of them, one after another
unfoldable pub TidyTurns : Store → ℕ → ℕ → Store → Type 0
TidyTurns s page zero t = t ≡ s
TidyTurns s page (suc n) t = (m : Store) × TidyTurns s page n m × TidyTurn m page t

-- a page is kept as it was, whatever became of others
pub record LeavesPage (page : ℕ) (s t : Store) : Type 0 where
  pub sound : IsSound t
  pub codec_is : t.codec ≡ s.codec
  pub shape_is : shape_at t page ≡ shape_at s page
  pub bytes_are : bytes_at t.bytes page ≡ bytes_at s.bytes page

-- so many turns are made on a page that is not at its plan, and between them it is left as it is
unfoldable pub TurnsUnwritten : ℕ → ℕ → Store → Store → Type 0
TurnsUnwritten page zero s t = LeavesPage page s t
TurnsUnwritten page (suc n) s t = (before : Store) × (turn : Turn) × (after : Store) × TurnsUnwritten page n s before
    × (turn ≢ Next) × MakesTurnOn before page turn after × LeavesPage page after t

-- a page that is not written is at its plan after so many turns on it at most
abbrev pub UnwrittenPagesSettle : Type 0
UnwrittenPagesSettle = (page count : ℕ) (s t : Store) → IsSound s → TurnsUnwritten page count s t → count ≤ 183
