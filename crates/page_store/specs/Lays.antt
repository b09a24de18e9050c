-- Pages that are laid anew, and those that are tidied for another's sake.
use Rattle.std.specs.Prelude.{◌≡◌, ◌≢◌, ◌<◌, ℕ, zero, suc, ◌⊎◌, List, length, slice_set, ◌==◌}
use Rattle.std.specs.Bool.{MatchBool}
use Rattle.hier_types.specs.declared.settings.Codec.{Codec}
use Rattle.page_mover.specs.declared.turning.Turn.TheVariants.{Next}
use Rattle.page_plan.specs.declared.least.PagePlan.{PagePlan}
use Rattle.page_plan.specs.PagePlan.{plan_of}
use Rattle.page_plan.specs.Pages.{page_of}
use Rattle.page_slots.specs.declared.desc.Desc.{Desc}
use Rattle.page_slots.specs.Descs.{shape_of}
use Rattle.page_slots.specs.Laid.{bytes_for}
use Rattle.page_store.specs.PageBlocks.{IsAtPlan, ComesToPlan, HasRoom, LacksRoom}
use Rattle.page_store.specs.Store.{HasZero, Store, desc_at}
use Rattle.page_store.specs.Noted.{noted}
use Rattle.page_store.specs.Turns.{TidyTurns, turn_at}

-- the bytes of a page among these lines, where it is laid anew and kept so
abbrev pub laid_bytes : Codec → List (List ℕ) → ℕ → Desc → List ℕ
laid_bytes codec lines page desc = bytes_for codec (shape_of desc) (page_of lines page)

-- The store comes to these lines, which are new in one page alone: that page is laid anew at its plan, and all else stays.
pub record Lays (s : Store) (page : ℕ) (lines : List (List ℕ)) (t : Store) : Type 0 where
  pub comes : ComesToPlan s.descriptors s.used page (plan_of s.codec (page_of lines page)) t.descriptors t.used
  pub is : t ≡ record s {
    lines = lines;
    descriptors = t.descriptors;
    bytes = slice_set s.bytes page (laid_bytes s.codec lines page comes.desc);
    used = t.used;
    meta = noted s.meta page (shape_of comes.desc) (laid_bytes s.codec lines page comes.desc);
  }

-- the plan of a page by the lines that it has
abbrev pub plan_at : Store → ℕ → PagePlan
plan_at s page = plan_of s.codec (page_of s.lines page)

-- A page comes to its plan, by as many turns as that takes: none is left.
pub record BringsToPlan (s : Store) (page : ℕ) (t : Store) : Type 0 where
  pub count : ℕ
  pub turns : TidyTurns s page count t
  pub settled : turn_at t page ≡ Next
  pub at_plan : IsAtPlan (plan_at s page) (desc_at t.descriptors page)

-- no line changes, nothing is counted but turns of the tidying, the mover stays where it is, and a page of zeros stays one
pub record KeepsLines (s t : Store) : Type 0 where
  pub lines_are : t.lines ≡ s.lines
  pub codec_is : t.codec ≡ s.codec
  pub counts_are : t.counts ≡ record s.counts { tidy_turns = t.counts.tidy_turns }
  pub cursor_is : t.cursor ≡ s.cursor
  pub stops_are : t.stops ≡ s.stops
  pub ways_stay : t.meta.ways ≡ s.meta.ways
  pub frames_stay : length t.used ≡ length s.used
  pub pages_stay : length t.descriptors ≡ length s.descriptors
  pub zeros_stay : (page : ℕ) → HasZero s page → HasZero t page

-- each page but one is kept as the plan of these lines says
abbrev pub OthersAreAtPlan : Store → ℕ → Store → Type 0
OthersAreAtPlan s but t = (page : ℕ) → page < length s.descriptors → page ≢ but → IsAtPlan (plan_at s page) (desc_at t.descriptors page)

-- one page in its turn, unless it is the one that is left alone
abbrev pub TidyStep : Store → ℕ → ℕ → Store → Type 0
TidyStep s but page t = MatchBool (page == but) (t ≡ s) (BringsToPlan s page t)

-- the pages below a number but for one, one after another
unfoldable pub TidiedUpTo : Store → ℕ → ℕ → Store → Type 0
TidiedUpTo s but zero t = t ≡ s
TidiedUpTo s but (suc n) t = (m : Store) × TidiedUpTo s but n m × TidyStep m but n t

-- all pages but one
abbrev pub TidiesOthers : Store → ℕ → Store → Type 0
TidiesOthers s but t = TidiedUpTo s but (length s.descriptors) t

-- there is way for a page of this plan: the others are tidied for its sake exactly where the first request is refused
abbrev pub MakesWay : Store → ℕ → PagePlan → Store → Type 0
MakesWay s page plan mid = (HasRoom s.descriptors s.used page plan × (mid ≡ s))
    ⊎ ((order : ℕ) × (LacksRoom s.descriptors s.used page plan order × TidiesOthers s page mid))

-- the page is laid with these lines, where way was made for it and it has room
pub record GoesAnew (s : Store) (page : ℕ) (lines : List (List ℕ)) (t : Store) : Type 0 where
  pub mid : Store
  pub way : MakesWay s page (plan_of s.codec (page_of lines page)) mid
  pub room : HasRoom mid.descriptors mid.used page (plan_of s.codec (page_of lines page))
  pub lays : Lays mid page lines t
