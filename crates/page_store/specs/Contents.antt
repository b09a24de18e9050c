-- The contents of a store, which name no block, and its reads and writes by them alone.
use Rattle.std.specs.Prelude.{◌≡◌, ◌/◌, ℕ, List, Some, Result, Ok, Err, slice_get, slice_set}
use Rattle.hier_types.specs.Calls.{Answer}
use Rattle.hier_types.specs.Causes.{raised}
use Rattle.hier_types.specs.declared.faults.NoSpace.{NoSpace}
use Rattle.page_store.specs.Crowds.{MayRefuse}
use Rattle.page_store.specs.Store.{Store, Sizing}

-- the lines, and how many were read and written
pub record Contents : Type 0 where
  pub lines : List (List ℕ)
  pub reads : ℕ
  pub writes : ℕ

abbrev pub contents_of : Store → Contents
contents_of s = record { lines = s.lines; reads = s.counts.reads; writes = s.counts.writes }

-- a write of these bytes may be cut with this refusal
abbrev pub MayCut : Sizing → List (List ℕ) → ℕ → List ℕ → NoSpace → Type 0
MayCut sizing lines line bytes refusal = MayRefuse sizing lines (slice_set lines line bytes) (line / 64) refusal

-- a write of these bytes can't be cut
abbrev pub IsSure : Sizing → List (List ℕ) → ℕ → List ℕ → Type 0
IsSure sizing lines line bytes = (refusal : NoSpace) → MayCut sizing lines line bytes refusal → ⊥

-- a read is always answered, with the bytes of the line
abbrev pub ContentsRead : Contents → ℕ → Result (List ℕ) NoSpace → Contents → Type 0
ContentsRead s line (Ok bytes) t = (slice_get s.lines line ≡ Some bytes) × (t ≡ record { lines = s.lines; reads = raised s.reads; writes = s.writes })
ContentsRead s line (Err refusal) t = ⊥

-- a write changes the line, or is cut and changes nothing
abbrev pub ContentsWrite : Sizing → Contents → ℕ → List ℕ → Answer → Contents → Type 0
ContentsWrite sizing s line bytes (Ok u) t = t ≡ record { lines = slice_set s.lines line bytes; reads = s.reads; writes = raised s.writes }
ContentsWrite sizing s line bytes (Err refusal) t = MayCut sizing s.lines line bytes refusal × (t ≡ s)

-- a write that can't be cut has one answer, and leaves the contents in one state
abbrev pub SureWritesAreOne : Type 0
SureWritesAreOne = (sizing : Sizing) (s : Contents) (line : ℕ) (bytes : List ℕ) (a c : Answer) (t u : Contents)
    → IsSure sizing s.lines line bytes → ContentsWrite sizing s line bytes a t → ContentsWrite sizing s line bytes c u → (a ≡ c) × (t ≡ u)
