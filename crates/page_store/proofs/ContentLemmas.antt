-- The calls of a store are calls of its contents, and keep its sizing.
use Rattle.std.proofs.Common.{◌≡◌, ◌/◌, ◌∙◌, ℕ, List, Result, Ok, Err, set, refl, sym, subst}
use Rattle.hier_types.specs.Calls.{Answer}
use Rattle.hier_types.specs.declared.faults.NoSpace.{NoSpace}
use Rattle.hier_types.specs.Causes.{raised}
use Rattle.page_store.specs.Calls.{Outline, StoreRead, StoreWrite, Tidies}
use Rattle.page_store.specs.Contents.{ContentsRead, ContentsWrite, MayCut, SureWritesAreOne, contents_of}
use Rattle.page_store.specs.Store.{Store, Sizing, sizing_of}

-- the contents after a call
contents_are : (s : Store) (page : ℕ) (lines : List (List ℕ)) (reads writes : ℕ) (t : Store) → Outline s page lines reads writes t
    → contents_of t ≡ record { lines = lines; reads = reads; writes = writes }
contents_are s page lines reads writes t outline = rw (outline.lines_are, outline.reads_are, outline.writes_are) refl

-- a read
pub store_reads : (sizing : Sizing) (s : Store) (line : ℕ) (answer : Result (List ℕ) NoSpace) (t : Store) → sizing_of s ≡ sizing → StoreRead s line answer t
    → (sizing_of t ≡ sizing) × ContentsRead (contents_of s) line answer (contents_of t)
store_reads sizing s line (Ok bytes) t keeps did = (did.outline.sizing_is ∙ keeps, (did.bytes_are, contents_are s (line / 64) s.lines (raised s.counts.reads) s.counts.writes t did.outline))
store_reads sizing s line (Err refusal) t keeps did = absurd did

-- a write
pub store_writes : (sizing : Sizing) (s : Store) (line : ℕ) (bytes : List ℕ) (answer : Answer) (t : Store) → sizing_of s ≡ sizing → StoreWrite s line bytes answer t
    → (sizing_of t ≡ sizing) × ContentsWrite sizing (contents_of s) line bytes answer (contents_of t)
store_writes sizing s line bytes (Ok u) t keeps did =
    (did.outline.sizing_is ∙ keeps, contents_are s (line / 64) (set s.lines line bytes) s.counts.reads (raised s.counts.writes) t did.outline)
store_writes sizing s line bytes (Err refusal) t keeps did = (
  did.outline.sizing_is ∙ keeps,
  (
    subst (λ (k : Sizing). MayCut k s.lines line bytes refusal) keeps did.cause,
    contents_are s (line / 64) s.lines s.counts.reads s.counts.writes t did.outline,
  ),
)

-- tidying leaves the contents
pub tidied_contents : (s t : Store) → Tidies s t → contents_of t ≡ contents_of s
tidied_contents s t h = rw (h.lines_are, h.reads_are, h.writes_are) refl

-- a write that can't be cut is granted, which gives one state
pub contents_write_one : SureWritesAreOne
contents_write_one sizing s line bytes (Ok u) (Ok v) t w sure did other = (refl, did ∙ sym other)
contents_write_one sizing s line bytes (Ok u) (Err refusal) t w sure did other = absurd (sure refusal other.0)
contents_write_one sizing s line bytes (Err refusal) c t w sure did other = absurd (sure refusal did.0)
