-- What reads, writes and turns of the cleaner do to the sets and the counts, with the calls that they make below.
use Rattle.std.specs.Prelude.{◌≡◌, ◌+◌, ◌==◌, ℕ, Bool, true, List, [], ◌∷◌, ◌++◌, Some, None, Result, Ok, Err, if◌then◌else◌, MatchOption, MatchResult, MatchBool}
use Rattle.hier_types.specs.declared.counts.L2Counts.{L2Counts}
use Rattle.hier_types.specs.declared.faults.NoSpace.{NoSpace}
use Rattle.hier_types.specs.Calls.{Answer, Call, Read, Write}
use Rattle.hier_types.specs.Causes.{raised}
use Rattle.recency.specs.declared.entry.Entry.{Entry}
use Rattle.recency.specs.Kept.{Kept, with_lines, without, touched, last_dirty, clean_entry, dirty_entry}
use Rattle.recency.specs.Levels.{set_at, set_of, with_set, kept_of}
use Rattle.recency.specs.Steps.{Changes, with_clean}
use Rattle.l2_cache.specs.declared.clean.Clean.{Clean}
use Rattle.l2_cache.specs.declared.clean.Clean.TheVariants.{Done, Nothing, PutOff}
use Rattle.l2_cache.specs.Room.{leaver}

-- these entries leave in this order, each the next to leave, and the others stay
abbrev pub Leave : (List ℕ → ℕ) → List ℕ → Kept → ℕ → List Entry → List Entry → Type 0
Leave size bytes set line [] after = after ≡ set.lines
Leave size bytes set line (e ∷ es) after = (leaver size set line bytes ≡ Some e) × Leave size bytes (with_lines set (without set.lines e.line)) line es after

-- the writes below of those that were dirty
abbrev pub written : List Entry → List Call
written [] = []
written (e ∷ es) = if e.dirty then Write e.line e.bytes (Ok tt) ∷ written es else written es

-- The next one to leave is dirty, and its write below is refused.
pub record CannotLeave (size : List ℕ → ℕ) (bytes : List ℕ) (set : Kept) (line : ℕ) (refusal : NoSpace) (gone : List Entry) (calls : List Call) : Type 0 where
  pub entry : Entry
  pub next : leaver size set line bytes ≡ Some entry
  pub dirty : entry.dirty ≡ true
  pub made : calls ≡ written gone ++ (Write entry.line entry.bytes (Err refusal) ∷ [])

-- Entries leave until there is room for the line, or until one whose write below is refused.
pub record MakesRoom (size : List ℕ → ℕ) (bytes : List ℕ) (set : Kept) (line : ℕ) (calls : List Call) (result : Answer) (after : List Entry) : Type 0 where
  pub gone : List Entry
  pub leave : Leave size bytes set line gone after
  pub end : MatchResult result
      (λ _. (leaver size (with_lines set after) line bytes ≡ None) × (calls ≡ written gone))
      (λ refusal. CannotLeave size bytes (with_lines set after) line refusal gone calls)

-- the entry in front of its set, and an older one of its line no more
abbrev pub in_front : List Kept → Entry → List Kept
in_front sets e = with_set sets e.line (e ∷ without (set_of sets e.line).lines e.line)

-- An entry is put in front, once there is room. Where there is none, those that left stay out.
pub record PutsInFront (size : List ℕ → ℕ) (sets : List Kept) (e : Entry) (result : Answer) (new : List Kept) (calls : List Call) : Type 0 where
  pub mid : List Kept
  pub room : Changes (MakesRoom size e.bytes) sets e.line result mid calls
  pub put : MatchResult result (λ _. new ≡ in_front mid e) (λ _. new ≡ mid)

-- a read of a line that is not kept: it is read below first
abbrev pub ReadMisses : (List ℕ → ℕ) → List Kept → ℕ → Result (List ℕ) NoSpace → List Kept → List Call → Type 0
ReadMisses size sets line (Ok bytes) new (Read l (Ok b) ∷ calls) = (l ≡ line) × (b ≡ bytes) × PutsInFront size sets (clean_entry line b) (Ok tt) new calls
ReadMisses size sets line (Err refusal) new (Read l (Ok b) ∷ calls) = (l ≡ line) × PutsInFront size sets (clean_entry line b) (Err refusal) new calls
ReadMisses size sets line (Err refusal) new (Read l (Err cause) ∷ []) = (l ≡ line) × (cause ≡ refusal) × (new ≡ sets)
ReadMisses size sets line answer new calls = ⊥

-- a read, which gives the copy of a line that is kept, and makes it the most recent
abbrev pub ReadsSecond : (List ℕ → ℕ) → List Kept → ℕ → Result (List ℕ) NoSpace → List Kept → List Call → Type 0
ReadsSecond size sets line answer new calls =
    MatchOption (kept_of sets line) (ReadMisses size sets line answer new calls)
    (λ e. (calls ≡ []) × (answer ≡ Ok e.bytes) × (new ≡ with_set sets line (touched (set_of sets line).lines line)))

-- a write, which needs no read below
abbrev pub WritesSecond : (List ℕ → ℕ) → List Kept → ℕ → List ℕ → Answer → List Kept → List Call → Type 0
WritesSecond size sets line bytes result new calls = PutsInFront size sets (dirty_entry line bytes) result new calls

-- one more, where the line was kept
abbrev pub raised_if : Bool → ℕ → ℕ
raised_if hit count = if hit then raised count else count

-- the counts after a read, of a line that was kept or not
abbrev pub read_counted : {T : Type 0} → Bool → Result T NoSpace → L2Counts → L2Counts
read_counted hit (Ok t) counts = record { reads = raised counts.reads; read_hits = raised_if hit counts.read_hits; writes = counts.writes; write_hits = counts.write_hits }
read_counted hit (Err refusal) counts = counts

-- and after a write
abbrev pub write_counted : Bool → Answer → L2Counts → L2Counts
write_counted hit (Ok u) counts = record { reads = counts.reads; read_hits = counts.read_hits; writes = raised counts.writes; write_hits = raised_if hit counts.write_hits }
write_counted hit (Err refusal) counts = counts

-- the set whose turn comes after that of set i
abbrev pub next_set : ℕ → ℕ → ℕ
next_set i sets = if i + 1 == sets then 0 else i + 1

-- a turn of the cleaner at set i: its least recent dirty line is written below and made clean
abbrev pub Cleans : List Kept → ℕ → Clean → List Kept → List Call → Type 0
Cleans sets i Nothing new [] = (last_dirty (set_at sets i).lines ≡ None) × (new ≡ sets)
Cleans sets i Done new (Write line bytes (Ok u) ∷ []) = (e : Entry) × (last_dirty (set_at sets i).lines ≡ Some e) × (line ≡ e.line) × (bytes ≡ e.bytes) × (new ≡ with_clean sets e.line)
Cleans sets i (PutOff refusal) new (Write line bytes (Err cause) ∷ []) = (e : Entry) × (last_dirty (set_at sets i).lines ≡ Some e) × (line ≡ e.line) × (bytes ≡ e.bytes) × (cause ≡ refusal) × (new ≡ sets)
Cleans sets i answer new calls = ⊥

-- the answer of the write that a turn makes
abbrev pub turn_answer : Clean → Answer
turn_answer Done = Ok tt
turn_answer Nothing = Ok tt
turn_answer (PutOff refusal) = Err refusal

-- An entry that is dirty is written below before it leaves.
abbrev pub WritesIfDirty : {B : Type 0} → (B → ℕ → List ℕ → Answer → B → Type 0) → B → Entry → Answer → B → Type 0
WritesIfDirty did_write before e result after = MatchBool e.dirty (did_write before e.line e.bytes result after) ((after ≡ before) × (result ≡ Ok tt))
