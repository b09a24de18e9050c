-- What a touch, a read and a write do to the sets and the counts, with the calls that they make below.
use Rattle.std.specs.Prelude.{◌≡◌, ℕ, List, [], ◌∷◌, Result, Ok, Err, MatchOption}
use Rattle.hier_types.specs.declared.counts.L1Counts.{L1Counts}
use Rattle.hier_types.specs.declared.faults.NoSpace.{NoSpace}
use Rattle.hier_types.specs.Calls.{Answer, Call, Read, Write}
use Rattle.hier_types.specs.Causes.{raised}
use Rattle.recency.specs.declared.entry.Entry.{Entry}
use Rattle.recency.specs.Kept.{Kept, with_lines, entry_of, touched, put_in, dirty_victim, clean_last, clean_entry, overwritten}
use Rattle.recency.specs.Levels.{set_of, with_set, FirstHas}
use Rattle.recency.specs.Steps.{Changes}

-- the line is read from below and put in, in place of the least recent where the set is full
abbrev pub Brings : Kept → ℕ → List Call → Answer → List Entry → Type 0
Brings set line (Read l (Ok bytes) ∷ []) (Ok u) after = (l ≡ line) × (after ≡ put_in set (clean_entry line bytes))
Brings set line (Read l (Err cause) ∷ []) (Err refusal) after = (l ≡ line) × (refusal ≡ cause) × (after ≡ set.lines)
Brings set line calls result after = ⊥

-- the dirty victim is written below first; it stays, and is clean, until the line is there
abbrev pub PutsOut : Kept → Entry → ℕ → List Call → Answer → List Entry → Type 0
PutsOut set victim line (Write l bytes (Ok u) ∷ calls) result after = (l ≡ victim.line) × (bytes ≡ victim.bytes) × Brings (with_lines set (clean_last set.lines)) line calls result after
PutsOut set victim line (Write l bytes (Err cause) ∷ []) (Err refusal) after = (l ≡ victim.line) × (bytes ≡ victim.bytes) × (refusal ≡ cause) × (after ≡ set.lines)
PutsOut set victim line calls result after = ⊥

-- a touch of a line that is not kept
abbrev pub Misses : Kept → ℕ → List Call → Answer → List Entry → Type 0
Misses set line calls result after = MatchOption (dirty_victim set) (Brings set line calls result after) (λ victim. PutsOut set victim line calls result after)

-- a touch: a line that is kept becomes the most recent, and nothing is called below
abbrev pub TouchesSet : Kept → ℕ → List Call → Answer → List Entry → Type 0
TouchesSet set line calls result after =
    MatchOption (entry_of set.lines line) (Misses set line calls result after)
    (λ e. (calls ≡ []) × (result ≡ Ok tt) × (after ≡ touched set.lines line))

-- The counts after a touch that made these calls: one more hit where it made none, one more miss where its read was
-- answered, and one more write-back where its write was.
abbrev pub counted : L1Counts → List Call → Answer → L1Counts
counted counts [] (Ok u) = record { hits = raised counts.hits; misses = counts.misses; write_backs = counts.write_backs }
counted counts (Read line bytes ∷ calls) (Ok u) = record { hits = counts.hits; misses = raised counts.misses; write_backs = counts.write_backs }
counted counts (Write line bytes (Ok u) ∷ calls) result = counted (record { hits = counts.hits; misses = counts.misses; write_backs = raised counts.write_backs }) calls result
counted counts calls result = counts

-- A step of one set, and the counts after it.
pub record CountedStep (Step : Kept → ℕ → List Call → Answer → List Entry → Type 0) (sets : List Kept) (counts : L1Counts) (line : ℕ) (result : Answer) (new : List Kept) (now : L1Counts) (calls : List Call) : Type 0 where
  pub change : Changes Step sets line result new calls
  pub counts_are : now ≡ counted counts calls result

-- a touch of a line
abbrev pub Touches : List Kept → L1Counts → ℕ → Answer → List Kept → L1Counts → List Call → Type 0
Touches sets counts line result new now calls = CountedStep TouchesSet sets counts line result new now calls

-- a read of a whole line touches it, and gives its copy
abbrev pub ReadsFirst : List Kept → L1Counts → ℕ → Result (List ℕ) NoSpace → List Kept → L1Counts → List Call → Type 0
ReadsFirst sets counts line (Ok bytes) new now calls = Touches sets counts line (Ok tt) new now calls × FirstHas new line bytes
ReadsFirst sets counts line (Err refusal) new now calls = Touches sets counts line (Err refusal) new now calls

-- a write of a whole line touches it, and then changes its copy, which is dirty
abbrev pub WritesFirst : List Kept → L1Counts → ℕ → List ℕ → Answer → List Kept → L1Counts → List Call → Type 0
WritesFirst sets counts line bytes (Ok u) new now calls =
    (mid : List Kept) × Touches sets counts line (Ok tt) mid now calls × (new ≡ with_set mid line (overwritten (set_of mid line).lines line bytes))
WritesFirst sets counts line bytes (Err refusal) new now calls = Touches sets counts line (Err refusal) new now calls
