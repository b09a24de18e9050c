-- A sink in memory, by what contracts see of it.
use Rattle.std.specs.Prelude.{◌≡◌, ℕ, ◌-◌, ◌==◌, ◌<◌, min, List, [], ◌∷◌, ◌++◌, length, take, Option, Some, None, Result, Ok, Err, if◌then◌else◌}
use Rattle.hier_types.specs.declared.faults.Failed.{Failed}
use Rattle.hier_types.specs.Causes.{raised}

-- the bytes that it was given, its room in bytes, the calls that fail with the bytes that they append, and how many calls and faults there were
pub record Kept : Type 0 where
  pub bytes : List ℕ
  pub room : ℕ
  pub fail : List (ℕ × ℕ)
  pub calls : ℕ
  pub faults : ℕ

-- the bytes that the call of this number appends at most, if it is listed; the first entry counts
abbrev pub listed_count : List (ℕ × ℕ) → ℕ → Option ℕ
listed_count [] call = None
listed_count (entry ∷ entries) call = if entry.0 == call then Some entry.1 else listed_count entries call

-- the smaller of the two, where there is a second
abbrev pub at_most : Option ℕ → ℕ → ℕ
at_most None count = count
at_most (Some limit) count = min count limit

-- how many of the bytes the next call appends: those that find room, and of a listed call no more than its entry says
abbrev pub count_of : Kept → List ℕ → ℕ
count_of sink bytes = at_most (listed_count sink.fail sink.calls) (min (length bytes) (sink.room - length sink.bytes))

-- a write fails exactly where it is listed or not all bytes find room
abbrev pub AppendsOrFails : Kept → List ℕ → Result (Unit {0}) Failed → Kept → Type 0
AppendsOrFails old bytes (Ok u) new = (listed_count old.fail old.calls ≡ None) × (count_of old bytes ≡ length bytes)
    × (new ≡ record { bytes = old.bytes ++ bytes; room = old.room; fail = old.fail; calls = raised old.calls; faults = old.faults })
AppendsOrFails old bytes (Err failed) new = (listed_count old.fail old.calls ≡ None → count_of old bytes < length bytes)
    × (new ≡ record { bytes = old.bytes ++ take (count_of old bytes) bytes; room = old.room; fail = old.fail; calls = raised old.calls; faults = raised old.faults })
