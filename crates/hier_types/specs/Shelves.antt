-- A shelf in memory, by what contracts see of it.
use Rattle.std.specs.Prelude.{◌≡◌, ◌<◌, ◌≤◌, ℕ, false, List, map, length, Some, None, Result, Ok, Err, MatchBool, String, Vec, string_bytes}
use Rattle.std.specs.declared.alloc.Global.{Global}
use Rattle.hier_types.specs.declared.faults.ShelfFault.{ShelfFault}
use Rattle.hier_types.specs.declared.faults.ShelfFault.TheVariants.{Failed, TooLong, NoMemory}
use Rattle.hier_types.specs.Causes.{raised}
use Rattle.hier_types.specs.Outside.{file_of}
use Rattle.hier_types.specs.Sources.{is_listed}

-- names with their bytes, the numbers of the calls that fail, and how many calls and faults there were
pub record Stored : Type 0 where
  pub files : List (List ℕ × List ℕ)
  pub fail : List ℕ
  pub calls : ℕ
  pub faults : ℕ

-- names and contents, as bytes
abbrev pub entries : List (String Global × Vec ℕ Global) → List (List ℕ × List ℕ)
entries files = map (λ file. (string_bytes file.0, file.1.items)) files

-- the shelf after one more call, with so many faults
abbrev pub called : Stored → ℕ → Stored
called shelf faults = record { files = shelf.files; fail = shelf.fail; calls = raised shelf.calls; faults = faults }

-- the file is there, and the call is not listed
abbrev pub Finds : Stored → List ℕ → List ℕ → Type 0
Finds shelf name bytes = (is_listed shelf.fail shelf.calls ≡ false) × (file_of shelf.files name ≡ Some bytes)

-- The call is listed, or the name is not there, or the file is too long; else its bytes are given, where memory is.
abbrev pub LoadsOrFails : {F : Type 0} → (F → List ℕ) → Stored → List ℕ → ℕ → Result F ShelfFault → Stored → Type 0
LoadsOrFails items old name limit (Ok file) new = Finds old name (items file) × (length (items file) ≤ limit) × (new ≡ called old old.faults)
LoadsOrFails items old name limit (Err TooLong) new = ((bytes : List ℕ) × Finds old name bytes × (limit < length bytes)) × (new ≡ called old old.faults)
LoadsOrFails items old name limit (Err NoMemory) new = ((bytes : List ℕ) × Finds old name bytes × (length bytes ≤ limit)) × (new ≡ called old old.faults)
LoadsOrFails items old name limit (Err Failed) new =
    MatchBool (is_listed old.fail old.calls) (new ≡ called old (raised old.faults)) ((file_of old.files name ≡ None) × (new ≡ called old old.faults))
