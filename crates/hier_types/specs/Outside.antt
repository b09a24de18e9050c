-- What the calls of a source, a sink and a shelf do to bytes that are told.
use Rattle.std.specs.Prelude.{◌≡◌, ◌<◌, ◌≤◌, ℕ, min, List, [], ◌∷◌, length, take, drop, Option, Some, None, Result, MatchOption, MatchResult, IfSome, IfOk, IsErrOf, if◌then◌else◌}
use Rattle.std.specs.Io.KnownBytes.{Appends}
use Rattle.std.specs.Str.{bytes_eq}
use Rattle.hier_types.specs.declared.faults.ShelfFault.{ShelfFault}
use Rattle.hier_types.specs.declared.faults.ShelfFault.TheVariants.{Failed, TooLong}
use Rattle.hier_types.specs.Causes.{Rose}

-- a read takes as many bytes as there are, up to the buffer's length, to its beginning; a failed one takes none
abbrev pub Takes : {E : Type 0} → Option (List ℕ) → Option (List ℕ) → Result ℕ E → List ℕ → Type 0
Takes old new result into = IfSome old (λ bytes. MatchResult result
    (λ count. (count ≡ min (length into) (length bytes)) × (take count into ≡ take count bytes) × (new ≡ Some (drop count bytes)))
    (λ _. new ≡ Some bytes))

-- a front of the bytes was appended
abbrev pub AppendsFront : Option (List ℕ) → Option (List ℕ) → List ℕ → Type 0
AppendsFront old new bytes = (count : ℕ) × Appends old new (take count bytes)

-- the bytes under a name; of two files with one name the first counts
abbrev pub file_of : List (List ℕ × List ℕ) → List ℕ → Option (List ℕ)
file_of [] name = None
file_of (file ∷ files) name = if bytes_eq file.0 name then Some file.1 else file_of files name

-- What a shelf answers for a name: the file where it is short enough, and each fault with its cause.
pub record Loads {F : Type 0} (items : F → List ℕ) (files : Option (List (List ℕ × List ℕ))) (faults_before faults_now : ℕ) (name : List ℕ) (limit : ℕ) (result : Result F ShelfFault) : Type 0 where
  pub bounded : IfOk result (λ file. length (items file) ≤ limit)
  pub found : IfSome files (λ all. IfOk result (λ file. file_of all name ≡ Some (items file)))
  pub later : faults_before ≤ faults_now
  -- it failed: its count rose, or it tells its files and lacks this one
  pub failed : IsErrOf result Failed → MatchOption files (Rose faults_before faults_now) (λ all. MatchOption (file_of all name) (Unit {0}) (λ _. Rose faults_before faults_now))
  pub too_long : IsErrOf result TooLong → IfSome files (λ all. (bytes : List ℕ) × (file_of all name ≡ Some bytes) × (limit < length bytes))
