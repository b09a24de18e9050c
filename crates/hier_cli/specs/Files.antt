-- What stands outside of the program, and the file that its words name.
use Rattle.std.specs.Prelude.{◌≡◌, ◌⊎◌, ⊤, ℕ, ◌<◌, ◌≤◌, List, length, Option, Some, None, MatchOption, IfSome}
use Rattle.hier_types.specs.Causes.{Rose}
use Rattle.hier_types.specs.Outside.{file_of}
use Rattle.hier_types.specs.Streams.{AreUntouched, Streams}
use Rattle.run_report.specs.declared.end.End.{End}
use Rattle.run_report.specs.declared.end.End.TheVariants.{FileFault, TooLong, NoMemory}
use Rattle.hier_cli.specs.declared.notice.Notice.{Notice}
use Rattle.hier_cli.specs.declared.notice.Notice.TheVariants.{Ended}

-- the most bytes that a file may have
abbrev pub file_limit : ℕ
file_limit = 67108864

-- the shelf's files, where it tells them, and its count of faults before and now
pub record ShelfUse : Type 0 where
  pub files : Option (List (List ℕ × List ℕ))
  pub faults_before : ℕ
  pub faults_now : ℕ

-- what happened to a shelf from one of its states to another
abbrev pub shelf_use_of : {S : Type 0} → (S → Option (List (List ℕ × List ℕ))) → (S → ℕ) → S → S → ShelfUse
shelf_use_of files faults old new = record { files = files old; faults_before = faults old; faults_now = faults new }

-- the shelf, and the input and the output
pub record Outside : Type 0 where
  pub shelf : ShelfUse
  pub streams : Streams

abbrev pub outside : ShelfUse → Streams → Outside
outside shelf streams = record { shelf = shelf; streams = streams }

-- these are the bytes of the named file, where the files are told
abbrev pub IsFile : Option (List (List ℕ × List ℕ)) → List ℕ → List ℕ → Type 0
IsFile files name bytes = IfSome files (λ all. file_of all name ≡ Some bytes)

-- the named file, where the files are told, has more bytes than so many
abbrev pub IsLongerThan : ℕ → Option (List (List ℕ × List ℕ)) → List ℕ → Type 0
IsLongerThan limit files name = IfSome files (λ all. (bytes : List ℕ) × (file_of all name ≡ Some bytes) × (limit < length bytes))

-- what a file that was opened by its name has to give, where the files are told: all its bytes
abbrev pub Opens : Option (List (List ℕ × List ℕ)) → List ℕ → Option (List ℕ) → Type 0
Opens None name left = ⊤
Opens (Some all) name left = (bytes : List ℕ) × IsFile (Some all) name bytes × (left ≡ Some bytes)

-- the shelf gave these bytes for the name, and there are not too many
abbrev pub IsLoaded : ShelfUse → List ℕ → List ℕ → Type 0
IsLoaded shelf name file = IsFile shelf.files name file × (length file ≤ file_limit)

-- the shelf failed in this call, or tells its files and lacks the named one
abbrev pub FailsToLoad : ShelfUse → List ℕ → Type 0
FailsToLoad shelf name = MatchOption shelf.files (Rose shelf.faults_before shelf.faults_now) (λ files. MatchOption (file_of files name) (Unit {0}) (λ _. Rose shelf.faults_before shelf.faults_now))

-- the named file has more bytes than a file may have
abbrev pub IsTooLong : ShelfUse → List ℕ → Type 0
IsTooLong shelf name = IsLongerThan file_limit shelf.files name

-- why no file was loaded
abbrev pub IsLoadEnd : ShelfUse → List ℕ → End → Type 0
IsLoadEnd shelf name FileFault = FailsToLoad shelf name
IsLoadEnd shelf name TooLong = IsTooLong shelf name
IsLoadEnd shelf name NoMemory = Unit {0}
IsLoadEnd shelf name end = ⊥

-- no file was loaded, or the work on the named one ends so
abbrev pub OnFile : Outside → List ℕ → (List ℕ → Notice → Type 0) → Notice → Type 0
OnFile out name Ends notice =
    ((end : End) × (notice ≡ Ended end) × IsLoadEnd out.shelf name end × AreUntouched out.streams)
    ⊎ ((file : List ℕ) × IsLoaded out.shelf name file × Ends file notice)
