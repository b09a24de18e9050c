-- Rows of the table of faults: what each is about, and the first of them.
use Rattle.std.specs.Prelude.{◌≡◌, List, [], ◌∷◌, Bool, if◌then◌else◌, Option, Some, None, Result, MatchResult, option_map}
use Rattle.std.specs.Option.{option_or}
use Rattle.elf_image.specs.declared.fault.ImageKind.{ImageKind}
use Rattle.elf_image.specs.declared.fault.ImageFault.{ImageFault}
use Rattle.elf_image.specs.declared.headers.Header.{Header}

-- a row about the whole file
abbrev pub whole : ImageKind → Bool → Option ImageFault
whole kind holds = if holds then Some (record { kind = kind; header = None }) else None

-- a row about one header, where there is such a header
abbrev pub at_header : ImageKind → Option Header → Option ImageFault
at_header kind found = option_map (λ (header : Header). record { kind = kind; header = Some header.number }) found

-- the fault of the first row that holds
unfoldable pub first_row : List (Option ImageFault) → Option ImageFault
first_row [] = None
first_row (row ∷ rows) = option_or row (first_row rows)

-- a check ends with the fault, if there is one
abbrev pub Answers : Option ImageFault → Result (Unit {0}) ImageFault → Type 0
Answers fault result = MatchResult result (λ _. fault ≡ None) (λ told. fault ≡ Some told)
