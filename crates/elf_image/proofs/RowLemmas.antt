-- Rows that hold and rows that do not.
use Rattle.std.proofs.Common.{◌≡◌, ◌∙◌, ◌≢◌, List, [], ◌∷◌, ◌++◌, Bool, true, false, Option, Some, None, refl, sym, ap}
use Rattle.std.specs.Option.{option_or}
use Rattle.elf_image.specs.declared.fault.ImageKind.{ImageKind}
use Rattle.elf_image.specs.declared.fault.ImageKind.TheVariants.{NoMemory}
use Rattle.elf_image.specs.declared.fault.ImageFault.{ImageFault}
use Rattle.elf_image.specs.declared.headers.Header.{Header}
use Rattle.elf_image.specs.Rows.{whole, at_header, first_row}

-- the last row
pub last_row : (row : Option ImageFault) → option_or row None ≡ row
last_row None = refl
last_row (Some fault) = refl

option_or-assoc : (a b c : Option ImageFault) → option_or (option_or a b) c ≡ option_or a (option_or b c)
option_or-assoc None b c = refl
option_or-assoc (Some fault) b c = refl

-- rows before others
pub first_row-append : (rows others : List (Option ImageFault)) → first_row (rows ++ others) ≡ option_or (first_row rows) (first_row others)
unfolding first_row
first_row-append [] others = refl
first_row-append (row ∷ rows) others = ap (option_or row) (first_row-append rows others) ∙ sym (option_or-assoc row (first_row rows) (first_row others))

none_of : (a b : Option ImageFault) → option_or a b ≡ None → (a ≡ None) × (b ≡ None)
none_of None b none = (refl, none)
none_of (Some fault) b none = cc

-- where no row holds, neither does the first
pub no_row : (row : Option ImageFault) (rows : List (Option ImageFault)) → first_row (row ∷ rows) ≡ None → (row ≡ None) × (first_row rows ≡ None)
unfolding first_row
no_row row rows none = none_of row (first_row rows) none

pub not_whole : (kind : ImageKind) (holds : Bool) → whole kind holds ≡ None → holds ≡ false
not_whole kind true none = cc
not_whole kind false none = refl

pub not_at_header : (kind : ImageKind) (found : Option Header) → at_header kind found ≡ None → found ≡ None
not_at_header kind None none = refl
not_at_header kind (Some header) none = cc

-- a row says something of the file, and nothing of memory
abbrev pub OfFile : Option ImageFault → Type 0
OfFile row = (fault : ImageFault) → row ≡ Some fault → fault.kind ≢ NoMemory

pub whole-of_file : (kind : ImageKind) (holds : Bool) → kind ≢ NoMemory → OfFile (whole kind holds)
whole-of_file kind true other = λ fault some same. other (cc)
whole-of_file kind false other = λ fault some same. cc

pub at_header-of_file : (kind : ImageKind) (found : Option Header) → kind ≢ NoMemory → OfFile (at_header kind found)
at_header-of_file kind None other = λ fault some same. cc
at_header-of_file kind (Some header) other = λ fault some same. other (cc)

pub first_row-of_file : (row : Option ImageFault) (rows : List (Option ImageFault)) → OfFile row → OfFile (first_row rows) → OfFile (first_row (row ∷ rows))
unfolding first_row
first_row-of_file None rows here rest = rest
first_row-of_file (Some fault) rows here rest = here

pub no_rows-of_file : OfFile (first_row [])
unfolding first_row
no_rows-of_file = λ fault some same. cc
