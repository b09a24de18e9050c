-- The rows of a trace, and their numbers.
use Rattle.std.specs.Prelude.{ℕ, ◌+◌, ◌==◌, true, Bool, if◌then◌else◌, List, [], ◌∷◌, map}
use Rattle.std.specs.Str.Lines.{strip_carriage_return}
use Rattle.trace_reader.specs.Parts.{parts}

-- what stands between line feeds, each without the one carriage return at its end
abbrev pub rows_of : List ℕ → List (List ℕ)
rows_of bytes = map strip_carriage_return (parts 10 bytes)

-- an empty row, or a comment
abbrev pub is_passed_over : List ℕ → Bool
is_passed_over [] = true
is_passed_over (first ∷ rest) = first == 35

-- the rows that are not passed over, with their numbers, where the first of all has the number given
abbrev pub numbered : ℕ → List (List ℕ) → List (ℕ × List ℕ)
numbered number [] = []
numbered number (row ∷ rows) =
    if is_passed_over row then numbered (number + 1) rows else (number, row) ∷ numbered (number + 1) rows

-- those of bytes whose first row has the number given
unfoldable pub numbered_rows : ℕ → List ℕ → List (ℕ × List ℕ)
numbered_rows number bytes = numbered number (rows_of bytes)
