-- A trace that is read row by row, and as a whole.
use Rattle.std.specs.Prelude.{◌≡◌, ℕ, List, [], ◌∷◌, drop, filter_map, length, Option, Some, None, Result, Ok, Err, MatchResult, OnOk}
use Rattle.std.specs.Option.{option_or}
use Rattle.std.specs.Result.{result_err, result_ok}
use Rattle.hier_types.specs.Span.{Span}
use Rattle.hier_types.specs.declared.access.Access.{Access}
use Rattle.trace_reader.specs.Access.{access_of}
use Rattle.trace_reader.specs.Rows.{numbered_rows}
use Rattle.trace_reader.specs.declared.fault.TraceFault.{TraceFault}
use Rattle.trace_reader.specs.declared.fault.TraceKind.{TraceKind}

-- a row's fault has the row's number
abbrev pub at_row : ℕ → Result Access TraceKind → Result Access TraceFault
at_row number (Ok access) = Ok access
at_row number (Err kind) = Err (record { line = number; kind = kind })

-- the access of a numbered row, or its fault
abbrev pub read_of : Span → ℕ × List ℕ → Result Access TraceFault
read_of span row = at_row row.0 (access_of span row.1)

-- the accesses of the rows that have no fault
unfoldable pub accesses_of : Span → List (ℕ × List ℕ) → List Access
accesses_of span rows = filter_map (λ (row : ℕ × List ℕ). result_ok (read_of span row)) rows

-- the fault of the first row that has one
unfoldable pub first_fault : Span → List (ℕ × List ℕ) → Option TraceFault
first_fault span [] = None
first_fault span (row ∷ rows) = option_or (result_err (read_of span row)) (first_fault span rows)

-- rows without a fault have so many accesses; of any others this is the first fault
abbrev pub Counts : Span → List (ℕ × List ℕ) → Result ℕ TraceFault → Type 0
Counts span rows result =
    MatchResult result
    (λ count. (first_fault span rows ≡ None) × (count ≡ length (accesses_of span rows)))
    (λ fault. first_fault span rows ≡ Some fault)

-- a reader: the bytes that are left, the number of their first row, and the fault that was found, if any
pub record Reading : Type 0 where
  pub span : Span
  pub left : List ℕ
  pub number : ℕ
  pub fault : Option TraceFault

-- the rows that are left
abbrev pub rows_left : Reading → List (ℕ × List ℕ)
rows_left reading = numbered_rows reading.number reading.left

-- what a reader answers of a row
abbrev pub answered : Result Access TraceFault → Result (Option Access) TraceFault
answered (Ok access) = Ok (Some access)
answered (Err fault) = Err fault

-- the first row's access or fault, and nothing where there is no row
abbrev pub next_of : Span → List (ℕ × List ℕ) → Result (Option Access) TraceFault
next_of span [] = Ok None
next_of span (row ∷ rows) = answered (read_of span row)

-- what the next call answers: the fault that was found, else what the first row says
abbrev pub answer_of : Reading → Option TraceFault → Result (Option Access) TraceFault
answer_of reading None = next_of reading.span (rows_left reading)
answer_of reading (Some fault) = Err fault

-- one call: a row that was read is not left, and a fault stays
pub record Reads (before : Reading) (result : Result (Option Access) TraceFault) (after : Reading) : Type 0 where
  pub answer : result ≡ answer_of before before.fault
  pub rows : OnOk result (rows_left after ≡ drop 1 (rows_left before))
  pub fault : after.fault ≡ result_err result
  pub span : after.span ≡ before.span
