-- Rows that are read one by one.
use Rattle.std.proofs.Common.{◌≡◌, ◌∙◌, ℕ, ◌+◌, ◌≤◌, ◌==◌, true, false, Bool, List, [], ◌∷◌, length, drop, Option, Some, None, Result, Ok, Err, if◌then◌else◌, refl, sym, ap, arith}
use Rattle.std.specs.List.{count_by, cons_option, slice_split}
use Rattle.std.specs.Str.Lines.{strip_carriage_return}
use Rattle.std.specs.Option.{is_some, option_or}
use Rattle.std.specs.Result.{result_err, result_ok}
use Rattle.std.proofs.lemmas.List.{length-map}
use Rattle.std.proofs.lemmas.List.Sums.{count_by-le-length}
use Rattle.std.proofs.lemmas.List.Splits.{length-slice_split}
use Rattle.std.proofs.lemmas.Grind.{common_steps}
use Rattle.hier_types.specs.Span.{Span}
use Rattle.hier_types.specs.declared.access.Access.{Access}
use Rattle.trace_reader.specs.Rows.{numbered, numbered_rows, rows_of, is_passed_over}
use Rattle.trace_reader.specs.Trace.{Reading, Reads, accesses_of, answer_of, answered, first_fault, next_of, read_of, rows_left}
use Rattle.trace_reader.specs.declared.fault.TraceFault.{TraceFault}

-- the first row has an access
pub record Read (span : Span) (rows : List (ℕ × List ℕ)) : Type 0 where
  pub some : length (drop 1 rows) + 1 ≡ length rows
  pub faults : first_fault span rows ≡ first_fault span (drop 1 rows)
  pub accesses : length (accesses_of span rows) ≡ length (accesses_of span (drop 1 rows)) + 1

read-cons : (span : Span) (row : ℕ × List ℕ) (rows : List (ℕ × List ℕ)) (read : Result Access TraceFault) (access : Access) → read_of span row ≡ read
    → answered read ≡ Ok (Some access) → Read span (row ∷ rows)
unfolding first_fault accesses_of
read-cons span row rows (Ok found) access e is = record {
  some = grind (arith, common_steps);
  faults = ap (λ (r : Result Access TraceFault). option_or (result_err r) (first_fault span rows)) e;
  accesses = ap (λ (r : Result Access TraceFault). length (cons_option (result_ok r) (accesses_of span rows))) e ∙ omega arith;
}
read-cons span row rows (Err fault) access e is = cc

read-some : (span : Span) (rows : List (ℕ × List ℕ)) (found : Option Access) → is_some found ≡ true → next_of span rows ≡ Ok found → Read span rows
read-some span rows None t e = cc
read-some span [] (Some access) t e = cc
read-some span (row ∷ rows) (Some access) t e = read-cons span row rows (read_of span row) access refl e

-- a call before any fault answers what the first row says
next-is : (before : Reading) (result : Result (Option Access) TraceFault) → before.fault ≡ None → result ≡ answer_of before before.fault
    → next_of before.span (rows_left before) ≡ result
next-is before result none e = sym (e ∙ ap (answer_of before) none)

next-at : (span : Span) (before after : Reading) (result : Result (Option Access) TraceFault) → before.span ≡ span → before.fault ≡ None → Reads before result after
    → next_of span (rows_left before) ≡ result
next-at span before after result at none reads =
    ap (λ (s : Span). next_of s (rows_left before)) (sym at) ∙ next-is before result none reads.answer

pub goes-on : (span : Span) (before after : Reading) (found : Option Access) → before.span ≡ span → before.fault ≡ None → Reads before (Ok found) after
    → is_some found ≡ true → Read span (rows_left before)
goes-on span before after found at none reads t = read-some span (rows_left before) found t (next-at span before after (Ok found) at none reads)

none-cons : (row : ℕ × List ℕ) (rows : List (ℕ × List ℕ)) (read : Result Access TraceFault)
    → answered read ≡ Ok None → row ∷ rows ≡ []
none-cons row rows (Ok found) e = cc
none-cons row rows (Err fault) e = cc

read-none : (span : Span) (rows : List (ℕ × List ℕ)) (found : Option Access) → is_some found ≡ false → next_of span rows ≡ Ok found → rows ≡ []
read-none span rows (Some access) t e = cc
read-none span [] None t e = refl
read-none span (row ∷ rows) None t e = none-cons row rows (read_of span row) e

-- where there is nothing more there is no row
pub ends : (span : Span) (before after : Reading) (found : Option Access) → before.span ≡ span → before.fault ≡ None → Reads before (Ok found) after
    → is_some found ≡ false → rows_left before ≡ []
ends span before after found at none reads t = read-none span (rows_left before) found t (next-at span before after (Ok found) at none reads)

pub no-fault : (span : Span) → first_fault span [] ≡ None
unfolding first_fault
no-fault span = refl

pub no-access : (span : Span) → length (accesses_of span []) ≡ 0
unfolding accesses_of
no-access span = refl

fault-cons : (span : Span) (row : ℕ × List ℕ) (rows : List (ℕ × List ℕ)) (read : Result Access TraceFault) (fault : TraceFault) → read_of span row ≡ read
    → answered read ≡ Err fault → first_fault span (row ∷ rows) ≡ Some fault
unfolding first_fault
fault-cons span row rows (Ok found) fault e is = cc
fault-cons span row rows (Err found) fault e is =
    let same : found ≡ fault = cc in
    ap (λ (r : Result Access TraceFault). option_or (result_err r) (first_fault span rows)) e ∙ ap Some same

read-fault : (span : Span) (rows : List (ℕ × List ℕ)) (fault : TraceFault) → next_of span rows ≡ Err fault → first_fault span rows ≡ Some fault
read-fault span [] fault e = cc
read-fault span (row ∷ rows) fault e = fault-cons span row rows (read_of span row) fault refl e

-- a call that finds a fault finds the first
pub fails : (span : Span) (before after : Reading) (fault : TraceFault) → before.span ≡ span → before.fault ≡ None → Reads before (Err fault) after
    → first_fault span (rows_left before) ≡ Some fault
fails span before after fault at none reads = read-fault span (rows_left before) fault (next-at span before after (Err fault) at none reads)

length-numbered : (number : ℕ) (rows : List (List ℕ)) → length (numbered number rows) ≤ length rows
length-numbered number [] = omega arith
length-numbered number (row ∷ rows) =
    let rest = length-numbered (number + 1) rows in
    elim (is_passed_over row) as (λ (t : Bool). length (if t then numbered (number + 1) rows else (number, row) ∷ numbered (number + 1) rows) ≤ length (row ∷ rows)) [
      | true ↦ omega arith
      | false ↦ omega arith
    ]

-- there are no more rows than bytes, but for one
pub length-rows : (number : ℕ) (bytes : List ℕ) → length (numbered_rows number bytes) ≤ length bytes + 1
unfolding numbered_rows
length-rows number bytes =
    let parts = slice_split (λ byte. byte == 10) bytes in
    let rows : length (numbered number (rows_of bytes)) ≤ length (rows_of bytes) = length-numbered number (rows_of bytes) in
    let kept : length (rows_of bytes) ≡ length parts = length-map parts strip_carriage_return in
    let marks : length parts ≡ count_by (λ byte. byte == 10) bytes + 1 = length-slice_split (λ byte. byte == 10) bytes in
    let few : count_by (λ byte. byte == 10) bytes ≤ length bytes = count_by-le-length (λ byte. byte == 10) bytes in
    omega arith
