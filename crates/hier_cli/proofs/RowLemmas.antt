-- Rows of a trace without a fault.
use Rattle.std.proofs.Common.{◌≡◌, ◌⊎◌, ◌∙◌, ℕ, ◌%◌, ◌*◌, ◌==◌, true, false, Bool, cond, nat_lt, List, [], ◌∷◌, length, drop, Option, Some, None, Result, Ok, Err, IfSome, inl, inr, refl, sym, ap, subst, arith}
use Rattle.std.specs.List.{cons_option}
use Rattle.std.specs.Option.{option_or}
use Rattle.std.specs.Result.{result_err, result_ok}
use Rattle.std.proofs.lemmas.Bool.Decides.{nat_tests}
use Rattle.hier_types.specs.Span.{Has, Span, has}
use Rattle.hier_types.specs.declared.access.Access.{Access}
use Rattle.hier_types.specs.declared.access.Access.TheVariants.{Load, Store}
use Rattle.rv_core.specs.Accesses.{IsAccess}
use Rattle.trace_reader.specs.Access.{access_of, access_of_fields, load_of, placed, required, store_of}
use Rattle.trace_reader.specs.Fields.{fields_of, is_only, number_of, three_of, two_of, width_of}
use Rattle.trace_reader.specs.Trace.{Reading, Reads, accesses_of, answer_of, answered, at_row, first_fault, next_of, read_of, rows_left}
use Rattle.trace_reader.specs.declared.fault.TraceFault.{TraceFault}
use Rattle.trace_reader.specs.declared.fault.TraceKind.{TraceKind}
use Rattle.trace_reader.specs.declared.fault.TraceKind.TheVariants as kind
use Rattle.trace_reader.proofs.TraceLemmas.{fails, no-fault}
use Rattle.hier_cli.specs.Traces.{IsFaultless, accesses_left, with_next}

required_ok : {A : Type 0} (kind : TraceKind) (o : Option A) (read_on : A → Result Access TraceKind) (found : Access) → required kind o read_on ≡ Ok found → (a : A) × (o ≡ Some a) × (read_on a ≡ Ok found)
required_ok kind None read_on found e = cc
required_ok kind (Some a) read_on found e = (a, refl, e)

wide : (one two four : Bool) (width : ℕ) → cond one (Some 1) (cond two (Some 2) (cond four (Some 4) None)) ≡ Some width → (width ≡ 1) ⊎ ((width ≡ 2) ⊎ (width ≡ 4))
wide true two four width e = inl cc
wide false true four width e = inr (inl cc)
wide false false true width e = inr (inr cc)
wide false false false width e = cc

width_is : (field : List ℕ) (width : ℕ) → width_of field ≡ Some width → (width ≡ 1) ⊎ ((width ≡ 2) ⊎ (width ≡ 4))
unfolding width_of
width_is field width e = wide (is_only 49 field) (is_only 50 field) (is_only 52 field) width e

inside_of : (span : Span) (at : ℕ) (t : Bool) → has span at ≡ t → t ≡ true → Has span at
inside_of span at t e is = grind (arith, nat_tests)

placed_at : (span : Span) (at width : ℕ) (access found : Access) (aligned inside : Bool) → at % width == 0 ≡ aligned → has span at ≡ inside
    → cond aligned (cond inside (Ok access) (Err kind.Range)) (Err kind.Align) ≡ Ok found → (access ≡ found) × (at % width ≡ 0) × Has span at
placed_at span at width access found true true a i e = (cc, grind (arith, nat_tests), inside_of span at true i refl)
placed_at span at width access found true false a i e = cc
placed_at span at width access found false inside a i e = cc

placed_is : (span : Span) (at width : ℕ) (access found : Access) → placed span at width access ≡ Ok found → (access ≡ found) × (at % width ≡ 0) × Has span at
placed_is span at width access found e = placed_at span at width access found (at % width == 0) (has span at) refl refl e

load_is : (span : Span) (fields : List (List ℕ)) (found : Access) → load_of span fields ≡ Ok found → IsAccess span found
unfolding load_of
load_is span fields found e =
    let (two, some, then) = required_ok kind.Fields (two_of fields) _ found e in
    let (at, number, next) = required_ok kind.Number (number_of 8 two.0) _ found then in
    let (width, is, last) = required_ok kind.Width (width_of two.1) _ found next in
    let (same, aligned, inside) = placed_is span at width (Load at width) found last in
    subst (IsAccess span) same (record { width = width_is two.1 width is; aligned = aligned; has = inside })

store_is : (span : Span) (fields : List (List ℕ)) (found : Access) → store_of span fields ≡ Ok found → IsAccess span found
unfolding store_of
store_is span fields found e =
    let (three, some, then) = required_ok kind.Fields (three_of fields) _ found e in
    let (at, number, next) = required_ok kind.Number (number_of 8 three.0) _ found then in
    let (width, is, more) = required_ok kind.Width (width_of three.1) _ found next in
    let (value, fits, last) = required_ok kind.Value (number_of (2 * width) three.2) _ found more in
    let (same, aligned, inside) = placed_is span at width (Store at width value) found last in
    subst (IsAccess span) same (record { width = width_is three.1 width is; aligned = aligned; has = inside })

by_word : (span : Span) (fields : List (List ℕ)) (found : Access) (load store : Bool) → cond load (load_of span fields) (cond store (store_of span fields) (Err kind.Word)) ≡ Ok found → IsAccess span found
by_word span fields found true store e = load_is span fields found e
by_word span fields found false true e = store_is span fields found e
by_word span fields found false false e = cc

by_fields : (span : Span) (fields : List (List ℕ)) (found : Access) → access_of_fields span fields ≡ Ok found → IsAccess span found
unfolding access_of_fields
by_fields span [] found e = cc
by_fields span (word ∷ fields) found e = by_word span fields found (is_only 76 word) (is_only 83 word) e

by_size : (span : Span) (row : List ℕ) (found : Access) (long : Bool) → cond long (Err kind.Long) (access_of_fields span (fields_of row)) ≡ Ok found → IsAccess span found
by_size span row found true e = cc
by_size span row found false e = by_fields span (fields_of row) found e

-- the access that a row writes is one of 1, 2 or 4 bytes at a multiple of them in the span
row_access : (span : Span) (row : List ℕ) (found : Access) → access_of span row ≡ Ok found → IsAccess span found
unfolding access_of
row_access span row found e = by_size span row found (nat_lt 64 (length row)) e

-- The first of these rows has this access, and no later one has a fault.
record IsFirst (span : Span) (rows : List (ℕ × List ℕ)) (access : Access) : Type 0 where
  is : IsAccess span access
  accesses : accesses_of span rows ≡ access ∷ accesses_of span (drop 1 rows)
  faults : first_fault span (drop 1 rows) ≡ first_fault span rows

at_row_is : (span : Span) (row : ℕ × List ℕ) (read : Result Access TraceKind) (access : Access) → access_of span row.1 ≡ read → answered (at_row row.0 read) ≡ Ok (Some access) → access_of span row.1 ≡ Ok access
at_row_is span row (Ok found) access e is = e ∙ (let same : found ≡ access = cc in ap Ok same)
at_row_is span row (Err fault) access e is = cc

first_cons : (span : Span) (row : ℕ × List ℕ) (rows : List (ℕ × List ℕ)) (access : Access) → access_of span row.1 ≡ Ok access → IsFirst span (row ∷ rows) access
unfolding first_fault accesses_of
first_cons span row rows access e = record {
  is = row_access span row.1 access e;
  accesses = ap (λ (r : Result Access TraceKind). cons_option (result_ok (at_row row.0 r)) (accesses_of span rows)) e;
  faults = sym (ap (λ (r : Result Access TraceKind). option_or (result_err (at_row row.0 r)) (first_fault span rows)) e);
}

first_is : (span : Span) (rows : List (ℕ × List ℕ)) (access : Access) → next_of span rows ≡ Ok (Some access) → IsFirst span rows access
first_is span [] access e = cc
first_is span (row ∷ rows) access e = first_cons span row rows access (at_row_is span row (access_of span row.1) access refl e)

none_cons : (row : ℕ × List ℕ) (rows : List (ℕ × List ℕ)) (read : Result Access TraceFault) → answered read ≡ Ok None → row ∷ rows ≡ []
none_cons row rows (Ok found) e = cc
none_cons row rows (Err fault) e = cc

none_is : (span : Span) (rows : List (ℕ × List ℕ)) → next_of span rows ≡ Ok None → rows ≡ []
none_is span [] e = refl
none_is span (row ∷ rows) e = none_cons row rows (read_of span row) e

no_accesses : (span : Span) → accesses_of span [] ≡ []
unfolding accesses_of
no_accesses span = refl

next_is : (before after : Reading) (result : Result (Option Access) TraceFault) → before.fault ≡ None → Reads before result after → next_of before.span (rows_left before) ≡ result
next_is before after result none reads = sym (reads.answer ∙ ap (answer_of before) none)

-- What a call says of the rows of a trace without a fault.
pub record NextRead (before : Reading) (next : Option Access) (after : Reading) : Type 0 where
  pub left : accesses_left before ≡ with_next next (accesses_left after)
  pub access : IfSome next (IsAccess before.span)
  pub faultless : IsFaultless after

pub next_read : (before after : Reading) (next : Option Access) → IsFaultless before → Reads before (Ok next) after → NextRead before next after
next_read before after None h reads =
    let none = none_is before.span (rows_left before) (next_is before after (Ok None) h.found reads) in
    let after_none : rows_left after ≡ [] = reads.rows ∙ ap (drop 1) none in
    record {
      left = ap (accesses_of before.span) none ∙ no_accesses before.span;
      access = tt;
      faultless = record { found = reads.fault; left = ap (first_fault after.span) after_none ∙ no-fault after.span };
    }
next_read before after (Some access) h reads =
    let read = first_is before.span (rows_left before) access (next_is before after (Ok (Some access)) h.found reads) in
    let rest : accesses_of before.span (drop 1 (rows_left before)) ≡ accesses_left after =
    ap (accesses_of before.span) (sym reads.rows) ∙ ap (λ (s : Span). accesses_of s (rows_left after)) (sym reads.span) in
    record {
      left = read.accesses ∙ ap (λ (l : List Access). access ∷ l) rest;
      access = read.is;
      faultless = record { found = reads.fault; left = ap (λ (s : Span). first_fault s (rows_left after)) reads.span ∙ ap (first_fault before.span) reads.rows ∙ read.faults ∙ h.left };
    }

-- a call finds no fault there
pub never_fails : (before after : Reading) (fault : TraceFault) → IsFaultless before → Reads before (Err fault) after → ⊥
never_fails before after fault h reads =
    let some = fails before.span before after fault refl h.found reads in
    absurd (let no = sym h.left ∙ some in cc)
