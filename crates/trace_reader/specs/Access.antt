-- The access that a row writes, or the first fault of the row.
use Rattle.std.specs.Prelude.{ℕ, ◌*◌, ◌%◌, ◌==◌, if◌then◌else◌, nat_lt, List, [], ◌∷◌, length, Option, Some, None, Result, Ok, Err}
use Rattle.hier_types.specs.Span.{Span, has}
use Rattle.hier_types.specs.declared.access.Access.{Access}
use Rattle.hier_types.specs.declared.access.Access.TheVariants.{Load, Store}
use Rattle.trace_reader.specs.Fields.{fields_of, is_only, number_of, three_of, two_of, width_of}
use Rattle.trace_reader.specs.declared.fault.TraceKind.{TraceKind}
use Rattle.trace_reader.specs.declared.fault.TraceKind.TheVariants.{Long, Word, Fields, Number, Width, Value, Align, Range}

-- what is there is read on; where it is not, the fault is of this kind
abbrev pub required : {A : Type 0} → TraceKind → Option A → (A → Result Access TraceKind) → Result Access TraceKind
required kind None read_on = Err kind
required kind (Some found) read_on = read_on found

-- the address is a multiple of the width, and the span has it
abbrev pub placed : Span → ℕ → ℕ → Access → Result Access TraceKind
placed span at width access =
    if at % width == 0 then (if has span at then Ok access else Err Range) else Err Align

-- address and width, behind the word
unfoldable pub load_of : Span → List (List ℕ) → Result Access TraceKind
load_of span fields =
    required Fields (two_of fields) (λ two.
    required Number (number_of 8 two.0) (λ at.
    required Width (width_of two.1) (λ width.
    placed span at width (Load at width))))

-- address, width and value, behind the word
unfoldable pub store_of : Span → List (List ℕ) → Result Access TraceKind
store_of span fields =
    required Fields (three_of fields) (λ three.
    required Number (number_of 8 three.0) (λ at.
    required Width (width_of three.1) (λ width.
    required Value (number_of (2 * width) three.2) (λ value.
    placed span at width (Store at width value)))))

-- `L` begins a load and `S` a store
unfoldable pub access_of_fields : Span → List (List ℕ) → Result Access TraceKind
access_of_fields span [] = Err Word
access_of_fields span (word ∷ fields) =
    if is_only 76 word then load_of span fields else if is_only 83 word then store_of span fields else Err Word

-- a row has at most 64 bytes
unfoldable pub access_of : Span → List ℕ → Result Access TraceKind
access_of span row = if nat_lt 64 (length row) then Err Long else access_of_fields span (fields_of row)
