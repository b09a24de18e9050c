-- The fields of a row, and what each stands for.
use Rattle.std.specs.Prelude.{ℕ, ◌==◌, ◌&&◌, Bool, false, if◌then◌else◌, nat_le, nat_lt, List, [], ◌∷◌, length, Option, Some, None}
use Rattle.std.specs.List.{list_all}
use Rattle.std.specs.Char.{is_ascii_hexdigit}
use Rattle.std.specs.Str.Parse.{digits_value}
use Rattle.trace_reader.specs.Parts.{parts}

-- each single space divides
abbrev pub fields_of : List ℕ → List (List ℕ)
fields_of row = parts 32 row

-- the field is that one byte
abbrev pub is_only : ℕ → List ℕ → Bool
is_only byte (only ∷ []) = only == byte
is_only byte field = false

-- the fields, where there are two
abbrev pub two_of : List (List ℕ) → Option (List ℕ × List ℕ)
two_of (one ∷ two ∷ []) = Some (one, two)
two_of fields = None

-- the fields, where there are three
abbrev pub three_of : List (List ℕ) → Option (List ℕ × List ℕ × List ℕ)
three_of (one ∷ two ∷ three ∷ []) = Some (one, two, three)
three_of fields = None

-- 1 to so many hexadecimal digits of either case
abbrev pub is_number : ℕ → List ℕ → Bool
is_number most field = (nat_lt 0 (length field) && nat_le (length field) most) && list_all is_ascii_hexdigit field

-- the number that they write
unfoldable pub number_of : ℕ → List ℕ → Option ℕ
number_of most field = if is_number most field then Some (digits_value 16 field) else None

-- the width in bytes: `1`, `2` or `4`
unfoldable pub width_of : List ℕ → Option ℕ
width_of field = if is_only 49 field then Some 1 else if is_only 50 field then Some 2 else if is_only 52 field then Some 4 else None
