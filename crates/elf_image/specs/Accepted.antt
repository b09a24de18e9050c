-- Which files are accepted for a span. Sums are over whole numbers.
use Rattle.std.specs.Prelude.{ℕ, ◌+◌, ◌%◌, ◌==◌, ◌&&◌, ◌||◌, Bool, not, max, min, nat_lt, List, [], ◌∷◌, ◌++◌, length, find, slice_index, Option}
use Rattle.std.specs.List.{list_any}
use Rattle.hier_types.specs.Span.{Span, first, past}
use Rattle.elf_image.specs.Fields.{half, word}
use Rattle.elf_image.specs.Headers.{header_count, headers_of, loads_of, table_end}
use Rattle.elf_image.specs.Rows.{whole, at_header, first_row}
use Rattle.elf_image.specs.declared.fault.ImageKind.TheVariants.{Short, Magic, Class, Order, Version, Kind, Machine, Compressed, HeaderTable, Interpreter, NoLoad, ManyLoads, FileRange, SizeOrder, AddressRange, Overlap}
use Rattle.elf_image.specs.declared.fault.ImageFault.{ImageFault}
use Rattle.elf_image.specs.declared.headers.Header.{Header}

-- the identification or the file header is not of version 1
abbrev pub has_other_version : List ℕ → Bool
has_other_version file = not (slice_index file 6 == 1) || not (word file 20 == 1)

-- there are program headers, which are not of 32 bytes or pass the file's end
abbrev pub has_bad_table : List ℕ → Bool
has_bad_table file = not (header_count file == 0) && (not (half file 42 == 32) || nat_lt (length file) (table_end file))

-- rows of the file header: e_type stands at 16, e_machine at 18, e_version at 20, e_flags at 36, e_phentsize at 42
unfoldable pub file_header_rows : List ℕ → List (Option ImageFault)
file_header_rows file =
    whole Short (nat_lt (length file) 52)
    ∷ whole Magic (not (word file 0 == 0x464c457f))
    ∷ whole Class (not (slice_index file 4 == 1))
    ∷ whole Order (not (slice_index file 5 == 1))
    ∷ whole Version (has_other_version file)
    ∷ whole Kind (not (half file 16 == 2))
    ∷ whole Machine (not (half file 18 == 243))
    ∷ whole Compressed (word file 36 % 2 == 1)
    ∷ whole HeaderTable (has_bad_table file)
    ∷ []

-- rows of the list of program headers; type 3 is PT_INTERP
unfoldable pub header_rows : List ℕ → List (Option ImageFault)
header_rows file =
    at_header Interpreter (find (λ (header : Header). header.kind == 3) (headers_of file))
    ∷ whole NoLoad (length (loads_of file) == 0)
    ∷ whole ManyLoads (nat_lt 64 (length (loads_of file)))
    ∷ []

-- the address behind the last byte of a load's memory
abbrev pub end_address : Header → ℕ
end_address load = load.start + load.memory_size

-- it takes bytes from behind the end of a file of so many bytes
abbrev pub passes_file : ℕ → Header → Bool
passes_file bytes load = nat_lt 0 load.file_size && nat_lt bytes (load.offset + load.file_size)

-- it takes more bytes than it has memory
abbrev pub exceeds_memory : Header → Bool
exceeds_memory load = nat_lt load.memory_size load.file_size

-- it has a byte outside the span
abbrev pub leaves_span : Span → Header → Bool
leaves_span span load = nat_lt 0 load.memory_size && (nat_lt load.start (first span) || nat_lt (past span) (end_address load))

-- both have the same byte
abbrev pub shares_byte : Header → Header → Bool
shares_byte load other = nat_lt (max load.start other.start) (min (end_address load) (end_address other))

-- a load has a byte that an earlier one of the list has
abbrev pub overlaps_earlier : List Header → Header → Bool
overlaps_earlier loads load = list_any (λ (other : Header). nat_lt other.number load.number && shares_byte other load) loads

-- rows of the loads
unfoldable pub load_rows : Span → ℕ → List Header → List (Option ImageFault)
load_rows span bytes loads =
    at_header FileRange (find (passes_file bytes) loads)
    ∷ at_header SizeOrder (find exceeds_memory loads)
    ∷ at_header AddressRange (find (leaves_span span) loads)
    ∷ at_header Overlap (find (overlaps_earlier loads) loads)
    ∷ []

-- why a file is refused: the first row that holds. No row holds of a file that is accepted.
unfoldable pub fault_of : Span → List ℕ → Option ImageFault
fault_of span file = first_row (file_header_rows file ++ (header_rows file ++ load_rows span (length file) (loads_of file)))
