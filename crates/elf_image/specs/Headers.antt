-- Program headers. Places, names and types are those of the System V gABI, chapters "Object files" and "Program header".
use Rattle.std.specs.Prelude.{ℕ, ◌+◌, ◌*◌, ◌==◌, ◌<◌, ◌≤◌, Bool, List, filter, length}
use Rattle.hier_types.specs.Tabulate.{tabulate}
use Rattle.elf_image.specs.Fields.{half, word}
use Rattle.elf_image.specs.declared.headers.Header.{Header}

-- e_phnum, how many there are
abbrev pub header_count : List ℕ → ℕ
header_count file = half file 44

-- the place behind the last one: e_phoff is where the first begins
abbrev pub table_end : List ℕ → ℕ
table_end file = word file 28 + 32 * header_count file

-- the header with a number, from 0
abbrev pub header_of : List ℕ → ℕ → Header
header_of file number = record {
  number = number;
  kind = word file (word file 28 + 32 * number);
  offset = word file (word file 28 + 32 * number + 4);
  start = word file (word file 28 + 32 * number + 8);
  file_size = word file (word file 28 + 32 * number + 16);
  memory_size = word file (word file 28 + 32 * number + 20);
}

-- all of them, by number
abbrev pub headers_of : List ℕ → List Header
headers_of file = tabulate (header_of file) (header_count file)

-- type PT_LOAD
abbrev pub is_load : Header → Bool
is_load header = header.kind == 1

-- the loads, by number
unfoldable pub loads_of : List ℕ → List Header
loads_of file = filter is_load (headers_of file)

-- each header lies in the file
abbrev pub HasHeaders : List ℕ → Type 0
HasHeaders file = 0 < header_count file → table_end file ≤ length file
