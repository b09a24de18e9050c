-- What an image puts into the guest's memory.
use Rattle.std.specs.Prelude.{◌≡◌, ℕ, true, Contains, ◌+◌, ◌-◌, ◌*◌, ◌&&◌, Bool, max, nat_le, nat_lt, List, None, filter, find, fold, map, option_map, slice_index, unwrap_or}
use Rattle.hier_types.specs.Span.{Span, first}
use Rattle.hier_types.specs.Tabulate.{tabulate}
use Rattle.elf_image.specs.Fields.{word}
use Rattle.elf_image.specs.Headers.{loads_of}
use Rattle.elf_image.specs.Accepted.{end_address, fault_of}
use Rattle.elf_image.specs.declared.headers.Header.{Header}

-- what contracts see of an image: the span that it was read for, and the file
pub record Loaded : Type 0 where
  pub span : Span
  pub file : List ℕ

-- the file was accepted, and its loads are at hand
pub record IsSound (span : Span) (file : List ℕ) (loads : List Header) : Type 0 where
  pub accepted : fault_of span file ≡ None
  pub loads_are : loads ≡ loads_of file

-- e_entry, the address of the first instruction
abbrev pub entry : List ℕ → ℕ
entry file = word file 24

-- a load puts a byte of the file at an address
abbrev pub covers : ℕ → Header → Bool
covers at load = nat_le load.start at && nat_lt at (load.start + load.file_size)

-- the file's byte that a load puts at an address
abbrev pub byte_of : List ℕ → ℕ → Header → ℕ
byte_of file at load = slice_index file (load.offset + (at - load.start))

-- the byte at an address: the file's of the load that covers it, else 0
unfoldable pub loaded_byte : List ℕ → List Header → ℕ → ℕ
loaded_byte file loads at = unwrap_or (option_map (byte_of file at) (find (covers at) loads)) 0

-- whichever load covers an address, its byte stands there
abbrev pub HoldsLoads : List ℕ → Type 0
HoldsLoads file = (load : Header) (at : ℕ) → Contains (loads_of file) load → covers at load ≡ true → loaded_byte file (loads_of file) at ≡ byte_of file at load

-- the byte at a place of the span at the start
abbrev pub byte_at : Span → List ℕ → ℕ → ℕ
byte_at span file place = loaded_byte file (loads_of file) (first span + place)

-- the bytes of a page at the start
abbrev pub page_of : Span → List ℕ → ℕ → List ℕ
page_of span file number = tabulate (λ place. byte_at span file (4096 * number + place)) 4096

-- all bytes of the span at the start
abbrev pub memory_of : Span → List ℕ → List ℕ
memory_of span file = tabulate (byte_at span file) (4096 * span.pages)

-- it has memory
abbrev pub has_memory : Header → Bool
has_memory load = nat_lt 0 load.memory_size

-- the greatest end of loads that have memory, or the address where it is greater or there is none
abbrev pub greatest_end : ℕ → List Header → ℕ
greatest_end address loads = fold max address (map end_address (filter has_memory loads))

-- the address behind the last byte of the loads. Where none has memory it is the span's first; any other ends above that.
unfoldable pub end_of : Span → List ℕ → ℕ
end_of span file = greatest_end (first span) (loads_of file)
