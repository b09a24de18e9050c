-- Bytes as the lines of whole pages, the last page filled with zeros.
use Rattle.std.specs.Prelude.{ℕ, ◌+◌, ◌*◌, ◌/◌, List, length, slice_index_or}
use Rattle.hier_types.specs.Tabulate.{tabulate}

-- the pages that so many bytes fill or begin
abbrev pub page_count : ℕ → ℕ
page_count bytes = (bytes + 4095) / 4096

-- the 64 bytes from a place on; past the end of the bytes each is 0
abbrev pub line_at : List ℕ → ℕ → List ℕ
line_at bytes first = tabulate (λ place. slice_index_or bytes (first + place) 0) 64

-- all lines, 64 for each page
abbrev pub lines_of_filled : List ℕ → List (List ℕ)
lines_of_filled bytes = tabulate (λ line. line_at bytes (64 * line)) (64 * page_count (length bytes))
