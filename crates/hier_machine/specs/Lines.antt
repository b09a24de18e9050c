-- The image as lines.
use Rattle.std.specs.Prelude.{ℕ, ◌+◌, ◌-◌, ◌*◌, List, ◌++◌, replicate}
use Rattle.hier_types.specs.Lines.{zero_line}
use Rattle.hier_types.specs.Tabulate.{tabulate}
use Rattle.elf_image.specs.Image.{Loaded, byte_at}

-- the bytes of a line at the start
abbrev pub line_in : Loaded → ℕ → List ℕ
line_in image line = tabulate (λ place. byte_at image.span image.file (64 * line + place)) 64

-- the image in the pages before one, and zeros in all others
abbrev pub lines_before : Loaded → ℕ → List (List ℕ)
lines_before image page = tabulate (line_in image) (64 * page) ++ replicate (64 * (image.span.pages - page)) zero_line
