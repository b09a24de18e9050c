-- The memory that a run left, as it is printed.
use Rattle.std.specs.Prelude.{ℕ, ◌+◌, ◌*◌, ◌++◌, List, [], take, drop, if◌then◌else◌}
use Rattle.std.specs.Int.{w32, to_le_bytes}
use Rattle.std.specs.Str.{bytes_eq}
use Rattle.hier_types.specs.Lines.{flatten}
use Rattle.hier_types.specs.Span.{Span}
use Rattle.hier_types.specs.Tabulate.{tabulate}
use Rattle.hier_types.specs.declared.settings.Settings.{Settings}
use Rattle.hier_types.specs.Streams.{Streams}
use Rattle.hier_machine.specs.Placed.{zero_page}
use Rattle.hier_machine.specs.State.{MachineState}
use Rattle.hier_cli.specs.declared.notice.Notice.{Notice}
use Rattle.hier_cli.specs.PrintedRuns.{EndsPrinted, RanAndPrinted}

-- the bytes of a page
abbrev pub page_bytes : List ℕ → ℕ → List ℕ
page_bytes bytes page = take 4096 (drop (4096 * page) bytes)

-- a page of these bytes behind its address of four bytes, the lowest first; nothing of a page of zeros
abbrev pub text_of_page : Span → ℕ → List ℕ → List ℕ
text_of_page span page bytes = if bytes_eq bytes zero_page then [] else to_le_bytes w32 (4096 * (span.base + page)) ++ bytes

-- the pages of a memory that are not zero, in rising order
abbrev pub image_text : Span → List ℕ → List ℕ
image_text span bytes = flatten (tabulate (λ page. text_of_page span page (page_bytes bytes page)) span.pages)

-- the memory of a machine
abbrev pub image_of : Span → MachineState → List ℕ
image_of span s = image_text span s.guest.hart.bytes

-- how the work on a file's program ends, where the memory that it left is printed
abbrev pub EndsImage : Settings → Streams → List ℕ → Notice → Type 0
EndsImage settings both file notice = EndsPrinted (RanAndPrinted (image_of settings.geometry)) settings both file notice
