-- Where every line stood in the store that a run left, as it is printed.
use Rattle.std.specs.Prelude.{ℕ, List, [], Option, Some, None}
use Rattle.std.specs.Option.{option_map_or}
use Rattle.hier_types.specs.Lines.{flatten}
use Rattle.hier_types.specs.Span.{Span}
use Rattle.hier_types.specs.Tabulate.{tabulate}
use Rattle.hier_types.specs.declared.settings.Settings.{Settings}
use Rattle.hier_types.specs.Streams.{Streams}
use Rattle.hier_machine.specs.Memory.{store_of}
use Rattle.hier_machine.specs.State.{MachineState}
use Rattle.page_slots.specs.declared.placing.PlaceRow.{PlaceRow}
use Rattle.page_store.specs.Layouts.{IsLaidOut, place_in}
use Rattle.page_store.specs.PageBlocks.{base_at}
use Rattle.page_store.specs.Store.{Store}
use Rattle.run_report.specs.LayoutLines.{place_line}
use Rattle.run_report.specs.declared.end.End.{End}
use Rattle.hier_cli.specs.declared.notice.Notice.{Notice}
use Rattle.hier_cli.specs.PrintedRuns.{EndsPrinted, RanAndPrinted}

-- a place of a page whose block begins at a base, where there is one of that index
abbrev pub text_of_place : Span → ℕ → ℕ → Option PlaceRow → List ℕ
text_of_place span page base None = []
text_of_place span page base (Some row) = place_line span page base row

-- the places of a page whose block begins at a base, in the order of their indices, of which there are 66 at most
abbrev pub text_of_block : Span → Store → ℕ → ℕ → List ℕ
text_of_block span store page base = flatten (tabulate (λ index. text_of_place span page base (place_in store page index)) 66)

-- the places of a page; nothing of one without a block
abbrev pub text_of_places : Span → Store → ℕ → List ℕ
text_of_places span store page = option_map_or (text_of_block span store page) (base_at store.descriptors page) []

-- the places of all pages, in rising order
abbrev pub layout_text : Span → Store → List ℕ
layout_text span store = flatten (tabulate (text_of_places span store) span.pages)

-- where the lines of a machine stand
abbrev pub layout_of : Span → MachineState → List ℕ
layout_of span s = layout_text span (store_of s.memory)

-- The program ran with its output dropped, and then the places of the store that it left were printed. Each line stands
-- there as its size asks, and no two places share a byte.
pub record RanAndLaid (settings : Settings) (file : List ℕ) (both : Streams) (end : End) (retired : ℕ) : Type 0 where
  pub printed : RanAndPrinted (layout_of settings.geometry) settings file both end retired
  pub laid_out : IsLaidOut (store_of printed.last.memory)

-- how the work on a file's program ends, where the layout of the store that it left is printed
abbrev pub EndsLayout : Settings → Streams → List ℕ → Notice → Type 0
EndsLayout settings both file notice = EndsPrinted RanAndLaid settings both file notice
