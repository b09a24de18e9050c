-- The lines of a layout.
use Rattle.std.specs.Prelude.{ℕ, ◌+◌, ◌/◌, ◌%◌, List, [], ◌∷◌, ◌++◌, codes, nat_lt, if◌then◌else◌}
use Rattle.hier_types.specs.Span.{Span}
use Rattle.page_slots.specs.declared.placing.PlaceKind.{PlaceKind}
use Rattle.page_slots.specs.declared.placing.PlaceKind.TheVariants as kinds
use Rattle.page_slots.specs.declared.placing.PlaceRow.{PlaceRow}
use Rattle.run_report.specs.Texts.{address, counts_text, line_feed, page_address}

-- the letter of what stands in a place
abbrev pub kind_letter : PlaceKind → List ℕ
kind_letter kinds.Block = codes "b"
kind_letter kinds.Meta = codes "m"
kind_letter kinds.Slot = codes "s"
kind_letter kinds.Exception = codes "x"
kind_letter kinds.Raw = codes "r"

-- the line that stands there in two decimal digits, or that it is none
abbrev pub line_number : ℕ → List ℕ
line_number line = if nat_lt line 64 then (48 + line / 10) ∷ (48 + line % 10) ∷ [] else codes "--"

-- a place of a page whose block begins at a base: the page's address, the line, the kind, the first byte in the store, how
-- many bytes it has, and how many of these say something
abbrev pub place_line : Span → ℕ → ℕ → PlaceRow → List ℕ
place_line span page base row = address (page_address span page) ++ codes " " ++ line_number row.line ++ codes " " ++ kind_letter row.kind
    ++ codes " " ++ address (base + row.at) ++ counts_text (row.room ∷ row.used ∷ []) ++ line_feed
