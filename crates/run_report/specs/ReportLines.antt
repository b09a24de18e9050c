-- The lines of a report and of a survey.
use Rattle.std.specs.Prelude.{◌≡◌, ◌≢◌, ℕ, ◌+◌, ◌*◌, ◌/◌, List, [], ◌∷◌, ◌++◌, codes, decimal}
use Rattle.hier_types.specs.Lines.{flatten}
use Rattle.hier_types.specs.Span.{Span}
use Rattle.hier_types.specs.declared.counts.Totals.{Totals}
use Rattle.hier_types.specs.declared.faults.NoSpace.{NoSpace}
use Rattle.run_report.specs.declared.end.End.TheVariants.{NoteFault}
use Rattle.run_report.specs.declared.report.Counts.{Counts}
use Rattle.run_report.specs.declared.report.Report.{Report}
use Rattle.run_report.specs.declared.report.Settled.{Settled}
use Rattle.run_report.specs.declared.report.Settled.TheVariants.{Done, Space}
use Rattle.run_report.specs.Texts.{address, counts_text, end_line, line_feed, page_address, retired_line}

-- a word and some numbers
abbrev pub numbers_line : List ℕ → List ℕ → List ℕ
numbers_line word numbers = word ++ counts_text numbers ++ line_feed

-- the pages that have a block
abbrev pub pages_of : Totals → ℕ
pages_of totals = totals.c512 + totals.c1024 + totals.c2048 + totals.c4096

-- the bytes of their blocks
abbrev pub block_bytes : Totals → ℕ
block_bytes totals = 512 * totals.c512 + 1024 * totals.c1024 + 2048 * totals.c2048 + 4096 * totals.c4096

-- 100 times the bytes of the pages that have a block by those of their blocks, rounded down; 0 where there are none
abbrev pub ratio : Totals → ℕ
ratio totals = 100 * 4096 * pages_of totals / block_bytes totals

-- what the pages take
abbrev pub classes : Totals → List ℕ
classes totals = totals.c512 ∷ totals.c1024 ∷ totals.c2048 ∷ totals.c4096 ∷ []

abbrev pub totals_lines : Totals → List (List ℕ)
totals_lines totals = numbers_line (codes "classes") (classes totals)
    ∷ numbers_line (codes "exceptions") (totals.exceptions ∷ [])
    ∷ numbers_line (codes "encoded") (totals.encoded ∷ [])
    ∷ numbers_line (codes "blocks") (totals.blocks ∷ [])
    ∷ numbers_line (codes "ratio") (ratio totals ∷ [])
    ∷ []

-- what was counted
abbrev pub counts_lines : Counts → List (List ℕ)
counts_lines counts = numbers_line (codes "l1") (counts.l1.hits ∷ counts.l1.misses ∷ counts.l1.write_backs ∷ [])
    ∷ numbers_line (codes "l2") (counts.l2.reads ∷ counts.l2.read_hits ∷ counts.l2.writes ∷ counts.l2.write_hits ∷ [])
    ∷ numbers_line (codes "pages") (counts.pages.reads ∷ counts.pages.writes ∷ [])
    ∷ numbers_line (codes "meta") (counts.pages.meta_hits ∷ counts.pages.meta_misses ∷ [])
    ∷ numbers_line (codes "turns") (counts.pages.mover_turns ∷ counts.cleaner_turns ∷ [])
    ∷ numbers_line (codes "tidy") (counts.pages.tidy_turns ∷ [])
    ∷ []

-- what became of the settling
abbrev pub refusal_text : Span → NoSpace → List ℕ
refusal_text span refusal = codes "space " ++ address (page_address span refusal.page.0) ++ codes " " ++ decimal refusal.order

abbrev pub settled_text : Span → Settled → List ℕ
settled_text span (Done totals) = codes "done"
settled_text span (Space refusal) = refusal_text span refusal

abbrev pub settle_line : Span → Settled → List ℕ
settle_line span settled = codes "settle " ++ settled_text span settled ++ line_feed

-- the lines of every report
abbrev pub run_lines : Span → Report → List (List ℕ)
run_lines span report = end_line report.end ∷ retired_line report.retired ∷ counts_lines report.counts ++ settle_line span report.settled ∷ []

-- where the settling was refused no totals follow
abbrev pub settled_lines : Settled → List (List ℕ)
settled_lines (Done totals) = totals_lines totals
settled_lines (Space refusal) = []

abbrev pub report_lines : Span → Report → List (List ℕ)
report_lines span report = run_lines span report ++ settled_lines report.settled

abbrev pub report_text : Span → Report → List ℕ
report_text span report = flatten (report_lines span report)

-- a survey has all pages, those of zeros, and what the others take
abbrev pub survey_lines : Totals → List (List ℕ)
survey_lines totals = numbers_line (codes "pages") ((totals.zero + pages_of totals) ∷ [])
    ∷ numbers_line (codes "zero") (totals.zero ∷ [])
    ∷ totals_lines totals

abbrev pub survey_text : Totals → List ℕ
survey_text totals = flatten (survey_lines totals)

-- the bytes of the blocks are those of the classes
abbrev pub HasBlocks : Totals → Type 0
HasBlocks totals = totals.blocks ≡ block_bytes totals

abbrev pub HasBlocksIfDone : Settled → Type 0
HasBlocksIfDone (Done totals) = HasBlocks totals
HasBlocksIfDone (Space refusal) = Unit {0}

-- A report that can be told: its end is none of the note itself, and its totals go together.
pub record CanBeTold (report : Report) : Type 0 where
  pub own : report.end ≢ NoteFault
  pub blocks : HasBlocksIfDone report.settled
