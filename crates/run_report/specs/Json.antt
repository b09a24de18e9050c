-- A report as JSON.
use Rattle.std.specs.Prelude.{ℕ, List, [], ◌∷◌, ◌++◌, codes, map}
use Rattle.serde_json.specs.Data.{Data, Members, array, number, object, no_members, put, string, unsigned}
use Rattle.serde_json.specs.View.{items_of}
use Rattle.serde_json.specs.Written.{compact_text}
use Rattle.hier_types.specs.Span.{Span}
use Rattle.hier_types.specs.declared.counts.Totals.{Totals}
use Rattle.run_report.specs.declared.report.Counts.{Counts}
use Rattle.run_report.specs.declared.report.Report.{Report}
use Rattle.run_report.specs.declared.report.Settled.{Settled}
use Rattle.run_report.specs.declared.report.Settled.TheVariants.{Done, Space}
use Rattle.run_report.specs.ReportLines.{classes, ratio, settled_text}
use Rattle.run_report.specs.Texts.{end_text, line_feed}

-- a number, and a list of numbers
abbrev pub one : ℕ → Data
one n = number (unsigned n)

abbrev pub many : List ℕ → Data
many numbers = array (items_of (map one numbers))

-- the members of what the pages take, and of what was counted, beside others
abbrev pub totals_members : Totals → Members → Members
totals_members totals members =
    put (codes "classes") (many (classes totals))
    (put (codes "exceptions") (one totals.exceptions)
    (put (codes "encoded") (one totals.encoded)
    (put (codes "blocks") (one totals.blocks)
    (put (codes "ratio") (one (ratio totals)) members))))

abbrev pub counts_members : Counts → Members → Members
counts_members counts members =
    put (codes "l1") (many (counts.l1.hits ∷ counts.l1.misses ∷ counts.l1.write_backs ∷ []))
    (put (codes "l2") (many (counts.l2.reads ∷ counts.l2.read_hits ∷ counts.l2.writes ∷ counts.l2.write_hits ∷ []))
    (put (codes "pages") (many (counts.pages.reads ∷ counts.pages.writes ∷ []))
    (put (codes "meta") (many (counts.pages.meta_hits ∷ counts.pages.meta_misses ∷ []))
    (put (codes "turns") (many (counts.pages.mover_turns ∷ counts.cleaner_turns ∷ []))
    (put (codes "tidy") (one counts.pages.tidy_turns) members)))))

-- where the settling was refused no totals are told
abbrev pub settled_members : Settled → Members → Members
settled_members (Done totals) members = totals_members totals members
settled_members (Space refusal) members = members

-- the lines of a report by their words, as one object; its keys are in the order of their bytes
abbrev pub report_data : Span → Report → Data
report_data span report = object (settled_members report.settled
    (put (codes "end") (string (end_text report.end))
    (put (codes "retired") (one report.retired)
    (counts_members report.counts
    (put (codes "settle") (string (settled_text span report.settled)) no_members)))))

abbrev pub json_text : Span → Report → List ℕ
json_text span report = compact_text (report_data span report) ++ line_feed
