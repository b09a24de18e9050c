-- The texts of lines that are made.
use Rattle.std.specs.Prelude.{ℕ, List, map}
use Rattle.run_report.specs.declared.text_line.TextLine.{TextLine}

-- the bytes of each line
abbrev pub texts_of : List TextLine → List (List ℕ)
texts_of lines = map (λ line. line.text.bytes) lines
