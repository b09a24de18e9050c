use Rattle.std.proofs.Common.{◌≡◌, ◌≤◌, ◌+◌, ◌*◌, ◌++◌, take}
use Rattle.arrayvec.specs.ArrayString.{array_string_len}
use Rattle.run_report.specs.Texts.{counts_text}
use Rattle.run_report.proofs.text_line.TextLine.numbers.Given as goal

abbrev pub invariant-loop-number : goal.invariant-loop-number
invariant-loop-number l = (array_string_len l.self.text ≤ array_string_len l.fn.self.text + 21 * l.number-index)
    × (l.self.text.bytes ≡ l.fn.self.text.bytes ++ counts_text (take l.number-index l.numbers))
