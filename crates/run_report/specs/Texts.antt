-- The lines that tell of an end, and of how many instructions retired.
use Rattle.std.specs.Prelude.{ℕ, ◌+◌, ◌*◌, ◌/◌, ◌%◌, ◌^◌, List, [], ◌∷◌, ◌++◌, map, nat_lt, if◌then◌else◌, Option, Some, None, codes, decimal}
use Rattle.std.specs.List.{flat_map}
use Rattle.hier_types.specs.Span.{Span}
use Rattle.elf_image.specs.declared.fault.ImageKind.{ImageKind}
use Rattle.elf_image.specs.declared.fault.ImageKind.TheVariants as kind
use Rattle.hier_types.specs.declared.settings.SettingName.{SettingName}
use Rattle.hier_types.specs.declared.settings.SettingName.TheVariants as setting
use Rattle.trace_reader.specs.declared.fault.TraceKind.{TraceKind}
use Rattle.trace_reader.specs.declared.fault.TraceKind.TheVariants as row
use Rattle.run_report.specs.declared.end.End.{End}
use Rattle.run_report.specs.declared.end.End.TheVariants.{Done, Exit, Usage, Setting, FileFault, TooLong, BadImage, BadTrace, Trap, Budget, Space, NoRoom, InFault, OutFault, NoteFault, NoMemory}

-- the hexadecimal digit of a number below 16: 0 to 9, and then a to f
abbrev pub hex_digit : ℕ → ℕ
hex_digit n = if nat_lt n 10 then 48 + n else 87 + n

-- a number of 32 bits in eight hexadecimal digits, the highest first
abbrev pub address : ℕ → List ℕ
address n = map (λ low. hex_digit (n / 2 ^ low % 16)) (28 ∷ 24 ∷ 20 ∷ 16 ∷ 12 ∷ 8 ∷ 4 ∷ 0 ∷ [])

-- the address of a page of a span, as a number of 32 bits
abbrev pub page_address : Span → ℕ → ℕ
page_address span page = 4096 * (span.base + page) % 2 ^ 32

-- the name of what is wrong with a file
abbrev pub kind_name : ImageKind → List ℕ
kind_name kind.Short = codes "Short"
kind_name kind.Magic = codes "Magic"
kind_name kind.Class = codes "Class"
kind_name kind.Order = codes "Order"
kind_name kind.Version = codes "Version"
kind_name kind.Kind = codes "Kind"
kind_name kind.Machine = codes "Machine"
kind_name kind.Compressed = codes "Compressed"
kind_name kind.HeaderTable = codes "HeaderTable"
kind_name kind.Interpreter = codes "Interpreter"
kind_name kind.NoLoad = codes "NoLoad"
kind_name kind.ManyLoads = codes "ManyLoads"
kind_name kind.FileRange = codes "FileRange"
kind_name kind.SizeOrder = codes "SizeOrder"
kind_name kind.AddressRange = codes "AddressRange"
kind_name kind.Overlap = codes "Overlap"
kind_name kind.NoMemory = codes "NoMemory"

-- the name of what is wrong with a row of a trace
abbrev pub trace_kind_name : TraceKind → List ℕ
trace_kind_name row.Long = codes "Long"
trace_kind_name row.Word = codes "Word"
trace_kind_name row.Fields = codes "Fields"
trace_kind_name row.Number = codes "Number"
trace_kind_name row.Width = codes "Width"
trace_kind_name row.Value = codes "Value"
trace_kind_name row.Align = codes "Align"
trace_kind_name row.Range = codes "Range"

-- the name of a setting, as its option has it
abbrev pub setting_name : SettingName → List ℕ
setting_name setting.Command = codes "command"
setting_name setting.Base = codes "base"
setting_name setting.Pages = codes "pages"
setting_name setting.Frames = codes "frames"
setting_name setting.Codec = codes "codec"
setting_name setting.L1Sets = codes "l1-sets"
setting_name setting.L1Ways = codes "l1-ways"
setting_name setting.L2Sets = codes "l2-sets"
setting_name setting.L2Ways = codes "l2-ways"
setting_name setting.Meta = codes "meta"
setting_name setting.Budget = codes "budget"
setting_name setting.Beats = codes "beats"
setting_name setting.Number = codes "number"

-- a program header's number, or that there is none
abbrev pub header_text : Option ℕ → List ℕ
header_text None = codes "-"
header_text (Some number) = decimal number

-- a count behind a space
abbrev pub count_text : ℕ → List ℕ
count_text count = codes " " ++ decimal count

abbrev pub counts_text : List ℕ → List ℕ
counts_text counts = flat_map count_text counts

-- what is told of an end; of a note that failed nothing can be told
abbrev pub end_text : End → List ℕ
end_text Done = codes "done"
end_text (Exit status) = codes "exit " ++ decimal status
end_text Usage = codes "usage: hiersim COMMAND FILE [options]"
end_text (Setting name) = codes "bad setting " ++ setting_name name
end_text FileFault = codes "file failed"
end_text TooLong = codes "file too long"
end_text (BadImage fault) = codes "bad image " ++ kind_name fault.kind ++ codes " " ++ header_text fault.header
end_text (BadTrace fault) = codes "bad trace " ++ decimal fault.line ++ codes " " ++ trace_kind_name fault.kind
end_text (Trap trap) = codes "trap " ++ decimal trap.cause ++ codes " " ++ address trap.pc ++ codes " " ++ address trap.value
end_text Budget = codes "budget"
end_text (Space at order free) = codes "space " ++ address at ++ codes " " ++ decimal order ++ codes " free" ++ counts_text free
end_text (NoRoom at order) = codes "noroom " ++ address at ++ codes " " ++ decimal order
end_text InFault = codes "input failed"
end_text OutFault = codes "output failed"
end_text NoteFault = []
end_text NoMemory = codes "no memory"

-- the line feed that each line ends with
abbrev pub line_feed : List ℕ
line_feed = 10 ∷ []

abbrev pub end_line : End → List ℕ
end_line end = codes "end " ++ end_text end ++ line_feed

abbrev pub retired_line : ℕ → List ℕ
retired_line count = codes "retired " ++ decimal count ++ line_feed

-- the whole note; its second line stands only where a number is given
abbrev pub note_text : End → Option ℕ → List ℕ
note_text end None = end_line end
note_text end (Some count) = end_line end ++ retired_line count
