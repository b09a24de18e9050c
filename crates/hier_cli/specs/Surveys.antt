-- What is printed of a file's pages, and of a generated file.
use Rattle.std.specs.Prelude.{◌≡◌, ◌⊎◌, ℕ, List, map}
use Rattle.hier_types.specs.declared.settings.Settings.{Settings}
use Rattle.page_plan.specs.Sizes.{sizes_of_memory}
use Rattle.rv_asm.specs.Demo.{demo_instructions}
use Rattle.rv_asm.specs.ElfFile.{elf_file}
use Rattle.rv_asm.specs.Encoding.{word_of}
use Rattle.sim_survey.specs.Filled.{lines_of_filled}
use Rattle.hier_types.specs.Streams.{IsUntouched, Stream, Streams}
use Rattle.run_report.specs.declared.end.End.TheVariants.{Done, NoMemory}
use Rattle.run_report.specs.ReportLines.{survey_text}
use Rattle.hier_cli.specs.declared.notice.Notice.{Notice}
use Rattle.hier_cli.specs.declared.notice.Notice.TheVariants.{Ended, Retired, Reported}
use Rattle.hier_cli.specs.Notices.{IsPrinted}

-- the text goes to the output, where there was memory to make it
abbrev pub PrintedOrNoMemory : List ℕ → Stream → Notice → Type 0
PrintedOrNoMemory text out (Ended end) = ((end ≡ NoMemory) × IsUntouched out) ⊎ IsPrinted text out Done end
PrintedOrNoMemory text out (Retired end retired) = ⊥
PrintedOrNoMemory text out (Reported report) = ⊥

-- and the input is not read
abbrev pub PrintsAlone : List ℕ → Streams → Notice → Type 0
PrintsAlone text streams notice = IsUntouched streams.input × PrintedOrNoMemory text streams.output notice

-- the totals of the file's pages at their plans, the last one filled with zeros
abbrev pub EndsSurvey : Settings → Streams → List ℕ → Notice → Type 0
EndsSurvey settings streams file notice = PrintsAlone (survey_text (sizes_of_memory settings.codec (lines_of_filled file))) streams notice

-- the file of the program that a number makes
abbrev pub demo_file : ℕ → List ℕ
demo_file number = elf_file (map word_of (demo_instructions number))
