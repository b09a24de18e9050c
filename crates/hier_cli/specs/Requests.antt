-- What the program does on each request of its words.
use Rattle.std.specs.Prelude.{◌≡◌, ℕ, List, Result, Ok, Err, string_bytes}
use Rattle.sim_words.specs.Requests.{Answers, AnswersAsMatched, asked}
use Rattle.sim_words.specs.Spelling.{Given, IsPlainSpelling, plain_value}
use Rattle.sim_words.specs.declared.request.Command.{Command}
use Rattle.sim_words.specs.declared.request.Command.TheVariants.{Run, Image, Layout, Flat, Trace, Survey, Gen, Demo}
use Rattle.sim_words.specs.declared.request.Request.{Request}
use Rattle.sim_words.specs.declared.request.WordsFault.{WordsFault}
use Rattle.sim_words.specs.declared.request.WordsFault.TheVariants as fault
use Rattle.hier_types.specs.Settings.{default_settings}
use Rattle.hier_types.specs.declared.settings.Settings.{Settings}
use Rattle.hier_types.specs.Streams.{AreUntouched}
use Rattle.run_report.specs.declared.end.End.{End}
use Rattle.run_report.specs.declared.end.End.TheVariants.{Usage, Setting, NoMemory}
use Rattle.hier_cli.specs.declared.notice.Notice.{Notice}
use Rattle.hier_cli.specs.declared.notice.Notice.TheVariants.{Ended}
use Rattle.hier_cli.specs.Files.{OnFile, Outside}
use Rattle.hier_cli.specs.FlatRuns.{EndsFlat}
use Rattle.hier_cli.specs.Images.{EndsImage}
use Rattle.hier_cli.specs.Layouts.{EndsLayout}
use Rattle.hier_cli.specs.ProgramRuns.{EndsRun}
use Rattle.hier_cli.specs.Surveys.{EndsSurvey, PrintsAlone, demo_file}
use Rattle.hier_cli.specs.Traces.{EndsTraceFile}

-- the words ask for this: by the matches that are stated for them, and where their spelling is plain, as they say
pub record AskFor (words : List (List ℕ)) (answer : Result Request WordsFault) : Type 0 where
  pub matched : AnswersAsMatched words answer
  pub plain : (command file : List ℕ) (options : List Given) → IsPlainSpelling command file options words → Answers (asked (plain_value command file options)) answer

-- what a command does
abbrev pub Obeys : Command → List ℕ → Settings → Outside → Notice → Type 0
Obeys Run file settings out notice = OnFile out file (EndsRun settings out.streams) notice
Obeys Image file settings out notice = OnFile out file (EndsImage settings out.streams) notice
Obeys Layout file settings out notice = OnFile out file (EndsLayout settings out.streams) notice
Obeys Flat file settings out notice = OnFile out file (EndsFlat settings out.streams) notice
Obeys Survey file settings out notice = OnFile out file (EndsSurvey settings out.streams) notice
Obeys (Gen number) file settings out notice = PrintsAlone (demo_file number) out.streams notice
Obeys (Demo number) file settings out notice = EndsRun settings out.streams (demo_file number) notice
Obeys Trace file settings out notice = OnFile out file (EndsTraceFile settings out.streams) notice

-- the end of words that make no request
abbrev pub end_of_words : WordsFault → End
end_of_words fault.Usage = Usage
end_of_words (fault.Setting name) = Setting name
end_of_words fault.NoMemory = NoMemory

-- what the words ask for is done, or nothing is
abbrev pub Answered : Result Request WordsFault → Outside → Notice → Type 0
Answered (Ok request) out notice = Obeys request.command (string_bytes request.file) request.settings out notice
Answered (Err fault) out notice = (notice ≡ Ended (end_of_words fault)) × AreUntouched out.streams

-- the notice of a request that was obeyed, or of an end before that
abbrev pub notice_of : Result Notice End → Notice
notice_of (Ok notice) = notice
notice_of (Err end) = Ended end

-- the settings that the note is written under
abbrev pub settings_of : Result Request WordsFault → Settings
settings_of (Ok request) = request.settings
settings_of (Err fault) = default_settings
