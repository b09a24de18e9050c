-- The request that the values of a command line make.
use Rattle.std.specs.Prelude.{◌≡◌, ◌≢◌, ⊤, ◌-◌, ℕ, Bool, List, [], ◌∷◌, Option, Some, None, Result, Ok, Err, codes, min, option_map, unwrap_or, if◌then◌else◌, string_bytes}
use Rattle.std.specs.List.{list_any}
use Rattle.std.specs.Str.{bytes_eq}
use Rattle.clap.specs.Words.{Text, fault_of, first_of, matches_of}
use Rattle.hier_types.specs.Span.{Span}
use Rattle.hier_types.specs.declared.settings.SettingName.{SettingName}
use Rattle.hier_types.specs.declared.settings.SettingName.TheVariants as setting
use Rattle.hier_types.specs.declared.settings.Settings.{Settings}
use Rattle.sim_words.specs.CommandLine.{command_line}
use Rattle.sim_words.specs.Values.{beats_of, codec_of, number_within, power_within}
use Rattle.sim_words.specs.declared.request.Command.{Command}
use Rattle.sim_words.specs.declared.request.Command.TheVariants.{Run, Image, Layout, Flat, Trace, Survey, Gen, Demo}
use Rattle.sim_words.specs.declared.request.Request.{Request}
use Rattle.sim_words.specs.declared.request.WordsFault.{WordsFault}
use Rattle.sim_words.specs.declared.request.WordsFault.TheVariants.{Usage, Setting, NoMemory}

-- what the words give to each name
abbrev pub Named : Type 0
Named = Text → Option Text

abbrev pub given_or : Named → Text → Text → Text
given_or named name default = unwrap_or (named name) default

-- the value of this setting breaks its rule where there is none, and else it serves what comes next
abbrev pub ask : {A B : Type 0} → SettingName → Option A → (A → Result B SettingName) → Result B SettingName
ask name None next = Err name
ask name (Some value) next = next value

abbrev pub then_ask : {A B : Type 0} → Result A SettingName → (A → Result B SettingName) → Result B SettingName
then_ask (Err name) next = Err name
then_ask (Ok value) next = next value

-- the pages end below 2 ^ 32 - 4096
abbrev pub span_asked : Named → Result Span SettingName
span_asked named =
    ask setting.Base (number_within 0 1048574 (given_or named (codes "base") (codes "16"))) (λ base.
    ask setting.Pages (number_within 1 (min 65536 (1048575 - base)) (given_or named (codes "pages") (codes "4096"))) (λ pages.
    Ok (record { base = base; pages = pages })))

-- the sets and the ways of each cache level
abbrev pub first_level_asked : Named → Result (ℕ × ℕ) SettingName
first_level_asked named =
    ask setting.L1Sets (power_within 1024 (given_or named (codes "l1-sets") (codes "64"))) (λ sets.
    ask setting.L1Ways (number_within 1 16 (given_or named (codes "l1-ways") (codes "8"))) (λ ways.
    Ok (sets, ways)))

abbrev pub second_level_asked : Named → Result (ℕ × ℕ) SettingName
second_level_asked named =
    ask setting.L2Sets (power_within 4096 (given_or named (codes "l2-sets") (codes "512"))) (λ sets.
    ask setting.L2Ways (number_within 1 16 (given_or named (codes "l2-ways") (codes "8"))) (λ ways.
    Ok (sets, ways)))

abbrev pub settings_asked : Named → Result Settings SettingName
settings_asked named =
    then_ask (span_asked named) (λ geometry.
    ask setting.Frames (number_within 1 65536 (given_or named (codes "frames") (codes "4096"))) (λ frames.
    ask setting.Codec (codec_of (given_or named (codes "codec") (codes "bdi"))) (λ codec.
    then_ask (first_level_asked named) (λ l1.
    then_ask (second_level_asked named) (λ l2.
    ask setting.Meta (number_within 1 1024 (given_or named (codes "meta") (codes "64"))) (λ meta.
    ask setting.Budget (number_within 0 1000000000000000 (given_or named (codes "budget") (codes "1000000000000"))) (λ budget.
    ask setting.Beats (beats_of (given_or named (codes "beats") (codes "hhhhhhhmhhhhhhhc"))) (λ beats.
    Ok (record {
      geometry = geometry;
      frames = frames;
      codec = codec;
      l1_sets = l1.0;
      l1_ways = l1.1;
      l2_sets = l2.0;
      l2_ways = l2.1;
      meta = meta;
      budget = budget;
      beats = beats;
      json = bytes_eq (given_or named (codes "json") (codes "false")) (codes "true");
    })))))))))

-- the words of the command table
abbrev pub commands : List Text
commands = codes "run" ∷ codes "image" ∷ codes "layout" ∷ codes "flat" ∷ codes "trace" ∷ codes "survey" ∷ codes "gen" ∷ codes "demo" ∷ []

abbrev pub is_command : Text → Bool
is_command word = list_any (bytes_eq word) commands

-- the number of the file that `gen` and `demo` make
abbrev pub number_asked : Text → Option ℕ
number_asked = number_within 0 4294967295

-- the command of such a word; none where its number breaks the rule
abbrev pub command_asked : Text → Text → Option Command
command_asked word file =
    if bytes_eq word (codes "run") then Some Run
    else if bytes_eq word (codes "image") then Some Image
    else if bytes_eq word (codes "layout") then Some Layout
    else if bytes_eq word (codes "flat") then Some Flat
    else if bytes_eq word (codes "trace") then Some Trace
    else if bytes_eq word (codes "survey") then Some Survey
    else if bytes_eq word (codes "gen") then option_map Gen (number_asked file)
    else option_map Demo (number_asked file)

-- a request, with the file's name as text
pub record Asked : Type 0 where
  pub command : Command
  pub file : Text
  pub settings : Settings

-- the request, or the first setting whose value breaks its rule
abbrev pub asked : Named → Result Asked SettingName
asked named =
    let word = given_or named (codes "command") [] in
    let file = given_or named (codes "file") [] in
    ask setting.Command (if is_command word then Some word else None) (λ known.
    then_ask (settings_asked named) (λ settings.
    ask setting.Number (command_asked known file) (λ command.
    Ok (record { command = command; file = file; settings = settings }))))

-- the answer is this one, or there was no memory for it
abbrev pub Answers : Result Asked SettingName → Result Request WordsFault → Type 0
Answers wanted (Ok request) =
    wanted ≡ Ok (record { command = request.command; file = string_bytes request.file; settings = request.settings })
Answers wanted (Err (Setting name)) = wanted ≡ Err name
Answers wanted (Err NoMemory) = ⊤
Answers wanted (Err Usage) = ⊥

-- the same by the matches that `clap` states for the words, or a fault of the words that it states
abbrev pub AnswersAsMatched : List Text → Result Request WordsFault → Type 0
AnswersAsMatched words (Err Usage) = fault_of command_line words ≢ []
AnswersAsMatched words answer = Answers (asked (λ name. first_of name (matches_of command_line words))) answer
