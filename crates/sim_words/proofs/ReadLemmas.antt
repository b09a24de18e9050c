-- What the matches of a parse mean for the answer.
use Rattle.std.proofs.Common.{◌≡◌, ◌≢◌, ◌∙◌, true, refl, sym, ap, subst, List, [], ◌∷◌, length, arith, Ok, Err, Result, true≢false, Option, Some, None, cond, is_ok, IfOk, string_bytes}
use Rattle.clap.specs.Words.{App, HasMatchesOf, IsAmong, Kinds, Text, fault_of, first_of, first_value, found_of, is_simple, is_simple_and_free, matches_of, takes}
use Rattle.clap.proofs.WalkLemmas.{first_value-rows}
use Rattle.clap.specs.declared.error.kind.ErrorKind.{ErrorKind}
use Rattle.clap.specs.declared.parser.matches.ArgMatches.{ArgMatches}
use Rattle.sim_words.specs.CommandLine.{command_line}
use Rattle.sim_words.specs.Requests.{Answers, AnswersAsMatched, Asked, Named, ask, asked, command_asked, is_command}
use Rattle.sim_words.specs.Spelling.{Given, IsPlainSpelling, plain_value}
use Rattle.sim_words.specs.declared.request.Request.{Request}
use Rattle.sim_words.specs.declared.request.WordsFault.{WordsFault}
use Rattle.sim_words.specs.declared.request.WordsFault.TheVariants.{Usage, Setting, NoMemory}
use Rattle.std.specs.Int.Count.{ones}
use Rattle.std.specs.Result.{result_unwrap_or}
use Rattle.hier_types.specs.Settings.{default_settings}
use Rattle.hier_types.specs.declared.settings.SettingName.{SettingName}
use Rattle.hier_types.specs.declared.settings.SettingName.TheVariants as setting
use Rattle.sim_words.specs.declared.request.Command.{Command}
use Rattle.sim_words.proofs.PlainMatches.{plain_is_taken, plain_matches, simple}

pub free : is_simple_and_free command_line ≡ true
free = refl

asked_alike : (a b : Named) → ((name : Text) → a name ≡ b name) → asked a ≡ asked b
asked_alike a b same = ap asked (λ i name. same name i)

abbrev asked_defaults : (file : Text) → Option Text → Result Asked SettingName
asked_defaults file word = ask setting.Command word (λ known. ask setting.Number (command_asked known file) (λ command. Ok (record { command = command; file = file; settings = default_settings })))

-- with no options the settings are the defaults
pub plain_defaults : (command file : Text) (answer : Result Request WordsFault) → Answers (asked (plain_value command file [])) answer
    → IfOk answer (λ request. request.settings ≡ default_settings)
unfolding ones
plain_defaults command file (Err fault) is = tt
plain_defaults command file (Ok request) is = go (cond (is_command command) (Some command) None) is
  where
    last : (kind : Option Command) → ask {A = Command} {B = Asked} setting.Number kind (λ command. Ok (record { command = command; file = file; settings = default_settings }))
        ≡ Ok (record { command = request.command; file = string_bytes request.file; settings = request.settings }) → request.settings ≡ default_settings
    last None e = absurd (true≢false (sym (ap is_ok e)))
    last (Some kind) e = sym (ap (λ (r : Result Asked SettingName). (result_unwrap_or r (record { command = kind; file = file; settings = default_settings })).settings) e)

    go : (word : Option Text) → asked_defaults file word
        ≡ Ok (record { command = request.command; file = string_bytes request.file; settings = request.settings }) → request.settings ≡ default_settings
    go None e = absurd (true≢false (sym (ap is_ok e)))
    go (Some word) e = last (command_asked word file) e

module _ (a : App) (line : a ≡ command_line) (words : List Text) where
  matched : (m : ArgMatches) → HasMatchesOf a words m → (name : Text) → first_value (found_of m) name ≡ first_of name (matches_of command_line words)
  matched m has name = first_value-rows (found_of m) name
      ∙ ap (first_of name) ((has (ap is_simple line ∙ simple)).0 ∙ ap (λ (x : App). matches_of x words) line)

  as_matched : (answer : Result Request WordsFault) → Answers (asked (λ name. first_of name (matches_of command_line words))) answer → AnswersAsMatched words answer
  as_matched (Ok request) is = is
  as_matched (Err (Setting name)) is = is
  as_matched (Err NoMemory) is = is
  as_matched (Err Usage) is = absurd is

  pub answers_as_matched : (m : ArgMatches) → HasMatchesOf a words m → (answer : Result Request WordsFault)
      → Answers (asked (first_value (found_of m))) answer → AnswersAsMatched words answer
  answers_as_matched m has answer is = as_matched answer (subst (λ (wanted : Result Asked SettingName). Answers wanted answer) (asked_alike _ _ (matched m has)) is)

  pub answers_plain : (m : ArgMatches) → HasMatchesOf a words m → (answer : Result Request WordsFault)
      → Answers (asked (first_value (found_of m))) answer
      → (command file : Text) (options : List Given) → IsPlainSpelling command file options words → Answers (asked (plain_value command file options)) answer
  answers_plain m has answer is command file options plain = subst (λ (wanted : Result Asked SettingName). Answers wanted answer)
      (asked_alike _ _ (λ name. matched m has name ∙ plain_matches command file options words plain name)) is

  pub plain_taken : (command file : Text) (options : List Given) → IsPlainSpelling command file options words → takes a words ≡ true
  plain_taken command file options plain = ap (λ (x : App). takes x words) line ∙ plain_is_taken command file options words plain

  some_fault : (k : ErrorKind) (faults : Kinds) → IsAmong k faults → faults ≢ []
  some_fault k [] among = absurd among
  some_fault k (x ∷ xs) among = λ none. let bad : length (x ∷ xs) ≡ 0 = ap length none in absurd (omega arith)

  pub fault_stated : (k : ErrorKind) → IsAmong k (fault_of a words) → AnswersAsMatched words (Err Usage)
  fault_stated k among = subst (λ (x : App). fault_of x words ≢ []) line (some_fault k (fault_of a words) among)
