-- What `clap` makes of words of the plain spelling.
use Rattle.std.proofs.Common.{◌≡◌, ◌∙◌, ◌&&◌, ◌||◌, ◌++◌, Bool, true, false, cond, refl, sym, subst, ap, ap₂, List, [], ◌∷◌, bytes_eq, Option, Some, None, codes, map, append-nil, true≢false, find, option_map, option_and_then, slice_get, is_some, take}
use Rattle.std.specs.List.{AllByRecursion, flat_map, fold, list_all, list_any}
use Rattle.std.proofs.lemmas.List.Sums.{fold-append}
use Rattle.clap.proofs.WalkLemmas.{list_any-map}
use Rattle.clap.specs.Walk.{Row, Rule, Text, Walk, first_of, finished, at_row, has_row, idle, more_values, nothing_held, walk, walk_from, walked, with_default}
use Rattle.clap.specs.Takes.{default_passes, entered_passes, settle_passes, takes, turn_passes, walk_passes, is_valid}
use Rattle.clap.specs.Simple.{Shape, built, entered, filled, is_simple, matches_of}
use Rattle.clap.specs.declared.parser.matches.ValueSource.TheVariants.{DefaultValue}
use Rattle.sim_words.specs.CommandLine.{command_line, json_rule, option_names}
use Rattle.sim_words.specs.Spelling.{ArePlainOptions, Given, IsPlainSpelling, IsPlainWord, json, name_of, plain_value, valued, value_of, words_of}
use Rattle.sim_words.proofs.TextLemmas.{among, is_same}
use Rattle.sim_words.proofs.PlainWalk.{AllNew, HasFlag, HasOption, Walks, at, at_no_row, given_walks, plain_long, plain_longer, plain_short, row_given}

abbrev line : Shape
line = (built command_line).top

pub simple : is_simple command_line ≡ true
simple = refl

options_known : (name : Text) → list_any (bytes_eq name) option_names ≡ true → HasOption line.rules name
options_known = among (HasOption line.rules) option_names (record { long_word = refl; longer = refl; by_long = refl; by_id = refl }, (record { long_word = refl; longer = refl; by_long = refl; by_id = refl }, (record { long_word = refl; longer = refl; by_long = refl; by_id = refl }, (record { long_word = refl; longer = refl; by_long = refl; by_id = refl }, (record { long_word = refl; longer = refl; by_long = refl; by_id = refl }, (record { long_word = refl; longer = refl; by_long = refl; by_id = refl }, (record { long_word = refl; longer = refl; by_long = refl; by_id = refl }, (record { long_word = refl; longer = refl; by_long = refl; by_id = refl }, (record { long_word = refl; longer = refl; by_long = refl; by_id = refl }, (record { long_word = refl; longer = refl; by_long = refl; by_id = refl }, (record { long_word = refl; longer = refl; by_long = refl; by_id = refl }, tt)))))))))))

flag_known : HasFlag line
flag_known = record { by_long = refl }

-- the walk after the first word
abbrev begun : Text → Walk
begun command = record { held = record { rows = []; pending = Some (codes "command", command ∷ []); skip = 0 }; waiting = idle; position = 2; is_trailing = false; stopped = None }

first_walks : (command : Text) → IsPlainWord command → walked line.rules [] (walk_from nothing_held) command ≡ begun command
unfolding walked
first_walks command plain = rw (plain_longer command plain, plain_long command plain, plain_short command plain) refl

second_walks : (command file : Text) → IsPlainWord file → walked line.rules [] (begun command) file ≡ at (row_given (valued (codes "command") command) ∷ []) (Some (codes "file", file ∷ []))
unfolding walked
second_walks command file plain = rw (plain_longer file plain, plain_long file plain, plain_short file plain) refl

first_turn : (command : Text) → IsPlainWord command → turn_passes line [] (walk_from nothing_held) command ≡ true
first_turn command plain = rw (plain_longer command plain, plain_long command plain, plain_short command plain) refl

second_turn : (command file : Text) → IsPlainWord file → turn_passes line [] (begun command) file ≡ true
second_turn command file plain = rw (plain_longer file plain, plain_long file plain, plain_short file plain) refl

-- ---- the rows at the end

abbrev json_off : Row
json_off = record (row_given (valued (codes "json") (codes "false"))) { source = Some DefaultValue }

same_either : {X : Type 0} (b : Bool) (x : X) → cond b x x ≡ x
same_either true x = refl
same_either false x = refl

-- rules without a default add no row
no_defaults : (rules : List Rule) (rows : List Row) → AllByRecursion (λ a. a.defaults ≡ []) rules → fold with_default rows rules ≡ rows
no_defaults [] rows none = refl
no_defaults (a ∷ rest) rows none =
    let kept : with_default rows a ≡ rows = rw none.0 (same_either (has_row a.id rows) rows) in
    ap (λ (rs : List Row). fold with_default rs rest) kept ∙ no_defaults rest rows none.1

abbrev rules_before : List Rule
rules_before = take 13 line.rules

before_flag : line.rules ≡ rules_before ++ filled json_rule ∷ []
before_flag = refl

-- only the flag has a default
defaulted : (rows : List Row) → fold with_default rows line.rules ≡ with_default rows (filled json_rule)
defaulted rows = fold-append with_default rows rules_before (filled json_rule ∷ [])
    ∙ ap (λ (rs : List Row). with_default rs (filled json_rule)) (no_defaults rules_before rows (refl, (refl, (refl, (refl, (refl, (refl, (refl, (refl, (refl, (refl, (refl, (refl, (refl, tt))))))))))))))

abbrev all_given : Text → Text → List Given → List Given
all_given command file options = valued (codes "command") command ∷ valued (codes "file") file ∷ options

-- the first two rows stay in front
starts : (command file : Text) (rows : List Row) (has_subcommand : Bool)
    → is_valid line (with_default (row_given (valued (codes "command") command) ∷ row_given (valued (codes "file") file) ∷ rows) (filled json_rule)) false ≡ true
starts command file rows has_subcommand = go (has_row (codes "json") rows)
  where
    go : (b : Bool) → is_valid line (cond b (row_given (valued (codes "command") command) ∷ row_given (valued (codes "file") file) ∷ rows)
        (row_given (valued (codes "command") command) ∷ row_given (valued (codes "file") file) ∷ at_row (codes "json") (more_values DefaultValue (codes "false" ∷ [])) (json_off ∷ []) rows)) false ≡ true
    go true = refl
    go false = refl

-- no option has the name of the command or of the file
apart : (name : Text) → list_any (bytes_eq name) option_names ≡ true → (bytes_eq (codes "command") name ≡ false) × (bytes_eq (codes "file") name ≡ false)
apart = among (λ name. (bytes_eq (codes "command") name ≡ false) × (bytes_eq (codes "file") name ≡ false)) option_names ((refl, refl), ((refl, refl), ((refl, refl), ((refl, refl), ((refl, refl), ((refl, refl), ((refl, refl), ((refl, refl), ((refl, refl), ((refl, refl), ((refl, refl), tt)))))))))))

all_new : (command file : Text) (options : List Given) → ArePlainOptions options
    → AllNew line (row_given (valued (codes "command") command) ∷ row_given (valued (codes "file") file) ∷ []) options
all_new command file [] plain = tt
all_new command file (valued name value ∷ rest) plain =
    let parts = apart name plain.0.0 in
    (rw (parts.0, parts.1) refl, all_new command file rest plain.2)
all_new command file (json ∷ rest) plain = (refl, all_new command file rest plain.2)

-- ---- what the rows give to a name

abbrev gives : Text → Given → Bool
gives name given = bytes_eq (name_of given) name

given_in : (name : Text) (given : List Given) (last : List Row) (more : List Given) → first_of name last ≡ option_map value_of (find (gives name) more)
    → first_of name (map row_given given ++ last) ≡ option_map value_of (find (gives name) (given ++ more))
given_in name [] last more ends = ends
given_in name (given ∷ rest) last more ends = go (gives name given) (given_in name rest last more ends)
  where
    go : (b : Bool) → first_of name (map row_given rest ++ last) ≡ option_map value_of (find (gives name) (rest ++ more))
        → option_and_then (λ (r : Row). slice_get r.values 0) (cond b (Some (row_given given)) (find (λ r. bytes_eq r.id name) (map row_given rest ++ last)))
        ≡ option_map value_of (cond b (Some given) (find (gives name) (rest ++ more)))
    go true next = refl
    go false next = next

off_gives : (name : Text) → first_of name (json_off ∷ []) ≡ option_map value_of (find (gives name) (valued (codes "json") (codes "false") ∷ []))
off_gives name = go (bytes_eq (codes "json") name)
  where
    go : (b : Bool) → option_and_then (λ (r : Row). slice_get r.values 0) (cond b (Some json_off) None)
        ≡ option_map value_of (cond b (Some (valued (codes "json") (codes "false"))) None)
    go true = refl
    go false = refl

-- what is found stays where more comes behind it
found_before : (p : Given → Bool) (given more : List Given) → list_any p given ≡ true → find p (given ++ more) ≡ find p given
found_before p [] more any = absurd (true≢false (sym any))
found_before p (first ∷ rest) more any = go (p first) any (found_before p rest more)
  where
    go : (b : Bool) → (b || list_any p rest) ≡ true → (list_any p rest ≡ true → find p (rest ++ more) ≡ find p rest)
        → cond b (Some first) (find p (rest ++ more)) ≡ cond b (Some first) (find p rest)
    go true any next = refl
    go false any next = next any

not_behind : (p : Given → Bool) (given more : List Given) → find p more ≡ None → find p (given ++ more) ≡ find p given
not_behind p [] more none = none
not_behind p (first ∷ rest) more none = ap (λ (o : Option Given). cond (p first) (Some first) o) (not_behind p rest more none)

json_row : (given : List Given) → has_row (codes "json") (map row_given given) ≡ list_any (gives (codes "json")) given
json_row given = sym (list_any-map (λ (r : Row). bytes_eq r.id (codes "json")) row_given given)

-- the flag's default behind a flag that is given changes nothing
off_hidden : (given : List Given) (name : Text) → list_any (gives (codes "json")) given ≡ true
    → find (gives name) (given ++ valued (codes "json") (codes "false") ∷ []) ≡ find (gives name) given
off_hidden given name any = go (bytes_eq (codes "json") name) refl
  where
    go : (b : Bool) → bytes_eq (codes "json") name ≡ b → find (gives name) (given ++ valued (codes "json") (codes "false") ∷ []) ≡ find (gives name) given
    go true hit = found_before (gives name) given _ (subst (λ (n : Text). list_any (gives n) given ≡ true) (is_same (codes "json") name hit) any)
    go false miss = not_behind (gives name) given (valued (codes "json") (codes "false") ∷ []) (rw miss refl)

ends_with : (given : List Given) (name : Text) → first_of name (with_default (map row_given given) (filled json_rule))
    ≡ option_map value_of (find (gives name) (given ++ valued (codes "json") (codes "false") ∷ []))
ends_with given name = go (has_row (codes "json") (map row_given given)) refl
  where
    go : (b : Bool) → has_row (codes "json") (map row_given given) ≡ b → first_of name (with_default (map row_given given) (filled json_rule))
        ≡ option_map value_of (find (gives name) (given ++ valued (codes "json") (codes "false") ∷ []))
    go true has = rw has (ap (first_of name) (sym (append-nil (map row_given given))) ∙ given_in name given [] [] refl
        ∙ ap (λ (xs : List Given). option_map value_of (find (gives name) xs)) (append-nil given)
        ∙ ap (option_map value_of) (sym (off_hidden given name (sym (json_row given) ∙ has))))
    go false none = rw none (ap (first_of name) (at_no_row (codes "json") (more_values DefaultValue (codes "false" ∷ [])) (json_off ∷ []) (map row_given given) none)
        ∙ given_in name given (json_off ∷ []) (valued (codes "json") (codes "false") ∷ []) (off_gives name))

-- ---- the whole

module _ (command file : Text) (options : List Given) (words : List Text) (is : IsPlainSpelling command file options words) where
  abbrev first_rows : List Row
  first_rows = row_given (valued (codes "command") command) ∷ []

  abbrev file_held : Option (Text × List Text)
  file_held = Some (codes "file", file ∷ [])

  options_walk : Walks line first_rows file_held options
  options_walk = given_walks line flag_known options_known options is.plain_options first_rows file_held refl (all_new command file options is.plain_options)

  walk_ends : walk line.rules [] nothing_held words ≡ at options_walk.rows_after options_walk.pending_after
  walk_ends = ap (walk line.rules [] nothing_held) is.spelled
      ∙ ap (λ (w : Walk). fold (walked line.rules []) (walked line.rules [] w file) (flat_map words_of options)) (first_walks command is.command_word)
      ∙ ap (λ (w : Walk). fold (walked line.rules []) w (flat_map words_of options)) (second_walks command file is.file_word)
      ∙ options_walk.walks

  words_pass : walk_passes line [] (walk_from nothing_held) words ≡ true
  unfolding walk_passes
  words_pass = ap (walk_passes line [] (walk_from nothing_held)) is.spelled
      ∙ ap₂ (λ (b : Bool) (w : Walk). b && (turn_passes line [] w file && walk_passes line [] (walked line.rules [] w file) (flat_map words_of options)))
      (first_turn command is.command_word) (first_walks command is.command_word)
      ∙ ap₂ (λ (b : Bool) (w : Walk). b && walk_passes line [] w (flat_map words_of options))
      (second_turn command file is.file_word) (second_walks command file is.file_word)
      ∙ options_walk.words_pass

  rows_end : finished line.rules (walk line.rules [] nothing_held words).held ≡ with_default (map row_given (all_given command file options)) (filled json_rule)
  rows_end = ap (λ (w : Walk). finished line.rules w.held) walk_ends
      ∙ ap (λ (rows : List Row). fold with_default rows line.rules) options_walk.settles
      ∙ defaulted (map row_given (all_given command file options))

  pub plain_is_taken : takes command_line words ≡ true
  plain_is_taken =
      ap₂ (λ (b : Bool) (w : Walk). entered_passes (built command_line) w.stopped && (b && (settle_passes line.rules line.args_override_self w.held
      && (list_all default_passes line.rules && is_valid line (finished line.rules w.held) (is_some (entered (built command_line) w.stopped)))))) words_pass walk_ends
      ∙ ap₂ (λ (b : Bool) (rows : List Row). b && (list_all default_passes line.rules && is_valid line rows false)) options_walk.fits
      (ap (λ (rows : List Row). fold with_default rows line.rules) options_walk.settles ∙ defaulted (map row_given (all_given command file options)))
      ∙ starts command file (map row_given options) false

  pub plain_matches : (name : Text) → first_of name (matches_of command_line words) ≡ plain_value command file options name
  plain_matches name = ap (first_of name) rows_end ∙ ends_with (all_given command file options) name
