-- What a walk over the options of a plain spelling gives.
use Rattle.std.proofs.Common.{◌≡◌, ◌∙◌, ◌&&◌, ◌++◌, Bool, true, false, refl, sym, subst, ap, ap₂, List, [], ◌∷◌, bytes_eq, Option, Some, None, codes, map, append_assoc, append-nil, ne_eqb}
use Rattle.std.specs.Bool.{⊤}
use Rattle.std.specs.List.{flat_map, fold, list_any}
use Rattle.std.proofs.lemmas.List.Folds.{list_any-append}
use Rattle.clap.specs.Lexer.{long_of, short_of}
use Rattle.clap.specs.Walk.{Held, Row, Rule, Text, Walk, arg_by_id, arg_by_long, at_row, has_row, idle, more_values, option, settled_rows, walked, without}
use Rattle.clap.specs.Takes.{settle_passes, turn_passes, walk_passes}
use Rattle.clap.specs.Simple.{Shape, filled}
use Rattle.clap.specs.declared.parser.matches.ValueSource.TheVariants.{CommandLine}
use Rattle.clap.specs.declared.builder.value_parser.Reading.TheVariants as reading
use Rattle.sim_words.specs.CommandLine.{json_rule, option_names, option_rule}
use Rattle.sim_words.specs.Spelling.{ArePlainOptions, Given, IsPlainWord, is_given, json, name_of, valued, value_of, words_of}
use Rattle.sim_words.proofs.TextLemmas.{neither, same}

abbrev pub held_at : List Row → Option (Text × List Text) → Held
held_at rows pending = record { rows = rows; pending = pending; skip = 0 }

-- where a walk stands between two options
abbrev pub at : List Row → Option (Text × List Text) → Walk
at rows pending = record { held = held_at rows pending; waiting = idle; position = 3; is_trailing = false; stopped = None }

-- what the matches have of an option
abbrev pub row_given : Given → Row
row_given given = record { id = name_of given; values = value_of given ∷ []; count = None; source = Some CommandLine; reading = reading.AsWritten }

abbrev pub dashed : Text → Text
dashed name = codes "--" ++ name

-- the rules have this option
pub record HasOption (c : List Rule) (name : Text) : Type 0 where
  pub long_word : long_of (dashed name) ≡ Some (name, None)
  pub longer : bytes_eq (dashed name) (45 ∷ 45 ∷ []) ≡ false
  pub by_long : arg_by_long c name ≡ Some (filled (option_rule name))
  pub by_id : arg_by_id c name ≡ Some (filled (option_rule name))

pub plain_longer : (word : Text) → IsPlainWord word → bytes_eq word (45 ∷ 45 ∷ []) ≡ false
plain_longer [] plain = absurd plain
plain_longer (x ∷ xs) plain = rw (ne_eqb x 45 plain) refl

pub plain_long : (word : Text) → IsPlainWord word → long_of word ≡ None
plain_long [] plain = absurd plain
plain_long (x ∷ xs) plain = rw (ne_eqb x 45 plain) refl

pub plain_short : (word : Text) → IsPlainWord word → short_of word ≡ None
plain_short [] plain = absurd plain
plain_short (x ∷ xs) plain = rw (ne_eqb x 45 plain) refl

-- the rows have no option of this name
pub at_no_row : (id : Text) (change : Row → List Row) (missing rows : List Row) → has_row id rows ≡ false → at_row id change missing rows ≡ rows ++ missing
at_no_row id change missing [] none = refl
at_no_row id change missing (r ∷ rs) none =
    let parts = neither (bytes_eq r.id id) (has_row id rs) none in
    rw parts.0 (ap (λ (more : List Row). r ∷ more) (at_no_row id change missing rs parts.1))

module _ (s : Shape) where
  abbrev passes : List Row → Option (Text × List Text) → Bool
  passes rows pending = settle_passes s.rules s.args_override_self (held_at rows pending)

  abbrev rows_now : List Row → Option (Text × List Text) → List Row
  rows_now rows pending = settled_rows s.rules pending rows

  -- where a walk stands between an option and its value
  abbrev between : List Row → Text → Walk
  between rows name = record { held = held_at rows (Some (name, [])); waiting = option name; position = 3; is_trailing = false; stopped = None }

  name_walks : (rows : List Row) (pending : Option (Text × List Text)) (name : Text) → HasOption s.rules name
      → walked s.rules [] (at rows pending) (dashed name) ≡ between (rows_now rows pending) name
  unfolding walked
  name_walks rows pending name has = rw (has.longer, has.long_word, has.by_long) refl

  value_walks : (rows : List Row) (name value : Text) → HasOption s.rules name → IsPlainWord value
      → walked s.rules [] (between rows name) value ≡ at rows (Some (name, value ∷ []))
  unfolding walked
  value_walks rows name value has plain =
      rw (plain_longer value plain, plain_long value plain, plain_short value plain, has.by_id, same name) refl

  pub option_walks : (rows : List Row) (pending : Option (Text × List Text)) (name value : Text) → HasOption s.rules name → IsPlainWord value
      → walked s.rules [] (walked s.rules [] (at rows pending) (dashed name)) value ≡ at (rows_now rows pending) (Some (name, value ∷ []))
  option_walks rows pending name value has plain =
      ap (λ (w : Walk). walked s.rules [] w value) (name_walks rows pending name has) ∙ value_walks (rows_now rows pending) name value has plain

  name_turn : (rows : List Row) (pending : Option (Text × List Text)) (name : Text) → HasOption s.rules name → passes rows pending ≡ true
      → turn_passes s [] (at rows pending) (dashed name) ≡ true
  name_turn rows pending name has passed = rw (has.longer, has.long_word, has.by_long, passed) refl

  value_turn : (rows : List Row) (name value : Text) → IsPlainWord value
      → turn_passes s [] (between rows name) value ≡ true
  value_turn rows name value plain =
      rw (plain_longer value plain, plain_long value plain, plain_short value plain) refl

  pub option_passes : (rows : List Row) (pending : Option (Text × List Text)) (name value : Text) (rest : List Text) → HasOption s.rules name → IsPlainWord value
      → passes rows pending ≡ true
      → walk_passes s [] (at rows pending) (dashed name ∷ value ∷ rest) ≡ walk_passes s [] (at (rows_now rows pending) (Some (name, value ∷ []))) rest
  unfolding walk_passes
  option_passes rows pending name value rest has plain passed =
      let now = rows_now rows pending in
      ap₂ (λ (b : Bool) (w : Walk). b && (turn_passes s [] w value && walk_passes s [] (walked s.rules [] w value) rest)) (name_turn rows pending name has passed) (name_walks rows pending name has)
      ∙ ap₂ (λ (b : Bool) (w : Walk). b && walk_passes s [] w rest) (value_turn now name value plain) (value_walks now name value has plain)

  -- the option that is pending gets its row
  pub option_settles : (rows : List Row) (name value : Text) → HasOption s.rules name → has_row name rows ≡ false
      → rows_now rows (Some (name, value ∷ [])) ≡ rows ++ row_given (valued name value) ∷ []
  option_settles rows name value has none =
      rw has.by_id (at_no_row name (more_values CommandLine (value ∷ [])) (row_given (valued name value) ∷ []) (without name rows) (rw (at_no_row name (λ _. []) [] rows none, append-nil rows) none)
      ∙ ap (λ (kept : List Row). kept ++ row_given (valued name value) ∷ []) (at_no_row name (λ _. []) [] rows none ∙ append-nil rows))

  pub option_fits : (rows : List Row) (name value : Text) → HasOption s.rules name → has_row name rows ≡ false
      → passes rows (Some (name, value ∷ [])) ≡ true
  option_fits rows name value has none = rw (has.by_id, none) refl

  -- the flag
  pub record HasFlag : Type 0 where
    pub by_long : arg_by_long s.rules (codes "json") ≡ Some (filled json_rule)

  pub flag_walks : (rows : List Row) (pending : Option (Text × List Text)) → HasFlag → has_row (codes "json") (rows_now rows pending) ≡ false
      → walked s.rules [] (at rows pending) (codes "--json") ≡ at (rows_now rows pending ++ row_given json ∷ []) None
  unfolding walked
  flag_walks rows pending has none =
      let kept : without (codes "json") (rows_now rows pending) ≡ rows_now rows pending = at_no_row (codes "json") (λ _. []) [] (rows_now rows pending) none ∙ append-nil (rows_now rows pending) in
      rw has.by_long (ap (λ (rs : List Row). at rs None) (ap (at_row (codes "json") (more_values CommandLine (codes "true" ∷ [])) (row_given json ∷ [])) kept ∙ at_no_row (codes "json") (more_values CommandLine (codes "true" ∷ [])) (row_given json ∷ []) (rows_now rows pending) none))

  pub flag_passes : (rows : List Row) (pending : Option (Text × List Text)) (rest : List Text) → HasFlag → passes rows pending ≡ true
      → has_row (codes "json") (rows_now rows pending) ≡ false
      → walk_passes s [] (at rows pending) (codes "--json" ∷ rest) ≡ walk_passes s [] (walked s.rules [] (at rows pending) (codes "--json")) rest
  unfolding walk_passes
  flag_passes rows pending rest has passed none = rw (has.by_long, passed, none) refl

  -- none of the options has a row yet
  abbrev pub AllNew : List Row → List Given → Type 0
  AllNew rows [] = ⊤
  AllNew rows (given ∷ rest) = (has_row (name_of given) rows ≡ false) × AllNew rows rest

  new_after : (rows : List Row) (given : Given) (rest : List Given) → is_given (name_of given) rest ≡ false → AllNew rows rest
      → AllNew (rows ++ row_given given ∷ []) rest
  new_after rows given [] once new = tt
  new_after rows given (next ∷ rest) once new =
      let parts = neither (bytes_eq (name_of given) (name_of next)) (is_given (name_of given) rest) once in
      let none : has_row (name_of next) (rows ++ row_given given ∷ []) ≡ false =
      list_any-append (λ (r : Row). bytes_eq r.id (name_of next)) rows (row_given given ∷ []) ∙ rw (new.0, parts.0) refl in
      (none, new_after rows given rest parts.1 new.1)

  -- the words of the options are walked over, and each option gets its row
  pub record Walks (rows : List Row) (pending : Option (Text × List Text)) (given : List Given) : Type 0 where
    pub rows_after : List Row
    pub pending_after : Option (Text × List Text)
    pub words_pass : walk_passes s [] (at rows pending) (flat_map words_of given) ≡ true
    pub walks : fold (walked s.rules []) (at rows pending) (flat_map words_of given) ≡ at rows_after pending_after
    pub fits : passes rows_after pending_after ≡ true
    pub settles : rows_now rows_after pending_after ≡ rows_now rows pending ++ map row_given given

  module _ (flag : HasFlag) (options : (name : Text) → list_any (bytes_eq name) option_names ≡ true → HasOption s.rules name) where
    pub given_walks : (given : List Given) → ArePlainOptions given → (rows : List Row) (pending : Option (Text × List Text)) → passes rows pending ≡ true
        → AllNew (rows_now rows pending) given → Walks rows pending given
    unfolding walk_passes
    given_walks [] plain rows pending passed new = record {
      rows_after = rows;
      pending_after = pending;
      words_pass = refl;
      walks = refl;
      fits = passed;
      settles = sym (append-nil (rows_now rows pending));
    }
    given_walks (valued name value ∷ rest) plain rows pending passed new =
        let has = options name plain.0.0 in
        let now = rows_now rows pending in
        let settled = option_settles now name value has new.0 in
        let more = given_walks rest plain.2 now (Some (name, value ∷ [])) (option_fits now name value has new.0)
        (subst (λ (rs : List Row). AllNew rs rest) (sym settled) (new_after now (valued name value) rest plain.1 new.1)) in
        record {
          rows_after = more.rows_after;
          pending_after = more.pending_after;
          words_pass = option_passes rows pending name value (flat_map words_of rest) has plain.0.1 passed ∙ more.words_pass;
          walks = ap (λ (w : Walk). fold (walked s.rules []) w (flat_map words_of rest)) (option_walks rows pending name value has plain.0.1) ∙ more.walks;
          fits = more.fits;
          settles = more.settles ∙ ap (λ (rs : List Row). rs ++ map row_given rest) settled ∙ append_assoc now (row_given (valued name value) ∷ []) (map row_given rest);
        }
    given_walks (json ∷ rest) plain rows pending passed new =
        let now = rows_now rows pending in
        let more = given_walks rest plain.2 (now ++ row_given json ∷ []) None refl (new_after now json rest plain.1 new.1) in
        let walks = flag_walks rows pending flag new.0 in
        record {
          rows_after = more.rows_after;
          pending_after = more.pending_after;
          words_pass = flag_passes rows pending (flat_map words_of rest) flag passed new.0
              ∙ ap (λ (w : Walk). walk_passes s [] w (flat_map words_of rest)) walks ∙ more.words_pass;
          walks = ap (λ (w : Walk). fold (walked s.rules []) w (flat_map words_of rest)) walks ∙ more.walks;
          fits = more.fits;
          settles = more.settles ∙ append_assoc now (row_given json ∷ []) (map row_given rest);
        }
