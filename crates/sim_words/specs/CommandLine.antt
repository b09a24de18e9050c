-- The command line, as `clap` reads it.
use Rattle.std.specs.Prelude.{List, [], ◌∷◌, ◌++◌, map, Some, codes, true}
use Rattle.clap.specs.Words.{App, Rule, Text, new_rule}
use Rattle.clap.specs.Simple.{new_shape}
use Rattle.clap.specs.declared.builder.action.ArgAction.TheVariants.{SetTrue}

-- a word that has to be given, by its place
abbrev pub place_rule : Text → Rule
place_rule name = record (new_rule name) { required = true }

-- an option that takes a value
abbrev pub option_rule : Text → Rule
option_rule name = record (new_rule name) { long = Some name }

-- the flag that asks for a report in JSON
abbrev pub json_rule : Rule
json_rule = record (new_rule (codes "json")) { long = Some (codes "json"); action = Some SetTrue }

-- the options that take a value
abbrev pub option_names : List Text
option_names = codes "base" ∷ codes "pages" ∷ codes "frames" ∷ codes "codec"
    ∷ codes "l1-sets" ∷ codes "l1-ways" ∷ codes "l2-sets" ∷ codes "l2-ways"
    ∷ codes "meta" ∷ codes "budget" ∷ codes "beats" ∷ []

-- the words are those after the program's name, and none asks for help or a version
abbrev pub command_line : App
command_line = record {
  top = record (new_shape (codes "hiersim")) {
    rules = place_rule (codes "command") ∷ place_rule (codes "file") ∷ map option_rule option_names ++ json_rule ∷ [];
    no_binary_name = true;
    disable_help_flag = true;
    disable_version_flag = true;
  };
  subs = [];
}
