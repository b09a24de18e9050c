-- The plain spelling of a command line.
use Rattle.std.specs.Prelude.{◌≡◌, ◌≢◌, ⊤, List, [], ◌∷◌, ◌++◌, find, codes, Option, option_map, Bool, true, false}
use Rattle.std.specs.List.{flat_map, list_any}
use Rattle.std.specs.Str.{bytes_eq}
use Rattle.clap.specs.Words.{Text}
use Rattle.sim_words.specs.CommandLine.{option_names}

-- an option with its value, or the flag
pub data Given : Type 0 where
  valued : Text → Text → Given
  json : Given

abbrev pub name_of : Given → Text
name_of (valued name value) = name
name_of json = codes "json"

abbrev pub value_of : Given → Text
value_of (valued name value) = value
value_of json = codes "true"

abbrev pub words_of : Given → List Text
words_of (valued name value) = (codes "--" ++ name) ∷ value ∷ []
words_of json = codes "--json" ∷ []

-- not empty, and with no hyphen (45) in front
abbrev pub IsPlainWord : Text → Type 0
IsPlainWord [] = ⊥
IsPlainWord (first ∷ rest) = first ≢ 45

abbrev pub IsPlainOption : Given → Type 0
IsPlainOption (valued name value) = (list_any (bytes_eq name) option_names ≡ true) × IsPlainWord value
IsPlainOption json = ⊤

abbrev pub is_given : Text → List Given → Bool
is_given name = list_any (λ given. bytes_eq name (name_of given))

-- no option is given twice
abbrev pub ArePlainOptions : List Given → Type 0
ArePlainOptions [] = ⊤
ArePlainOptions (given ∷ rest) = IsPlainOption given × (is_given (name_of given) rest ≡ false) × ArePlainOptions rest

-- a command, a file, and then options, each with its value in a word of its own
pub record IsPlainSpelling (command file : Text) (options : List Given) (words : List Text) : Type 0 where
  pub command_word : IsPlainWord command
  pub file_word : IsPlainWord file
  pub plain_options : ArePlainOptions options
  pub spelled : words ≡ command ∷ file ∷ flat_map words_of options

-- the value that such words give to a name; the flag is off where it is not given
abbrev pub plain_value : Text → Text → List Given → Text → Option Text
plain_value command file options name = option_map value_of
    (find (λ given. bytes_eq (name_of given) name)
    (valued (codes "command") command ∷ valued (codes "file") file ∷ options ++ valued (codes "json") (codes "false") ∷ []))
