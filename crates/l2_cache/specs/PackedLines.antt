-- Lines that stand as strings in the segments of a set.
use Rattle.std.specs.Prelude.{◌≡◌, ◌*◌, ℕ, List, [], Option, Some, None, length, slice_index_or}
use Rattle.hier_types.specs.Settings.{IsWithin}
use Rattle.hier_types.specs.Tabulate.{tabulate}
use Rattle.hier_types.specs.declared.settings.Codec.{Codec}
use Rattle.l2_segments.specs.Strings.{Text, Strings, string_of}
use Rattle.line_codec.specs.Slots.{size_under}
use Rattle.line_codec.specs.Payloads.{line_of, SaysLine}
use Rattle.line_codec.specs.declared.payloads.Form.{Form}
use Rattle.line_codec.specs.declared.payloads.Form.TheVariants.{Plain}

-- the form in which the string of a slot says its line
abbrev pub form_at : List Form → ℕ → Form
form_at forms slot = slice_index_or forms slot Plain

-- the line that a string says, and none where there is no string
abbrev pub line_of_string : Form → Option (List ℕ) → List ℕ
line_of_string form None = []
line_of_string form (Some payload) = line_of form payload

-- the line of each slot: its string stands under its number
abbrev pub lines_of : List Form → List Text → List (List ℕ)
lines_of forms texts = tabulate (λ slot. line_of_string (form_at forms slot) (string_of texts slot)) (length forms)

-- the string is a line's payload under the codec
pub record IsPayload (codec : Codec) (form : Form) (payload : List ℕ) : Type 0 where
  pub says : SaysLine form payload (line_of form payload)
  pub size : length payload ≡ size_under codec (line_of form payload)

-- There are twice as many slots as whole lines would have room, and each string is the payload of its slot's line.
pub record ArePacked (codec : Codec) (forms : List Form) (strings : Strings) : Type 0 where
  pub ways : IsWithin 1 16 strings.ways
  pub slots : length forms ≡ 2 * strings.ways
  pub payloads : (slot : ℕ) (payload : List ℕ) → string_of strings.texts slot ≡ Some payload → IsPayload codec (form_at forms slot) payload
