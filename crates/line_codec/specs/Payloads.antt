-- The payload of a line under a codec, and how it is read back.
use Rattle.std.specs.Prelude.{◌≡◌, ℕ, List, [], ◌==◌, if◌then◌else◌, length, unwrap_or, Some}
use Rattle.hier_types.specs.declared.settings.Codec.{Codec}
use Rattle.hier_types.specs.declared.settings.Codec.TheVariants.{Bdi, Fpc}
use Rattle.bdi_codec.specs.Rows.{least_row, mask_in, payload_in, meaning}
use Rattle.fpc_codec.specs.Line as patterns
use Rattle.fpc_codec.specs.Reading.{line_said}
use Rattle.line_codec.specs.declared.payloads.Form.{Form}
use Rattle.line_codec.specs.declared.payloads.Form.TheVariants.{Plain, Deltas, Patterns}
use Rattle.line_codec.specs.Slots.{size_under}

-- the line that a payload says in a form
unfoldable pub line_of : Form → List ℕ → List ℕ
line_of Plain payload = payload
line_of (Deltas row mask) payload = unwrap_or (meaning row mask payload) []
line_of Patterns payload = line_said payload

-- a payload says a line in a form
unfoldable pub SaysLine : Form → List ℕ → List ℕ → Type 0
SaysLine Plain payload line = (payload ≡ line) × (length line ≡ 64)
SaysLine (Deltas row mask) payload line = meaning row mask payload ≡ Some line
SaysLine Patterns payload line = patterns.Means payload line

-- the form of a line that the codec shortens: base-delta-immediate in its least row, and frequent patterns
abbrev pub short_form : Codec → List ℕ → Form
short_form Bdi line = Deltas (least_row line) (mask_in (least_row line) line)
short_form Fpc line = Patterns

-- its payload: that of the row, and the bytes of the least codes
abbrev pub short_payload : Codec → List ℕ → List ℕ
short_payload Bdi line = payload_in (least_row line) line
short_payload Fpc line = patterns.encoding_of line

-- the form of a line, which is plain where the codec does not shorten it
abbrev pub form_under : Codec → List ℕ → Form
form_under codec line = if size_under codec line == 64 then Plain else short_form codec line

-- the payload of a line, which is the line itself where the codec does not shorten it
abbrev pub payload_under : Codec → List ℕ → List ℕ
payload_under codec line = if size_under codec line == 64 then line else short_payload codec line
