-- What a payload says in a form.
use Rattle.std.proofs.Common.{◌≡◌, ℕ, suc, ◌+◌, ◌*◌, ◌/◌, ◌^◌, ◌==◌, ◌&&◌, nat_lt, List, [], ◌∷◌, take, drop, length, replicate, min, false, Some, None, inl, inr, refl, sym, subst, ap, ◌∙◌, arith}
use Rattle.std.specs.List.{concat, flat_map}
use Rattle.std.proofs.lemmas.Bool.{cases_Bool, eqb-true}
use Rattle.std.proofs.lemmas.Bool.Decides.{nat_tests}
use Rattle.std.proofs.lemmas.List.{append-nil, length-append}
use Rattle.hier_types.specs.declared.settings.Codec.{Codec}
use Rattle.hier_types.specs.declared.settings.Codec.TheVariants.{Bdi, Fpc}
use Rattle.bdi_codec.specs.Bytes.{number_of, bytes_of, elements}
use Rattle.bdi_codec.specs.Deltas.{deltas_meaning, restored_all}
use Rattle.bdi_codec.specs.Rows.{least_row, meaning}
use Rattle.bdi_codec.proofs.BytesLemmas.{AreBytes, length-elements, length-flat_map_bytes_of}
use Rattle.bdi_codec.proofs.RowLemmas.{meaning-encoded, length-payload_in, least_row-applies, applies-known}
use Rattle.fpc_codec.specs.Line as patterns
use Rattle.fpc_codec.proofs.LineLemmas.{length-Means}
use Rattle.fpc_codec.proofs.PackLemmas.{Means-encoding_of, length-encoding_of}
use Rattle.fpc_codec.proofs.ReadingLemmas.{line_said-means}
use Rattle.line_codec.specs.declared.payloads.Form.{Form}
use Rattle.line_codec.specs.declared.payloads.Form.TheVariants.{Plain, Deltas, Patterns}
use Rattle.line_codec.specs.Slots.{size_under}
use Rattle.line_codec.specs.Payloads.{line_of, SaysLine, short_form, short_payload, form_under, payload_under}

-- a payload that says a line says the one that the definition gives
pub line_of-says : (form : Form) (payload line : List ℕ) → SaysLine form payload line → line_of form payload ≡ line
unfolding line_of SaysLine
line_of-says Plain payload line says = says.0
line_of-says (Deltas row mask) payload line says = rw says refl
line_of-says Patterns payload line says = line_said-means payload line says

-- so it says that one
pub says_line_of : (form : Form) (payload line : List ℕ) → SaysLine form payload line → SaysLine form payload (line_of form payload)
says_line_of form payload line says = subst (λ (l : List ℕ). SaysLine form payload l) (sym (line_of-says form payload line says)) says

length-restored_all : (values half base mask : ℕ) (lows : List ℕ) → length (restored_all values half base mask lows) ≡ length lows
length-restored_all values half base mask [] = refl
length-restored_all values half base mask (low ∷ lows) = ap suc (length-restored_all values half base (mask / 2) lows)

-- a line that a base and deltas say
length-deltas : (width delta mask : ℕ) (payload line : List ℕ) → width * (64 / width) ≡ 64 → deltas_meaning width delta mask payload ≡ Some line → length line ≡ 64
unfolding deltas_meaning
length-deltas width delta mask payload line whole says =
    let count = 64 / width in
    let half = 256 ^ delta / 2 in
    let base = number_of (take width payload) in
    let lows = elements delta count (drop width payload) in
    let restored = restored_all (256 ^ width) half base mask lows in
    let size : length (flat_map (bytes_of width) restored) ≡ 64 =
    length-flat_map_bytes_of width (λ n. n) restored
    ∙ ap (λ (n : ℕ). width * n) (length-restored_all (256 ^ width) half base mask lows ∙ length-elements delta count (drop width payload)) ∙ whole in
    elim (cases_Bool (length payload == width + delta * count && nat_lt mask (2 ^ count))) [
      | inl passed ↦ let some : Some (flat_map (bytes_of width) restored) ≡ Some line = rw passed at says in
          let same : line ≡ flat_map (bytes_of width) restored = cc in ap length same ∙ size
      | inr failed ↦ let none : None ≡ Some line = rw failed at says in absurd (cc)
    ]

-- a line that a row says, if each kind of row says one of 64 bytes
length-meaning_from : (row mask : ℕ) (payload line : List ℕ) → meaning row mask payload ≡ Some line
    → length {A = ℕ} (replicate 64 0) ≡ 64
    → (length payload ≡ 8 → length (concat (replicate 8 payload)) ≡ 64)
    → (deltas_meaning 8 1 mask payload ≡ Some line → length line ≡ 64)
    → (deltas_meaning 8 2 mask payload ≡ Some line → length line ≡ 64)
    → (deltas_meaning 8 4 mask payload ≡ Some line → length line ≡ 64)
    → (deltas_meaning 4 1 mask payload ≡ Some line → length line ≡ 64)
    → (deltas_meaning 4 2 mask payload ≡ Some line → length line ≡ 64)
    → (deltas_meaning 2 1 mask payload ≡ Some line → length line ≡ 64)
    → length line ≡ 64
unfolding meaning
length-meaning_from row mask payload line says zeros repeated b8d1 b8d2 b8d4 b4d1 b4d2 b2d1 = grind (arith, nat_tests)

copies-length : (payload : List ℕ) → length payload ≡ 8 → length (concat (replicate 8 payload)) ≡ 64
copies-length payload len = omega (arith, len, length-append {A = ℕ})

length-meaning : (row mask : ℕ) (payload line : List ℕ) → meaning row mask payload ≡ Some line → length line ≡ 64
length-meaning row mask payload line says =
    length-meaning_from row mask payload line says refl
    (copies-length payload)
    (length-deltas 8 1 mask payload line refl)
    (length-deltas 8 2 mask payload line refl)
    (length-deltas 8 4 mask payload line refl)
    (length-deltas 4 1 mask payload line refl)
    (length-deltas 4 2 mask payload line refl)
    (length-deltas 2 1 mask payload line refl)

-- a payload says only lines of 64 bytes
pub length-says : (form : Form) (payload line : List ℕ) → SaysLine form payload line → length line ≡ 64
unfolding SaysLine
length-says Plain payload line says = says.1
length-says (Deltas row mask) payload line says = length-meaning row mask payload line says
length-says Patterns payload line says = length-Means payload line says

-- the payload of a line that the codec shortens has the line's size
length-short_payload : (codec : Codec) (line : List ℕ) → length line ≡ 64 → (size_under codec line == 64) ≡ false
    → length (short_payload codec line) ≡ size_under codec line
unfolding patterns.size_of
length-short_payload Bdi line len short =
    let row = least_row line in
    length-payload_in line row len (applies-known line row (least_row-applies line))
length-short_payload Fpc line len short =
    let bytes : (patterns.bits_of line + 7) / 8 ≡ min ((patterns.bits_of line + 7) / 8) 64 = grind (arith, nat_tests) in
    length-encoding_of line ∙ bytes

-- a payload has the line's size
pub length-payload_under : (codec : Codec) (line : List ℕ) → length line ≡ 64 → length (payload_under codec line) ≡ size_under codec line
length-payload_under codec line len = elim (cases_Bool (size_under codec line == 64)) [
  | inl plain ↦ rw plain (len ∙ sym (eqb-true (size_under codec line) 64 plain))
  | inr short ↦ rw short (length-short_payload codec line len short)
]

short_payload-says : (codec : Codec) (line : List ℕ) → AreBytes line → length line ≡ 64 → SaysLine (short_form codec line) (short_payload codec line) line
unfolding SaysLine
short_payload-says Bdi line bytes len = meaning-encoded line (least_row line) bytes len (least_row-applies line)
short_payload-says Fpc line bytes len = rw append-nil at (Means-encoding_of line [] len bytes)

-- a payload says the line in the line's form
pub payload_under-says : (codec : Codec) (line : List ℕ) → AreBytes line → length line ≡ 64 → SaysLine (form_under codec line) (payload_under codec line) line
unfolding SaysLine
payload_under-says codec line bytes len = elim (cases_Bool (size_under codec line == 64)) [
  | inl plain ↦ rw plain (refl, len)
  | inr short ↦ rw short (short_payload-says codec line bytes len)
]
