-- Lines that stand as strings, slot by slot.
use Rattle.std.proofs.Common.{◌≡◌, ◌≢◌, ◌<◌, ◌≤◌, ◌++◌, ℕ, List, [], take, drop, Some, None, length, length-set, set, replicate, get_or, get_or-set_same, get_or-set_other, refl, sym, ap, ◌∙◌, inl, inr, arith}
use Rattle.std.specs.Option.{IfSome}
use Rattle.std.proofs.lemmas.Bool.{cases_eq, cases_lt}
use Rattle.std.proofs.lemmas.List.{set-get_or, get_or_past, get_or_default, take_at, length-append, length-replicate, get_or-replicate}
use Rattle.hier_types.specs.declared.settings.Codec.{Codec}
use Rattle.hier_types.proofs.TableLemmas.{length-tabulate, get_or-tabulate, tabulate-by_index}
use Rattle.l2_segments.specs.Strings.{Text, Strings, string_of}
use Rattle.line_codec.specs.Slots.{size_under}
use Rattle.line_codec.specs.Payloads.{line_of, SaysLine}
use Rattle.line_codec.specs.declared.payloads.Form.{Form}
use Rattle.line_codec.specs.declared.payloads.Form.TheVariants.{Plain}
use Rattle.line_codec.proofs.PayloadLemmas.{line_of-says, says_line_of, length-says}
use Rattle.l2_cache.specs.Packed.{line_at}
use Rattle.l2_cache.specs.PackedLines.{form_at, line_of_string, lines_of, IsPayload, ArePacked}

pub length-lines_of : (forms : List Form) (texts : List Text) → length (lines_of forms texts) ≡ length forms
length-lines_of forms texts = length-tabulate (λ slot. line_of_string (form_at forms slot) (string_of texts slot)) (length forms)

pub slot_inside : (forms : List Form) (texts : List Text) (slot : ℕ) → slot < length (lines_of forms texts) → slot < length forms
slot_inside forms texts slot inside = omega (arith, length-lines_of forms texts)

pub line_at-lines_of : (forms : List Form) (texts : List Text) (slot : ℕ) → slot < length forms → line_at (lines_of forms texts) slot ≡ line_of_string (form_at forms slot) (string_of texts slot)
line_at-lines_of forms texts slot inside = get_or-tabulate [] (λ s. line_of_string (form_at forms s) (string_of texts s)) (length forms) slot inside

-- slots with no string
pub lines_of-none : (forms : List Form) → lines_of forms [] ≡ replicate (length forms) []
lines_of-none forms = sym (tabulate-by_index [] (λ _. []) (length forms) (replicate (length forms) []) (length-replicate (length forms) []) (λ k below. get_or-replicate (length forms) k [] [] below))

-- the lines after the form and the string of one slot changed
pub lines_of-changed : (forms : List Form) (old new : List Text) (slot : ℕ) (form : Form) → slot < length forms
    → ((other : ℕ) → other ≢ slot → string_of new other ≡ string_of old other)
    → lines_of (set forms slot form) new ≡ set (lines_of forms old) slot (line_of_string form (string_of new slot))
lines_of-changed forms old new slot form inside others =
    sym (tabulate-by_index [] (λ s. line_of_string (form_at (set forms slot form) s) (string_of new s)) (length (set forms slot form))
    (set (lines_of forms old) slot (line_of_string form (string_of new slot)))
    (length-set (lines_of forms old) slot (line_of_string form (string_of new slot)) ∙ length-lines_of forms old ∙ sym (length-set forms slot form)) same)
  where
    same : (s : ℕ) → s < length (set forms slot form) → get_or (set (lines_of forms old) slot (line_of_string form (string_of new slot))) s [] ≡ line_of_string (form_at (set forms slot form) s) (string_of new s)
    same s below =
        let len = length-lines_of forms old in
        elim (cases_eq s slot) [
          | inl e ↦
              ap (λ t. get_or (set (lines_of forms old) slot (line_of_string form (string_of new slot))) t []) e
              ∙ get_or-set_same (lines_of forms old) slot (line_of_string form (string_of new slot)) [] (omega arith)
              ∙ ap (λ f. line_of_string f (string_of new slot)) (sym (get_or-set_same forms slot form Plain inside))
              ∙ ap (λ t. line_of_string (form_at (set forms slot form) t) (string_of new t)) (sym e)
          | inr ne ↦
              get_or-set_other (lines_of forms old) slot s (line_of_string form (string_of new slot)) [] ne
              ∙ line_at-lines_of forms old s (let n = length-set forms slot form in omega arith)
              ∙ ap (line_of_string (form_at forms s)) (sym (others s ne))
              ∙ ap (λ f. line_of_string f (string_of new s)) (sym (get_or-set_other forms slot s form Plain ne))
        ]

-- the lines after one slot lost its string
pub lines_of-emptied : (forms : List Form) (old new : List Text) (slot : ℕ) → slot < length forms
    → string_of new slot ≡ None → ((other : ℕ) → other ≢ slot → string_of new other ≡ string_of old other)
    → lines_of forms new ≡ set (lines_of forms old) slot []
lines_of-emptied forms old new slot inside none others =
    ap (λ fs. lines_of fs new) (sym (set-get_or forms slot Plain))
    ∙ lines_of-changed forms old new slot (form_at forms slot) inside others
    ∙ ap (λ o. set (lines_of forms old) slot (line_of_string (form_at forms slot) o)) none

-- the string of a slot that has a line
pub record HasPayload (forms : List Form) (texts : List Text) (slot : ℕ) : Type 0 where
  pub payload : List ℕ
  pub inside : slot < length forms
  pub there : string_of texts slot ≡ Some payload
  pub line : line_at (lines_of forms texts) slot ≡ line_of (form_at forms slot) payload

pub has_payload : (forms : List Form) (texts : List Text) (slot : ℕ) → length (line_at (lines_of forms texts) slot) ≡ 64 → HasPayload forms texts slot
has_payload forms texts slot whole =
    elim (string_of texts slot) as (λ o. string_of texts slot ≡ o → HasPayload forms texts slot) [
      | None ↦ λ none. absurd (let k = ap length (line none) in omega arith)
      | Some payload ↦ λ some. record { payload = payload; inside = inside; there = some; line = line some }
    ] refl
  where
    inside : slot < length forms
    inside = elim (cases_lt slot (length forms)) [
      | inl below ↦ below
      | inr past ↦ absurd (let k = ap length (get_or_past (lines_of forms texts) slot [] (let n = length-lines_of forms texts in omega arith)) in omega arith)
    ]

    line : {o : _} → string_of texts slot ≡ o → line_at (lines_of forms texts) slot ≡ line_of_string (form_at forms slot) o
    line e = line_at-lines_of forms texts slot inside ∙ ap (line_of_string (form_at forms slot)) e

-- what was read of the string of a slot to the front of 64 bytes
pub read_payload : (forms : List Form) (texts : List Text) (slot len : ℕ) (old new : List ℕ) (has : HasPayload forms texts slot)
    → IfSome (string_of texts slot) (λ bytes. (len ≡ length bytes) × (new ≡ bytes ++ drop (length bytes) old))
    → (take len new ≡ has.payload) × (len ≡ length has.payload) × (len ≤ length new)
read_payload forms texts slot len old new has read =
    let got : (len ≡ length has.payload) × (new ≡ has.payload ++ drop (length has.payload) old) = rw has.there at read in
    let all = ap length got.1 ∙ length-append has.payload (drop (length has.payload) old) in
    (ap (take len) got.1 ∙ take_at has.payload (drop (length has.payload) old) len (sym got.0), got.0, omega arith)

-- the form that stands at a slot
pub form_is : (forms : List Form) (slot : ℕ) (form : Form) → slot < length forms → form ≡ get_or forms slot form → form ≡ form_at forms slot
form_is forms slot form inside is = is ∙ get_or_default forms slot form Plain inside

-- what a payload that was made of a line says
pub payload_of : (codec : Codec) (form : Form) (payload line : List ℕ) → SaysLine form payload line → length payload ≡ size_under codec line → IsPayload codec form payload
payload_of codec form payload line says size =
    record {
      says = says_line_of form payload line says;
      size = size ∙ ap (size_under codec) (sym (line_of-says form payload line says));
    }

module _ {codec : Codec} {forms : List Form} {strings : Strings} (packed : ArePacked codec forms strings) where
  pub few_forms : length forms ≤ 32
  few_forms = omega (arith, packed.slots, packed.ways.1)

  -- no string stands under an empty slot
  pub unused_slot : (slot : ℕ) → slot < length forms → line_at (lines_of forms strings.texts) slot ≡ [] → string_of strings.texts slot ≡ None
  unused_slot slot inside empty =
      elim (string_of strings.texts slot) as (λ o. string_of strings.texts slot ≡ o → o ≡ None) [
        | None ↦ λ none. refl
        | Some payload ↦ λ some. absurd (
            let whole = length-says (form_at forms slot) payload (line_of (form_at forms slot) payload) (packed.payloads slot payload some).says in
            let none : line_of (form_at forms slot) payload ≡ [] = sym (line_at-lines_of forms strings.texts slot inside ∙ ap (line_of_string (form_at forms slot)) some) ∙ empty in
            let k = ap length none in omega arith)
      ] refl

  -- the payload of a slot's line has the line's size
  pub length-payload : (slot : ℕ) (has : HasPayload forms strings.texts slot) → length has.payload ≡ size_under codec (line_at (lines_of forms strings.texts) slot)
  length-payload slot has = (packed.payloads slot has.payload has.there).size ∙ ap (size_under codec) (sym has.line)

  pub packed_put : (after : Strings) (slot : ℕ) (form : Form) (bytes : List ℕ) → slot < length forms → after.ways ≡ strings.ways → IsPayload codec form bytes
      → string_of after.texts slot ≡ Some bytes → ((other : ℕ) → other ≢ slot → string_of after.texts other ≡ string_of strings.texts other)
      → ArePacked codec (set forms slot form) after
  packed_put after slot form bytes inside ways is there others = record {
    ways = rw ways packed.ways;
    slots = rw ways (length-set forms slot form ∙ packed.slots);
    payloads = λ s payload some. elim (cases_eq s slot) [
      | inl e ↦
          let same : payload ≡ bytes = (let k : Some payload ≡ Some bytes = sym some ∙ ap (string_of after.texts) e ∙ there in cc) in
          let at : form_at (set forms slot form) s ≡ form = ap (form_at (set forms slot form)) e ∙ get_or-set_same forms slot form Plain inside in
          rw (at, same) is
      | inr ne ↦ rw (get_or-set_other forms slot s form Plain ne) (packed.payloads s payload (sym (others s ne) ∙ some))
    ];
  }
