-- The places of a page lie in its block, share no byte, and each line has one.
use Rattle.std.proofs.Common.{◌≡◌, ◌≢◌, ℕ, ◌+◌, ◌-◌, ◌*◌, ◌<◌, ◌≤◌, ◌==◌, ◌⊎◌, Bool, true, false, if◌then◌else◌, nat_le, nat_lt, refl, ap, ◌∙◌, sym, subst, arith, inl, inr, List, length, Option, Some, None, IfSome}
use Rattle.std.proofs.lemmas.Bool.{cases_eq, cases_lt}
use Rattle.std.proofs.lemmas.Bool.Decides.{nat_tests}
use Rattle.std.proofs.lemmas.Option.{same_Some}
use Rattle.hier_types.specs.declared.settings.Codec.{Codec}
use Rattle.line_codec.specs.Slots.{fits}
use Rattle.page_slots.specs.declared.desc.Shape.TheVariants.{Zero, Raw, Slotted}
use Rattle.page_slots.specs.declared.form.Form.{Form}
use Rattle.page_slots.specs.declared.placing.PlaceKind.TheVariants as kinds
use Rattle.page_slots.specs.declared.placing.PlaceRow.{PlaceRow}
use Rattle.page_slots.specs.Forms.{IsForm, form_of, room, slot_start}
use Rattle.page_slots.specs.Descs.{line_of}
use Rattle.page_slots.specs.Lines.{meta, chunk_of, content_at, HasLines, Stands}
use Rattle.page_slots.specs.Places.{block_row, chunk_row, slot_row, line_row, slotted_place, raw_place, IsWithin, ShareNoByte, PlacesFit, PlacesAreApart, LinesHaveOnePlace, PlacesSuitLines, UsesStored, kind_for}
use Rattle.page_slots.proofs.FormLemmas.{apart_of, slot_low, slot_within, slots_apart, slot_in_block, form_is}
use Rattle.page_slots.proofs.LineLemmas.{exception_of, mark_le, slot_uses}

-- a page has the lines that its bytes say
abbrev HasOwn : Codec → Form → List ℕ → Type 0
HasOwn codec form bytes = HasLines codec form bytes (content_at form bytes)

exception_row : (form : Form) (bytes : List ℕ) (i : ℕ) → 128 ≤ meta bytes i → line_row form bytes i ≡ chunk_row kinds.Exception i (chunk_of (meta bytes i))
unfolding line_row
exception_row form bytes i high = let test : nat_le 128 (meta bytes i) ≡ true = grind (arith, nat_tests) in rw test refl

in_slot_row : (form : Form) (bytes : List ℕ) (i : ℕ) → meta bytes i < 128 → line_row form bytes i ≡ slot_row form bytes i
unfolding line_row
in_slot_row form bytes i low = let test : nat_le 128 (meta bytes i) ≡ false = grind (arith, nat_tests) in rw test refl

line_row-line : (form : Form) (bytes : List ℕ) (i : ℕ) → (line_row form bytes i).line ≡ i
line_row-line form bytes i = elim (cases_lt (meta bytes i) 128) [
  | inl low ↦ ap (λ (row : PlaceRow). row.line) (in_slot_row form bytes i low)
  | inr high ↦ ap (λ (row : PlaceRow). row.line) (exception_row form bytes i high)
]

-- the places by index
slotted_place-first : (form : Form) (bytes : List ℕ) → slotted_place form bytes 0 ≡ Some (block_row (length bytes))
unfolding slotted_place
slotted_place-first form bytes = refl

slotted_place-second : (form : Form) (bytes : List ℕ) → slotted_place form bytes 1 ≡ Some (chunk_row kinds.Meta 64 0)
unfolding slotted_place
slotted_place-second form bytes = refl

slotted_place-line : (form : Form) (bytes : List ℕ) (i : ℕ) → i < 64 → slotted_place form bytes (i + 2) ≡ Some (line_row form bytes i)
unfolding slotted_place
slotted_place-line form bytes i i_in =
    let first : (i + 2 == 0) ≡ false = grind (arith, nat_tests) in
    let second : (i + 2 == 1) ≡ false = grind (arith, nat_tests) in
    let inside : nat_lt (i + 2) 66 ≡ true = grind (arith, nat_tests) in
    let same : i + 2 - 2 ≡ i = omega arith in
    rw (first, second, inside, same) refl

slotted_place-past : (form : Form) (bytes : List ℕ) (index : ℕ) → 66 ≤ index → slotted_place form bytes index ≡ None
unfolding slotted_place
slotted_place-past form bytes index past =
    let first : (index == 0) ≡ false = grind (arith, nat_tests) in
    let second : (index == 1) ≡ false = grind (arith, nat_tests) in
    let outside : nat_lt index 66 ≡ false = grind (arith, nat_tests) in
    rw (first, second, outside) refl

raw_place-first : (bytes : List ℕ) → raw_place bytes 0 ≡ Some (block_row (length bytes))
unfolding raw_place
raw_place-first bytes = refl

raw_place-line : (bytes : List ℕ) (i : ℕ) → i < 64 → raw_place bytes (i + 1) ≡ Some (chunk_row kinds.Raw i i)
unfolding raw_place
raw_place-line bytes i i_in =
    let first : (i + 1 == 0) ≡ false = grind (arith, nat_tests) in
    let inside : nat_lt (i + 1) 65 ≡ true = grind (arith, nat_tests) in
    let same : i + 1 - 1 ≡ i = omega arith in
    rw (first, inside, same) refl

raw_place-past : (bytes : List ℕ) (index : ℕ) → 65 ≤ index → raw_place bytes index ≡ None
unfolding raw_place
raw_place-past bytes index past =
    let first : (index == 0) ≡ false = grind (arith, nat_tests) in
    let outside : nat_lt index 65 ≡ false = grind (arith, nat_tests) in
    rw (first, outside) refl

-- what stands in a place of a page in such a form: the block, the metadata or a line
slotted_rows : (form : Form) (bytes : List ℕ) (index : ℕ) (row : PlaceRow) → slotted_place form bytes index ≡ Some row
    → ((index ≡ 0) × (row ≡ block_row (length bytes))) ⊎ (((index ≡ 1) × (row ≡ chunk_row kinds.Meta 64 0))
    ⊎ ((i : ℕ) × (i < 64) × (index ≡ i + 2) × (row ≡ line_row form bytes i)))
slotted_rows form bytes index row e = elim (cases_lt index 2) [
  | inl front ↦ elim (cases_eq index 0) [
    | inl first ↦ inl (first, same_Some _ _ (sym e ∙ ap (slotted_place form bytes) first ∙ slotted_place-first form bytes))
    | inr second ↦
        let one : index ≡ 1 = omega arith in
        inr (inl (one, same_Some _ _ (sym e ∙ ap (slotted_place form bytes) one ∙ slotted_place-second form bytes)))
  ]
  | inr behind ↦ elim (cases_lt index 66) [
    | inl inside ↦
        let same : index ≡ index - 2 + 2 = omega arith in
        inr (inr (index - 2, omega arith, same, same_Some _ _ (sym e ∙ ap (slotted_place form bytes) same ∙ slotted_place-line form bytes (index - 2) (omega arith))))
    | inr past ↦ absurd (let none : None ≡ Some row = sym (slotted_place-past form bytes index past) ∙ e in cc)
  ]
]

-- what stands in a place of a page whose lines stand one after another: the block or a line
raw_rows : (bytes : List ℕ) (index : ℕ) (row : PlaceRow) → raw_place bytes index ≡ Some row
    → ((index ≡ 0) × (row ≡ block_row (length bytes))) ⊎ ((i : ℕ) × (i < 64) × (index ≡ i + 1) × (row ≡ chunk_row kinds.Raw i i))
raw_rows bytes index row e = elim (cases_eq index 0) [
  | inl first ↦ inl (first, same_Some _ _ (sym e ∙ ap (raw_place bytes) first ∙ raw_place-first bytes))
  | inr behind ↦ elim (cases_lt index 65) [
    | inl inside ↦
        let same : index ≡ index - 1 + 1 = omega arith in
        inr (index - 1, omega arith, same, same_Some _ _ (sym e ∙ ap (raw_place bytes) same ∙ raw_place-line bytes (index - 1) (omega arith)))
    | inr past ↦ absurd (let none : None ≡ Some row = sym (raw_place-past bytes index past) ∙ e in cc)
  ]
]

-- the place of a line lies in the block
line_within : (codec : Codec) (form : Form) (bytes : List ℕ) (i : ℕ) → IsForm form (length bytes) → i < 64 → HasOwn codec form bytes → IsWithin (length bytes) (line_row form bytes i)
line_within codec form bytes i is i_in has = elim (cases_lt (meta bytes i) 128) [
  | inl low ↦
      subst (IsWithin (length bytes)) (sym (in_slot_row form bytes i low)) (record {
        used = (slot_uses codec form bytes i (content_at form bytes i) (has.has i i_in) low).1;
        inside = slot_in_block form (length bytes) i (slot_start form i) (room form i) is i_in refl refl;
      })
  | inr high ↦
      let bound = exception_of codec form bytes i (content_at form bytes i) (has.has i i_in) high in
      subst (IsWithin (length bytes)) (sym (exception_row form bytes i high)) (record { used = omega arith; inside = omega (arith, bound.1, is.is_size) })
]

block_within : (size : ℕ) → IsWithin size (block_row size)
block_within size = record { used = omega arith; inside = omega arith }

slotted_within : (codec : Codec) (form : Form) (bytes : List ℕ) (index : ℕ) (row : PlaceRow) → IsForm form (length bytes) → HasOwn codec form bytes
    → slotted_place form bytes index ≡ Some row → IsWithin (length bytes) row
slotted_within codec form bytes index row is has e = elim (slotted_rows form bytes index row e) [
  | inl block ↦ subst (IsWithin (length bytes)) (sym block.1) (block_within (length bytes))
  | inr (inl metadata) ↦ subst (IsWithin (length bytes)) (sym metadata.1) (record { used = omega arith; inside = omega (arith, is.slots_in, is.is_size) })
  | inr (inr line) ↦ subst (IsWithin (length bytes)) (sym line.3) (line_within codec form bytes line.0 is line.1 has)
]

raw_within : (bytes : List ℕ) (index : ℕ) (row : PlaceRow) → length bytes ≡ 4096 → raw_place bytes index ≡ Some row → IsWithin (length bytes) row
raw_within bytes index row whole e = elim (raw_rows bytes index row e) [
  | inl block ↦ subst (IsWithin (length bytes)) (sym block.1) (block_within (length bytes))
  | inr line ↦ subst (IsWithin (length bytes)) (sym line.3) (record { used = omega arith; inside = omega (arith, line.1) })
]

pub fit : PlacesFit
fit codec Zero bytes index row sound e = absurd (cc)
fit codec Raw bytes index row sound e = raw_within bytes index row sound e
fit codec (Slotted slots) bytes index row sound e =
    slotted_within codec (form_of slots) bytes index row (form_is slots (length bytes) sound.holds) sound.lines e

share_back : (row other : PlaceRow) → ShareNoByte row other → ShareNoByte other row
share_back row other apart = elim apart [ inl a ↦ inr a | inr b ↦ inl b ]

-- chunks of different numbers
chunks_apart : (i j : ℕ) → i ≢ j → (64 * i + 64 ≤ 64 * j) ⊎ (64 * j + 64 ≤ 64 * i)
chunks_apart i j ne = elim (apart_of i j ne) [ inl a ↦ inl (omega arith) | inr b ↦ inr (omega arith) ]

slot_and_exception : (codec : Codec) (form : Form) (bytes : List ℕ) (i j : ℕ) → IsForm form (length bytes) → HasOwn codec form bytes → i < 64 → j < 64
    → meta bytes i < 128 → 128 ≤ meta bytes j → ShareNoByte (line_row form bytes i) (line_row form bytes j)
slot_and_exception codec form bytes i j is has i_in j_in low high =
    let bound = exception_of codec form bytes j (content_at form bytes j) (has.has j j_in) high in
    rw (in_slot_row form bytes i low, exception_row form bytes j high) (inl (omega (arith, bound.0, slot_within form (length bytes) i is i_in)))

-- the places of two lines
lines_apart : (codec : Codec) (form : Form) (bytes : List ℕ) (i j : ℕ) → IsForm form (length bytes) → HasOwn codec form bytes → i < 64 → j < 64 → i ≢ j
    → ShareNoByte (line_row form bytes i) (line_row form bytes j)
lines_apart codec form bytes i j is has i_in j_in ne = elim (cases_lt (meta bytes i) 128) [
  | inl low ↦ elim (cases_lt (meta bytes j) 128) [
    | inl low' ↦ rw (in_slot_row form bytes i low, in_slot_row form bytes j low') (slots_apart form (length bytes) i j is ne)
    | inr high ↦ slot_and_exception codec form bytes i j is has i_in j_in low high
  ]
  | inr high ↦ elim (cases_lt (meta bytes j) 128) [
    | inl low ↦ share_back (line_row form bytes j) (line_row form bytes i) (slot_and_exception codec form bytes j i is has j_in i_in low high)
    | inr high' ↦
        let other = has.apart i i_in high j j_in (λ e. ne (sym e)) high' in
        rw (exception_row form bytes i high, exception_row form bytes j high') (chunks_apart _ _ (λ e. other (sym e)))
  ]
]

-- the metadata and a line
metadata_apart : (codec : Codec) (form : Form) (bytes : List ℕ) (i : ℕ) → HasOwn codec form bytes → i < 64 → ShareNoByte (chunk_row kinds.Meta 64 0) (line_row form bytes i)
metadata_apart codec form bytes i has i_in = elim (cases_lt (meta bytes i) 128) [
  | inl low ↦ rw (in_slot_row form bytes i low) (inl (omega (arith, slot_low form i)))
  | inr high ↦
      let bound = exception_of codec form bytes i (content_at form bytes i) (has.has i i_in) high in
      rw (exception_row form bytes i high) (inl (omega (arith, bound.0)))
]

-- a line, and the metadata or another line
line_apart : (codec : Codec) (form : Form) (bytes : List ℕ) (i index : ℕ) (other : PlaceRow) → IsForm form (length bytes) → HasOwn codec form bytes
    → i < 64 → 1 ≤ index → i + 2 ≢ index → slotted_place form bytes index ≡ Some other → ShareNoByte (line_row form bytes i) other
line_apart codec form bytes i index other is has i_in some ne e = elim (slotted_rows form bytes index other e) [
  | inl block ↦ absurd (omega (arith, block.0))
  | inr (inl metadata) ↦ rw metadata.1 (share_back (chunk_row kinds.Meta 64 0) (line_row form bytes i) (metadata_apart codec form bytes i has i_in))
  | inr (inr line) ↦ rw line.3 (lines_apart codec form bytes i line.0 is has i_in line.1 (λ k. ne (omega (arith, k, line.2))))
]

slotted_apart : (codec : Codec) (form : Form) (bytes : List ℕ) (i j : ℕ) (row other : PlaceRow) → IsForm form (length bytes) → HasOwn codec form bytes
    → 1 ≤ i → 1 ≤ j → i ≢ j → slotted_place form bytes i ≡ Some row → slotted_place form bytes j ≡ Some other → ShareNoByte row other
slotted_apart codec form bytes i j row other is has i_some j_some ne e f = elim (slotted_rows form bytes i row e) [
  | inl block ↦ absurd (omega (arith, block.0))
  | inr (inl metadata) ↦ elim (slotted_rows form bytes j other f) [
    | inl block ↦ absurd (omega (arith, block.0))
    | inr (inl same) ↦ absurd (ne (metadata.0 ∙ sym same.0))
    | inr (inr line) ↦ rw (metadata.1, line.3) (metadata_apart codec form bytes line.0 has line.1)
  ]
  | inr (inr line) ↦ rw line.3 (line_apart codec form bytes line.0 j other is has line.1 j_some (λ k. ne (omega (arith, k, line.2))) f)
]

raw_apart : (bytes : List ℕ) (i j : ℕ) (row other : PlaceRow) → 1 ≤ i → 1 ≤ j → i ≢ j → raw_place bytes i ≡ Some row → raw_place bytes j ≡ Some other → ShareNoByte row other
raw_apart bytes i j row other i_some j_some ne e f = elim (raw_rows bytes i row e) [
  | inl block ↦ absurd (omega (arith, block.0))
  | inr line ↦ elim (raw_rows bytes j other f) [
    | inl block ↦ absurd (omega (arith, block.0))
    | inr line' ↦ rw (line.3, line'.3) (chunks_apart line.0 line'.0 (λ k. ne (omega (arith, k, line.2, line'.2))))
  ]
]

pub apart : PlacesAreApart
apart codec Zero bytes i j row other sound i_some j_some ne e f = absurd (cc)
apart codec Raw bytes i j row other sound i_some j_some ne e f = raw_apart bytes i j row other i_some j_some ne e f
apart codec (Slotted slots) bytes i j row other sound i_some j_some ne e f =
    slotted_apart codec (form_of slots) bytes i j row other (form_is slots (length bytes) sound.holds) sound.lines i_some j_some ne e f

slotted_index : (form : Form) (bytes : List ℕ) (line index : ℕ) (row : PlaceRow) → line < 64 → slotted_place form bytes index ≡ Some row → row.line ≡ line → index ≡ line + 2
slotted_index form bytes line index row line_in e is = elim (slotted_rows form bytes index row e) [
  | inl block ↦ absurd (omega (arith, is, ap (λ (r : PlaceRow). r.line) block.1))
  | inr (inl metadata) ↦ absurd (omega (arith, is, ap (λ (r : PlaceRow). r.line) metadata.1))
  | inr (inr own) ↦ omega (arith, is, own.2, ap (λ (r : PlaceRow). r.line) own.3, line_row-line form bytes own.0)
]

raw_index : (bytes : List ℕ) (line index : ℕ) (row : PlaceRow) → line < 64 → raw_place bytes index ≡ Some row → row.line ≡ line → index ≡ line + 1
raw_index bytes line index row line_in e is = elim (raw_rows bytes index row e) [
  | inl block ↦ absurd (omega (arith, is, ap (λ (r : PlaceRow). r.line) block.1))
  | inr own ↦ omega (arith, is, own.2, ap (λ (r : PlaceRow). r.line) own.3)
]

pub one_place : LinesHaveOnePlace
one_place Zero bytes line index some line_in = absurd (some refl)
one_place Raw bytes line index some line_in = (
  (λ place. raw_index bytes line index place.row line_in place.there place.is_line),
  (λ e. record { row = chunk_row kinds.Raw line line; there = rw e (raw_place-line bytes line line_in); is_line = refl }),
)
one_place (Slotted slots) bytes line index some line_in =
    let form = form_of slots in (
      (λ place. slotted_index form bytes line index place.row line_in place.there place.is_line),
      (λ e. record { row = line_row form bytes line; there = rw e (slotted_place-line form bytes line line_in); is_line = line_row-line form bytes line }),
    )

-- what a line uses of its slot is its stored size
abbrev Uses : Codec → (ℕ → List ℕ) → PlaceRow → Type 0
Uses codec lines row = UsesStored codec (lines row.line) row

line_uses : (codec : Codec) (form : Form) (bytes : List ℕ) (i : ℕ) → i < 64 → HasOwn codec form bytes → Uses codec (content_at form bytes) (line_row form bytes i)
line_uses codec form bytes i i_in has = elim (cases_lt (meta bytes i) 128) [
  | inl low ↦ subst (Uses codec (content_at form bytes)) (sym (in_slot_row form bytes i low)) (λ e. (slot_uses codec form bytes i (content_at form bytes i) (has.has i i_in) low).0)
  | inr high ↦ subst (Uses codec (content_at form bytes)) (sym (exception_row form bytes i high)) (λ e. absurd (cc))
]

pub slotted_uses : (codec : Codec) (form : Form) (bytes : List ℕ) (index : ℕ) (result : Option PlaceRow) → result ≡ slotted_place form bytes index → HasOwn codec form bytes
    → IfSome result (Uses codec (content_at form bytes))
slotted_uses codec form bytes index None e has = tt
slotted_uses codec form bytes index (Some row) e has = elim (slotted_rows form bytes index row (sym e)) [
  | inl block ↦ subst (Uses codec (content_at form bytes)) (sym block.1) (λ is. absurd (cc))
  | inr (inl metadata) ↦ subst (Uses codec (content_at form bytes)) (sym metadata.1) (λ is. absurd (cc))
  | inr (inr line) ↦ subst (Uses codec (content_at form bytes)) (sym line.3) (line_uses codec form bytes line.0 line.1 has)
]

pub raw_uses : (codec : Codec) (lines : ℕ → List ℕ) (bytes : List ℕ) (index : ℕ) (result : Option PlaceRow) → result ≡ raw_place bytes index → IfSome result (Uses codec lines)
raw_uses codec lines bytes index None e = tt
raw_uses codec lines bytes index (Some row) e = elim (raw_rows bytes index row (sym e)) [
  | inl block ↦ subst (Uses codec lines) (sym block.1) (λ is. absurd (cc))
  | inr line ↦ subst (Uses codec lines) (sym line.3) (λ is. absurd (cc))
]

-- a line stands in its slot where it fits it, and else in a chunk
kind_by : (codec : Codec) (form : Form) (bytes : List ℕ) (i : ℕ) (line : List ℕ) (fit : Bool) → Stands codec form bytes i line fit
    → (line_row form bytes i).kind ≡ if fit then kinds.Slot else kinds.Exception
kind_by codec form bytes i line true h = ap (λ (row : PlaceRow). row.kind) (in_slot_row form bytes i (omega (arith, h.marked, mark_le line)))
kind_by codec form bytes i line false h = ap (λ (row : PlaceRow). row.kind) (exception_row form bytes i (omega (arith, h.marked)))

line_kind : (codec : Codec) (form : Form) (bytes : List ℕ) (i : ℕ) → i < 64 → HasOwn codec form bytes
    → (line_row form bytes i).kind ≡ kind_for codec form i (content_at form bytes i)
line_kind codec form bytes i i_in has = kind_by codec form bytes i (content_at form bytes i) (fits codec (room form i) (content_at form bytes i)) (has.has i i_in).stands

slotted_kind : (codec : Codec) (form : Form) (bytes : List ℕ) (index : ℕ) (row : PlaceRow) → HasOwn codec form bytes → slotted_place form bytes index ≡ Some row
    → row.line < 64 → row.kind ≡ kind_for codec form row.line (content_at form bytes row.line)
slotted_kind codec form bytes index row has e line_in = elim (slotted_rows form bytes index row e) [
  | inl block ↦ absurd (omega (arith, line_in, ap (λ (r : PlaceRow). r.line) block.1))
  | inr (inl metadata) ↦ absurd (omega (arith, line_in, ap (λ (r : PlaceRow). r.line) metadata.1))
  | inr (inr line) ↦
      let i = line.0 in
      let same : row.line ≡ i = ap (λ (r : PlaceRow). r.line) line.3 ∙ line_row-line form bytes i in
      ap (λ (r : PlaceRow). r.kind) line.3 ∙ line_kind codec form bytes i line.1 has ∙ ap (λ (j : ℕ). kind_for codec form j (content_at form bytes j)) (sym same)
]

raw_kind : (bytes : List ℕ) (index : ℕ) (row : PlaceRow) → raw_place bytes index ≡ Some row → row.line < 64 → row.kind ≡ kinds.Raw
raw_kind bytes index row e line_in = elim (raw_rows bytes index row e) [
  | inl block ↦ absurd (omega (arith, line_in, ap (λ (r : PlaceRow). r.line) block.1))
  | inr line ↦ ap (λ (r : PlaceRow). r.kind) line.3
]

pub suits : PlacesSuitLines
suits codec Zero bytes index row sound e line_in = absurd (cc)
suits codec Raw bytes index row sound e line_in = record {
  kind = raw_kind bytes index row e line_in;
  used = raw_uses codec (line_of Raw bytes) bytes index (Some row) (sym e);
}
suits codec (Slotted slots) bytes index row sound e line_in =
    let form = form_of slots in
    record {
      kind = slotted_kind codec form bytes index row sound.lines e line_in;
      used = slotted_uses codec form bytes index (Some row) (sym e) sound.lines;
    }
