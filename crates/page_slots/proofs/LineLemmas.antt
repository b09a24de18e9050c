-- What a line's bytes say.
use Rattle.std.proofs.Common.{◌≡◌, ℕ, ◌<◌, ◌≤◌, All, Bool, true, false, refl, ap, ◌∙◌, sym, subst, arith, inl, inr, List, ◌++◌, length, get_or, drop, nat_le, Option, Some, None, true≢false}
use Rattle.std.specs.Option.{option_map_or}
use Rattle.std.proofs.lemmas.Bool.Decides.{nat_tests}
use Rattle.std.proofs.lemmas.Bool.{cases_lt}
use Rattle.std.proofs.lemmas.Grind.{get_or_default_zero}
use Rattle.std.proofs.lemmas.List.{get_or_past, take-append-drop}
use Rattle.hier_types.specs.declared.settings.Codec.{Codec}
use Rattle.line_codec.specs.Layout.{slot_at}
use Rattle.line_codec.specs.Slots.{stored, encoding, fits, Begins, Says, line_in, used_in}
use Rattle.line_codec.proofs.SlotLemmas.{encoding_says, slots_say}
use Rattle.byte_parts.specs.Parts.{part}
use Rattle.page_slots.specs.declared.form.Form.{Form}
use Rattle.page_slots.specs.Forms.{room, slot_start}
use Rattle.page_slots.specs.Lines.{meta, chunk_of, chunk, slot, mark, says, content_at, Stands, HasLine, HasLines}

pub mark_le : (line : List ℕ) → mark line ≤ 64
unfolding mark
mark_le line = grind (arith, nat_tests)

-- a line that fits has a stored size
fits_stored : (codec : Codec) (room : ℕ) (line : List ℕ) → fits codec room line ≡ true → (n : ℕ) × (stored codec line ≡ Some n)
fits_stored codec room line fit = of_size (stored codec line) fit
  where
    of_size : (size : Option ℕ) → option_map_or (λ bytes. nat_le bytes room) size false ≡ true → (n : ℕ) × (size ≡ Some n)
    of_size None e = absurd (true≢false (sym e))
    of_size (Some n) e = (n, refl)

-- bytes, each of which is one
pub bytes_below : (line : List ℕ) → ((i : ℕ) → get_or line i 0 < 256) → All (λ byte. byte < 256) line
bytes_below line below i d inside = rw (get_or_default_zero line i d inside) (below i)

byte_below : (line : List ℕ) → All (λ byte. byte < 256) line → (i : ℕ) → get_or line i 0 < 256
byte_below line below i = elim (cases_lt i (length line)) [
  | inl inside ↦ below i 0 inside
  | inr past ↦ omega (arith, get_or_past line i 0 past)
]

-- a slot that begins with a line's encoding says the line
slot_says : (codec : Codec) (line slot : List ℕ) (room : ℕ) → length line ≡ 64 → All (λ byte. byte < 256) line → fits codec room line ≡ true
    → Begins (encoding codec line) slot → Says slot line
slot_says codec line slot room whole below fit begins =
    let short = fits_stored codec room line fit in
    let front = encoding codec line in
    let rest = drop (length front) slot in
    let same : front ++ rest ≡ slot = ap (λ (xs : List ℕ). xs ++ rest) (sym begins) ∙ take-append-drop (length front) slot in
    subst (λ (xs : List ℕ). Says xs line) same (encoding_says codec line rest short.0 (byte_below line below) whole short.1)

-- what a line's bytes say is the line
stands_says : (codec : Codec) (form : Form) (bytes : List ℕ) (i : ℕ) (line : List ℕ) (fit : Bool) → length line ≡ 64 → All (λ byte. byte < 256) line
    → fits codec (room form i) line ≡ fit → Stands codec form bytes i line fit → content_at form bytes i ≡ line
unfolding says
stands_says codec form bytes i line true whole below fit h =
    let low : meta bytes i < 128 = omega (arith, h.marked, mark_le line) in
    let short = fits_stored codec (room form i) line fit in
    let back : line_in (slot form bytes i) ≡ line = (slots_say codec line (slot form bytes i) short.0 whole below short.1 h.begins).0 in
    rw back (grind (arith, nat_tests))
stands_says codec form bytes i line false whole below fit h =
    let high : 128 ≤ meta bytes i = omega (arith, h.marked) in
    rw h.there (grind (arith, nat_tests))

pub has_content : (codec : Codec) (form : Form) (bytes : List ℕ) (i : ℕ) (line : List ℕ) → HasLine codec form bytes i line → content_at form bytes i ≡ line
has_content codec form bytes i line has = stands_says codec form bytes i line (fits codec (room form i) line) has.whole has.below refl has.stands

-- the chunk of an exception lies above the slots
exception_by : (codec : Codec) (form : Form) (bytes : List ℕ) (i : ℕ) (line : List ℕ) (fit : Bool) → 128 ≤ meta bytes i → Stands codec form bytes i line fit
    → (form.large < chunk_of (meta bytes i)) × (chunk_of (meta bytes i) < form.chunks)
exception_by codec form bytes i line true high h = absurd (omega (arith, h.marked, mark_le line))
exception_by codec form bytes i line false high h = (h.above, h.below)

pub exception_of : (codec : Codec) (form : Form) (bytes : List ℕ) (i : ℕ) (line : List ℕ) → HasLine codec form bytes i line → 128 ≤ meta bytes i
    → (form.large < chunk_of (meta bytes i)) × (chunk_of (meta bytes i) < form.chunks)
exception_of codec form bytes i line has high = exception_by codec form bytes i line (fits codec (room form i) line) high has.stands

-- an exception is its chunk
pub says_chunk : (byte : ℕ) (slot chunk : List ℕ) → 128 ≤ byte → says byte slot chunk ≡ chunk
unfolding says
says_chunk byte slot chunk high = grind (arith, nat_tests)

-- the slot of any other line says it
slot_says_by : (codec : Codec) (form : Form) (bytes : List ℕ) (i : ℕ) (line : List ℕ) (fit : Bool) → length line ≡ 64 → All (λ byte. byte < 256) line
    → fits codec (room form i) line ≡ fit → meta bytes i < 128 → Stands codec form bytes i line fit → Says (slot form bytes i) line
slot_says_by codec form bytes i line true whole below fit low h = slot_says codec line (slot form bytes i) (room form i) whole below fit h.begins
slot_says_by codec form bytes i line false whole below fit low h = absurd (omega (arith, h.marked))

pub slot_says_line : (codec : Codec) (form : Form) (bytes : List ℕ) (i : ℕ) (line : List ℕ) (start n : ℕ) → HasLine codec form bytes i line
    → meta bytes i < 128 → start ≡ slot_start form i → n ≡ room form i → Says (part start n bytes) line
slot_says_line codec form bytes i line start n has low e f =
    rw (e, f) (slot_says_by codec form bytes i line (fits codec (room form i) line) has.whole has.below refl low has.stands)

-- and it takes as many bytes of its slot as its stored size
slot_uses_by : (codec : Codec) (form : Form) (bytes : List ℕ) (i : ℕ) (line : List ℕ) (fit : Bool) → length line ≡ 64 → All (λ byte. byte < 256) line
    → fits codec (room form i) line ≡ fit → meta bytes i < 128 → Stands codec form bytes i line fit
    → (stored codec line ≡ Some (used_in (slot form bytes i))) × (used_in (slot form bytes i) ≤ room form i)
slot_uses_by codec form bytes i line true whole below fit low h =
    let short = fits_stored codec (room form i) line fit in
    let used : used_in (slot form bytes i) ≡ short.0 = (slots_say codec line (slot form bytes i) short.0 whole below short.1 h.begins).1 in
    let within : nat_le short.0 (room form i) ≡ true = rw short.1 at fit in
    let most : short.0 ≤ room form i = grind (arith, nat_tests) in
    (short.1 ∙ ap Some (sym used), omega arith)
slot_uses_by codec form bytes i line false whole below fit low h = absurd (omega (arith, h.marked))

pub slot_uses : (codec : Codec) (form : Form) (bytes : List ℕ) (i : ℕ) (line : List ℕ) → HasLine codec form bytes i line → meta bytes i < 128
    → (stored codec line ≡ Some (used_in (slot form bytes i))) × (used_in (slot form bytes i) ≤ room form i)
slot_uses codec form bytes i line has low =
    slot_uses_by codec form bytes i line (fits codec (room form i) line) has.whole has.below refl low has.stands

-- a larger slot holds what a smaller one holds
size-rises : (size : Option ℕ) (t r : ℕ) → t ≤ r → option_map_or (λ bytes. nat_le bytes t) size false ≡ true → option_map_or (λ bytes. nat_le bytes r) size false ≡ true
size-rises None t r le fit = fit
size-rises (Some n) t r le fit = grind (arith, nat_tests)

pub fits-rises : (codec : Codec) (t r : ℕ) (line : List ℕ) → t ≤ r → fits codec t line ≡ true → fits codec r line ≡ true
fits-rises codec t r line le fit = size-rises (stored codec line) t r le fit

-- a line is an exception exactly where it does not fit its slot
fits_by : (codec : Codec) (form : Form) (bytes : List ℕ) (i : ℕ) (line : List ℕ) (fit : Bool) → fits codec (room form i) line ≡ fit → Stands codec form bytes i line fit
    → (meta bytes i < 128 → fits codec (room form i) line ≡ true) × (128 ≤ meta bytes i → fits codec (room form i) line ≡ false)
fits_by codec form bytes i line true e h = (λ low. e, λ high. absurd (omega (arith, h.marked, mark_le line)))
fits_by codec form bytes i line false e h = (λ low. absurd (omega (arith, h.marked)), λ high. e)

pub slot_fits : (codec : Codec) (form : Form) (bytes : List ℕ) (i : ℕ) (line : List ℕ) → HasLine codec form bytes i line → meta bytes i < 128 → fits codec (room form i) line ≡ true
slot_fits codec form bytes i line has low = (fits_by codec form bytes i line (fits codec (room form i) line) refl has.stands).0 low

pub exception_unfit : (codec : Codec) (form : Form) (bytes : List ℕ) (i : ℕ) (line : List ℕ) → HasLine codec form bytes i line → 128 ≤ meta bytes i → fits codec (room form i) line ≡ false
exception_unfit codec form bytes i line has high = (fits_by codec form bytes i line (fits codec (room form i) line) refl has.stands).1 high

-- an exception does not fit its slot, whatever names the line
pub unfit_at : (codec : Codec) (form : Form) (bytes : List ℕ) (i : ℕ) (lines : ℕ → List ℕ) (from : List ℕ) → from ≡ lines i → HasLines codec form bytes lines → i < 64 → 128 ≤ meta bytes i
    → fits codec (room form i) from ≡ false
unfit_at codec form bytes i lines from e has i_in high = ap (fits codec (room form i)) e ∙ exception_unfit codec form bytes i (lines i) (has.has i i_in) high

slot_start_same : (f g : Form) (i : ℕ) → room g i ≡ room f i → slot_start g i ≡ slot_start f i
unfolding slot_start
slot_start_same f g i e = ap (λ (r : ℕ). slot_at r i) e

stands_in_form : (codec : Codec) (f g : Form) (bytes : List ℕ) (i : ℕ) (line : List ℕ) (fit : Bool) → slot g bytes i ≡ slot f bytes i → g.chunks ≡ f.chunks
    → (128 ≤ meta bytes i → f.large < chunk_of (meta bytes i) → g.large < chunk_of (meta bytes i)) → Stands codec f bytes i line fit → Stands codec g bytes i line fit
stands_in_form codec f g bytes i line true slots chunks above h = record { marked = h.marked; begins = subst (Begins (encoding codec line)) (sym slots) h.begins }
stands_in_form codec f g bytes i line false slots chunks above h =
    record { marked = h.marked; above = above (omega (arith, h.marked)) h.above; below = omega (arith, h.below); there = h.there }

-- a line that has the same slot in another form
pub line_in_form : (codec : Codec) (f g : Form) (bytes : List ℕ) (i : ℕ) (line : List ℕ) → room g i ≡ room f i → g.chunks ≡ f.chunks
    → (128 ≤ meta bytes i → f.large < chunk_of (meta bytes i) → g.large < chunk_of (meta bytes i)) → HasLine codec f bytes i line → HasLine codec g bytes i line
line_in_form codec f g bytes i line rooms chunks above has =
    let starts = slot_start_same f g i rooms in
    let slots : slot g bytes i ≡ slot f bytes i = ap (λ (a : ℕ). part a (room g i) bytes) starts ∙ ap (λ (r : ℕ). part (slot_start f i) r bytes) rooms in
    record {
      whole = has.whole;
      below = has.below;
      stands = stands_in_form codec f g bytes i line (fits codec (room g i) line) slots chunks above
          (subst (λ (r : ℕ). Stands codec f bytes i line (fits codec r line)) (sym rooms) has.stands);
    }
