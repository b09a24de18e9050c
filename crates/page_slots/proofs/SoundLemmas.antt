-- Sound pages in which a line is put.
use Rattle.std.proofs.Common.{◌≡◌, ℕ, ◌*◌, ◌<◌, refl, sym, ◌∙◌, subst, arith, inl, inr, List, [], length}
use Rattle.std.specs.Prelude.{slice_set}
use Rattle.hier_types.specs.declared.settings.Codec.{Codec}
use Rattle.byte_parts.specs.Parts.{ChangesWithin}
use Rattle.byte_parts.proofs.PartLemmas.{part_stays}
use Rattle.hier_types.specs.Tabulate.{tabulate}
use Rattle.page_slots.specs.declared.desc.Slots.{Slots}
use Rattle.page_slots.specs.declared.form.Form.{Form}
use Rattle.page_slots.specs.declared.putting.PutResult.{PutResult}
use Rattle.page_slots.specs.declared.putting.PutResult.TheVariants.{Done, Overflow}
use Rattle.page_slots.specs.Forms.{form_of}
use Rattle.page_slots.specs.Lines.{chunk, content_at, HasLine, HasLines, HasOthers}
use Rattle.page_slots.specs.Puts.{with_line}
use Rattle.page_slots.specs.Sound.{HoldsSlots, IsSlotted}
use Rattle.page_slots.proofs.FormLemmas.{apart_of}
use Rattle.page_slots.proofs.LineLemmas.{has_content}
use Rattle.page_slots.proofs.PutLemmas.{with_line_same, with_line_other}
use Rattle.page_slots.proofs.TableLemmas.{tabulate-set}

-- a page that has lines has those that its bytes say
pub has_own : (codec : Codec) (form : Form) (bytes : List ℕ) (lines : ℕ → List ℕ) → HasLines codec form bytes lines → HasLines codec form bytes (content_at form bytes)
has_own codec form bytes lines has = record {
  has = λ i i_in. subst (HasLine codec form bytes i) (sym (has_content codec form bytes i (lines i) (has.has i i_in))) (has.has i i_in);
  apart = has.apart;
}

pub others_of : (codec : Codec) (form : Form) (bytes : List ℕ) (line : ℕ) (lines : ℕ → List ℕ) → HasLines codec form bytes lines → HasOthers codec form bytes line lines
others_of codec form bytes line lines has = record { has = λ i i_in ne. has.has i i_in; apart = has.apart }

-- a page in slots stays sound
pub slotted_by : (codec : Codec) (slots : Slots) (old new : List ℕ) (lines : ℕ → List ℕ) (result : PutResult) → length new ≡ length old
    → IsSlotted codec slots old → (result ≡ Done → HasLines codec (form_of slots) new lines) → (result ≡ Overflow → new ≡ old) → IsSlotted codec slots new
slotted_by codec slots old new lines Done same sound done stays = record {
  holds = subst (HoldsSlots slots) (sym same) sound.holds;
  lines = has_own codec (form_of slots) new lines (done refl);
}
slotted_by codec slots old new lines Overflow same sound done stays = subst (IsSlotted codec slots) (sym (stays refl)) sound

-- and its lines are as before but for one
pub content_by : (codec : Codec) (form : Form) (old new : List ℕ) (line : ℕ) (from : List ℕ) → line < 64 → HasLines codec form new (with_line (content_at form old) line from)
    → tabulate (content_at form new) 64 ≡ slice_set (tabulate (content_at form old) 64) line from
content_by codec form old new line from line_in has =
    let says : (i : ℕ) → i < 64 → content_at form new i ≡ with_line (content_at form old) line from i = λ (i : ℕ) (lt : i < 64). has_content codec form new i _ (has.has i lt) in
    tabulate-set [] (content_at form old) (content_at form new) 64 line from line_in
    (says line line_in ∙ with_line_same (content_at form old) line from line refl)
    (λ i lt ne. says i lt ∙ with_line_other (content_at form old) line from i ne)

-- the lines of a page whose lines stand one after another
pub raw_by : (old new : List ℕ) (line : ℕ) (from : List ℕ) → length old ≡ 4096 → line < 64 → ChangesWithin (64 * line) 64 old new → chunk new line ≡ from
    → tabulate (chunk new) 64 ≡ slice_set (tabulate (chunk old) 64) line from
raw_by old new line from whole line_in change there =
    tabulate-set [] (chunk old) (chunk new) 64 line from line_in there
    (λ i lt ne. part_stays (64 * line) 64 (64 * i) 64 old new change (omega arith) (elim (apart_of i line ne) [ inl a ↦ inl (omega arith) | inr b ↦ inr (omega arith) ]))
