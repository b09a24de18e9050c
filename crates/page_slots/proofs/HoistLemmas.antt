-- An exception that moves to another chunk.
use Rattle.std.proofs.Common.{◌≡◌, ℕ, ◌+◌, ◌-◌, ◌<◌, ◌≤◌, refl, sym, subst, arith, List, [], length, Some}
use Rattle.hier_types.specs.Tabulate.{tabulate}
use Rattle.hier_types.proofs.TableLemmas.{tabulate-same}
use Rattle.hier_types.specs.declared.settings.Codec.{Codec}
use Rattle.page_slots.specs.declared.desc.Slots.{Slots}
use Rattle.page_slots.specs.declared.form.Form.{Form}
use Rattle.page_slots.specs.Chunks.{count_in}
use Rattle.page_slots.specs.Forms.{form_of, IsForm}
use Rattle.page_slots.specs.Lines.{meta, chunk_of, content_at, HasLines}
use Rattle.page_slots.specs.Moves.{above_form, CanHoist}
use Rattle.page_slots.specs.Puts.{IsFree, PutsLine, with_line}
use Rattle.page_slots.specs.Sound.{HoldsSlots, IsSlotted}
use Rattle.page_slots.proofs.ChunkLemmas.{count_none, count_full}
use Rattle.page_slots.proofs.FormLemmas.{form_is}
use Rattle.page_slots.proofs.LineLemmas.{has_content}
use Rattle.page_slots.proofs.PutLemmas.{puts_lines, with_own_line}
use Rattle.page_slots.proofs.SoundLemmas.{has_own, others_of}

-- the page keeps its lines
pub hoisted : (codec : Codec) (form : Form) (line number : ℕ) (from old new : List ℕ) (lines : ℕ → List ℕ) → line < 64 → from ≡ lines line → HasLines codec form old lines → IsFree old number
    → PutsLine codec form line from (Some number) old new → HasLines codec form new lines
hoisted codec form line number from old new lines line_in e has free puts =
    with_own_line codec form new lines line (subst (λ (f : List ℕ). HasLines codec form new (with_line lines line f)) e
    (puts_lines codec form line from (Some number) old new lines line_in (others_of codec form old line lines has) (λ j j_in ne. free j j_in) puts))

-- slots up to another chunk of the block
pub above_is : (slots : Slots) (size above : ℕ) (form : Form) → form ≡ form_of slots → HoldsSlots slots size → (form_of slots).large ≤ above → 1 + above ≤ (form_of slots).chunks
    → IsForm (above_form form above) size
above_is slots size above form e holds le in_ =
    let is = form_is slots size holds in
    subst (λ (f : Form). IsForm (above_form f above) size) (sym e) (record { ordered = omega (arith, is.ordered); slots_in = in_; few = is.few; is_size = is.is_size })

pub hoist_sound : (codec : Codec) (slots : Slots) (old new : List ℕ) → length new ≡ length old → HoldsSlots slots (length old) → HasLines codec (form_of slots) new (content_at (form_of slots) old)
    → IsSlotted codec slots new
hoist_sound codec slots old new same holds has =
    record { holds = subst (HoldsSlots slots) (sym same) holds; lines = has_own codec (form_of slots) new (content_at (form_of slots) old) has }

pub hoist_content : (codec : Codec) (slots : Slots) (old new : List ℕ) → HasLines codec (form_of slots) new (content_at (form_of slots) old)
    → tabulate (content_at (form_of slots) new) 64 ≡ tabulate (content_at (form_of slots) old) 64
hoist_content codec slots old new has =
    tabulate-same [] (content_at (form_of slots) new) (content_at (form_of slots) old) 64
    (λ i i_in. has_content codec (form_of slots) new i (content_at (form_of slots) old i) (has.has i i_in))

-- an exception can move where one is counted below, and not all chunks above are counted
pub can_hoist : (form : Form) (low high above : ℕ) (bytes : List ℕ) → form.large ≤ above → 1 + above ≤ form.chunks → 1 ≤ count_in low high bytes 64
    → 1 + (above + count_in (1 + above) form.chunks bytes 64) < form.chunks → CanHoist form low high above bytes
can_hoist form low high above bytes le in_ some few = record {
  some = λ none. absurd (omega (arith, count_none low high bytes 64 (λ i i_in is from below. none (chunk_of (meta bytes i)) from below i i_in is refl)));
  large_in = le;
  above_in = in_;
  place = λ full. absurd (omega (arith, count_full (form.chunks - (1 + above)) (1 + above) form.chunks bytes (omega arith) (λ c from below. full c (omega arith) below)));
}
