-- A page whose next line moves to a slot of another length.
use Rattle.std.proofs.Common.{◌≡◌, ℕ, ◌<◌, ◌≤◌, refl, sym, subst, arith, List, [], length}
use Rattle.hier_types.specs.Tabulate.{tabulate}
use Rattle.hier_types.proofs.TableLemmas.{tabulate-same}
use Rattle.hier_types.specs.declared.settings.Codec.{Codec}
use Rattle.page_slots.specs.declared.desc.Slots.{Slots}
use Rattle.page_slots.specs.declared.form.Form.{Form}
use Rattle.page_slots.specs.declared.moving.Step.{Step}
use Rattle.page_slots.specs.declared.putting.PutResult.{PutResult}
use Rattle.page_slots.specs.declared.putting.PutResult.TheVariants.{Done, Overflow}
use Rattle.page_slots.specs.Forms.{form_of}
use Rattle.page_slots.specs.Lines.{meta, chunk_of, content_at, HasLines, HasOthers}
use Rattle.page_slots.specs.Moves.{IsStep}
use Rattle.page_slots.specs.Puts.{HasNoPlace, with_line}
use Rattle.page_slots.specs.Sound.{HoldsSlots, IsSlotted}
use Rattle.page_slots.proofs.LineLemmas.{has_content, exception_of, line_in_form}
use Rattle.page_slots.proofs.PutLemmas.{with_own_line}
use Rattle.page_slots.proofs.SoundLemmas.{has_own}

-- the lines that the page has once one of them is put into its place again
pub moved_lines : (codec : Codec) (form : Form) (old new : List ℕ) (line : ℕ) (from : List ℕ) (lines : ℕ → List ℕ) (result : PutResult) → from ≡ lines line → HasOthers codec form old line lines
    → (result ≡ Done → (others : ℕ → List ℕ) → HasOthers codec form old line others → HasLines codec form new (with_line others line from))
    → (result ≡ Overflow → HasNoPlace codec form old line from) → (HasNoPlace codec form old line (lines line) → ⊥) → HasLines codec form new lines
moved_lines codec form old new line from lines Done e others done over has_place =
    with_own_line codec form new lines line (subst (λ (f : List ℕ). HasLines codec form new (with_line lines line f)) e (done refl lines others))
moved_lines codec form old new line from lines Overflow e others done over has_place =
    absurd (has_place (subst (HasNoPlace codec form old line) e (over refl)))

pub step_others : (codec : Codec) (slots : Slots) (bytes : List ℕ) (step : Step) (before : Form) → before ≡ form_of slots → IsStep slots bytes step → IsSlotted codec slots bytes
    → HasOthers codec step.after bytes step.line (content_at before bytes)
step_others codec slots bytes step before e is sound = subst (λ (b : Form). HasOthers codec step.after bytes step.line (content_at b bytes)) (sym e) (record {
  has = λ i i_in ne. line_in_form codec (form_of slots) step.after bytes i (content_at (form_of slots) bytes i) (is.rooms_stay i i_in ne) is.chunks_stay
      (λ high above. is.above i i_in high above) (sound.lines.has i i_in);
  apart = sound.lines.apart;
})

pub step_chunk : (codec : Codec) (slots : Slots) (bytes : List ℕ) (step : Step) → IsStep slots bytes step → IsSlotted codec slots bytes
    → 128 ≤ meta bytes step.line → (step.after.large < chunk_of (meta bytes step.line)) × (chunk_of (meta bytes step.line) < step.after.chunks)
step_chunk codec slots bytes step is sound high =
    let own = exception_of codec (form_of slots) bytes step.line (content_at (form_of slots) bytes step.line) (sound.lines.has step.line is.line_in) high in
    (is.above step.line is.line_in high own.0, omega (arith, own.1, is.chunks_stay))

-- the lines that the page has after the step
step_lines : (codec : Codec) (slots : Slots) (old new : List ℕ) (step : Step) (before : Form) → before ≡ form_of slots → IsStep slots old step
    → HasLines codec step.after new (content_at before old) → HasLines codec (form_of step.next) new (content_at (form_of slots) old)
step_lines codec slots old new step before e is has =
    let has' : HasLines codec step.after new (content_at (form_of slots) old) = subst (λ (b : Form). HasLines codec step.after new (content_at b old)) e has in
    record {
      has = λ i i_in. line_in_form codec step.after (form_of step.next) new i (content_at (form_of slots) old i) (is.rooms_are i i_in) is.chunks_are
          (λ high above. omega (arith, is.not_higher, above)) (has'.has i i_in);
      apart = has'.apart;
    }

pub step_sound : (codec : Codec) (slots : Slots) (old new : List ℕ) (step : Step) (before : Form) → before ≡ form_of slots → length new ≡ length old → IsStep slots old step
    → HasLines codec step.after new (content_at before old) → IsSlotted codec step.next new
step_sound codec slots old new step before e same is has = record {
  holds = subst (HoldsSlots step.next) (sym same) is.holds;
  lines = has_own codec (form_of step.next) new (content_at (form_of slots) old) (step_lines codec slots old new step before e is has);
}

pub step_content : (codec : Codec) (slots : Slots) (old new : List ℕ) (step : Step) (before : Form) → before ≡ form_of slots → IsStep slots old step
    → HasLines codec step.after new (content_at before old) → tabulate (content_at (form_of step.next) new) 64 ≡ tabulate (content_at (form_of slots) old) 64
step_content codec slots old new step before e is has =
    tabulate-same [] (content_at (form_of step.next) new) (content_at (form_of slots) old) 64
    (λ i i_in. has_content codec (form_of step.next) new i (content_at (form_of slots) old i) ((step_lines codec slots old new step before e is has).has i i_in))
