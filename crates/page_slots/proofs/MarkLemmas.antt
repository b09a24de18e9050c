-- What moves do to the metadata.
use Rattle.std.proofs.Common.{◌≡◌, ℕ, ◌+◌, ◌*◌, ◌<◌, ◌≤◌, ◌≢◌, Bool, true, false, true≢false, refl, ap, ◌∙◌, sym, subst, arith, inl, inr, List, length}
use Rattle.std.specs.Prelude.{slice_set}
use Rattle.std.proofs.lemmas.Bool.{cases_lt}
use Rattle.std.proofs.lemmas.List.{length-set, get_or-set_same, get_or-set_other, places}
use Rattle.byte_parts.specs.Parts.{written}
use Rattle.hier_types.specs.declared.settings.Codec.{Codec}
use Rattle.line_codec.specs.Slots.{encoding, fits, padded}
use Rattle.page_slots.specs.declared.desc.Slots.{Slots}
use Rattle.page_slots.specs.declared.form.Form.{Form}
use Rattle.page_slots.specs.declared.moving.Step.{Step}
use Rattle.page_slots.specs.Forms.{form_of, IsForm, room, slot_start}
use Rattle.page_slots.specs.Lines.{meta, chunk_of, mark, content_at}
use Rattle.page_slots.specs.Moves.{next_down, form_down, CanMoveDown, step_down, next_up, form_up, CanMoveUp, step_up, IsStep, above_form, IsLowestIn, Hoists}
use Rattle.page_slots.specs.Puts.{IsLowestFree, in_slot, in_chunk, GoesToPlace}
use Rattle.page_slots.specs.Sound.{IsSlotted}
use Rattle.page_slots.proofs.FormLemmas.{slot_low, slot_within}
use Rattle.page_slots.proofs.LineLemmas.{mark_le}
use Rattle.page_slots.proofs.PutLemmas.{chunk_of_byte}
use Rattle.page_slots.proofs.ShiftLemmas.{step_down_is}
use Rattle.page_slots.proofs.StepLemmas.{step_chunk}
use Rattle.page_slots.proofs.UpLemmas.{step_up_is}

-- the metadata of one line is set, and that of the others stays
record SetsMeta (line v : ℕ) (old new : List ℕ) : Type 0 where
  here : meta new line ≡ v
  others : (i : ℕ) → i < 64 → i ≢ line → meta new i ≡ meta old i

meta_written : (at i : ℕ) (bytes old : List ℕ) → at ≤ length old → i < at → meta (written at bytes old) i ≡ meta old i
meta_written at i bytes old within low = grind (arith, places)

-- bytes are written behind the metadata, and then that of a line
sets_by : (line at v : ℕ) (bytes old new : List ℕ) → length new ≡ length old → line < 64 → 64 ≤ at → at ≤ length old → new ≡ slice_set (written at bytes old) line v → SetsMeta line v old new
sets_by line at v bytes old new same line_in low within e =
    let mid = written at bytes old in
    let long : length mid ≡ length old = sym (length-set mid line v) ∙ sym (ap length e) ∙ same in
    record {
      here = ap (λ (b : List ℕ). meta b line) e ∙ get_or-set_same mid line v 0 (omega arith);
      others = λ i i_in ne. ap (λ (b : List ℕ). meta b i) e ∙ get_or-set_other mid line i v 0 ne ∙ meta_written at i bytes old within (omega arith);
    }

sets_slot : (codec : Codec) (form : Form) (line : ℕ) (from old new : List ℕ) → IsForm form (length old) → length new ≡ length old → line < 64
    → new ≡ in_slot codec form line from old → SetsMeta line (mark from) old new
sets_slot codec form line from old new is same line_in e =
    sets_by line (slot_start form line) (mark from) (padded (room form line) (encoding codec from)) old new same line_in (slot_low form line)
    (omega (arith, is.is_size, is.slots_in, slot_within form (length old) line is line_in)) e

sets_chunk : (form : Form) (line number : ℕ) (from old new : List ℕ) → IsForm form (length old) → length new ≡ length old → line < 64 → 0 < number → number < form.chunks
    → new ≡ in_chunk line from number old → SetsMeta line (128 + mark from + number) old new
sets_chunk form line number from old new is same line_in above below e =
    sets_by line (64 * number) (128 + mark from + number) from old new same line_in (omega arith) (omega (arith, is.is_size)) e

-- what the metadata says once the line went to its place
pub record MarksRight (codec : Codec) (form : Form) (line : ℕ) (from old new : List ℕ) : Type 0 where
  pub same_length : length new ≡ length old
  pub in_slot : fits codec (room form line) from ≡ true → meta new line < 128
  pub in_its_chunk : fits codec (room form line) from ≡ false → 128 ≤ meta old line → meta new line ≡ 128 + mark from + chunk_of (meta old line)
  pub in_lowest : fits codec (room form line) from ≡ false → meta old line < 128 → (128 ≤ meta new line) × IsLowestFree form old (chunk_of (meta new line))
  pub others : (i : ℕ) → i < 64 → i ≢ line → meta new i ≡ meta old i

marks_by : (codec : Codec) (form : Form) (line : ℕ) (from old new : List ℕ) (fit : Bool) → fits codec (room form line) from ≡ fit → IsForm form (length old) → length new ≡ length old → line < 64
    → (128 ≤ meta old line → (form.large < chunk_of (meta old line)) × (chunk_of (meta old line) < form.chunks))
    → GoesToPlace codec form line from old new → MarksRight codec form line from old new
marks_by codec form line from old new true e is same line_in chunk_in right =
    let sets = sets_slot codec form line from old new is same line_in (right.where_it_fits e) in
    record {
      same_length = same;
      in_slot = λ q. omega (arith, sets.here, mark_le from);
      in_its_chunk = λ q. absurd (true≢false (sym e ∙ q));
      in_lowest = λ q. absurd (true≢false (sym e ∙ q));
      others = sets.others;
    }
marks_by codec form line from old new false e is same line_in chunk_in right = elim (cases_lt (meta old line) 128) [
  | inl low ↦
      let went = right.in_lowest e low in
      let lowest : IsLowestFree form old went.0 = went.1.0 in
      let sets = sets_chunk form line went.0 from old new is same line_in (omega (arith, lowest.above)) lowest.below went.1.1 in
      let name : chunk_of (meta new line) ≡ went.0 = ap chunk_of sets.here ∙ chunk_of_byte from went.0 (omega (arith, lowest.below, is.few)) in
      record {
        same_length = same;
        in_slot = λ q. absurd (true≢false (sym q ∙ e));
        in_its_chunk = λ q high. absurd (omega arith);
        in_lowest = λ q l. (omega (arith, sets.here), subst (IsLowestFree form old) (sym name) lowest);
        others = sets.others;
      }
  | inr high ↦
      let own = chunk_in high in
      let sets = sets_chunk form line (chunk_of (meta old line)) from old new is same line_in (omega (arith, own.0)) own.1 (right.in_its_chunk e high) in
      record {
        same_length = same;
        in_slot = λ q. absurd (true≢false (sym q ∙ e));
        in_its_chunk = λ q h. sets.here;
        in_lowest = λ q low. absurd (omega arith);
        others = sets.others;
      }
]

pub marks_right : (codec : Codec) (form : Form) (line : ℕ) (from old new : List ℕ) → IsForm form (length old) → length new ≡ length old → line < 64
    → (128 ≤ meta old line → (form.large < chunk_of (meta old line)) × (chunk_of (meta old line) < form.chunks))
    → GoesToPlace codec form line from old new → MarksRight codec form line from old new
marks_right codec form line from old new = marks_by codec form line from old new (fits codec (room form line) from) refl

marks_step : (codec : Codec) (slots : Slots) (step : Step) (old new : List ℕ) → length new ≡ length old → IsStep slots old step → IsSlotted codec slots old
    → GoesToPlace codec step.after step.line (content_at (form_of slots) old step.line) old new
    → MarksRight codec step.after step.line (content_at (form_of slots) old step.line) old new
marks_step codec slots step old new same is sound right =
    marks_right codec step.after step.line (content_at (form_of slots) old step.line) old new is.is_form same is.line_in (step_chunk codec slots old step is sound) right

-- what it says after a shift
pub marks_down : (codec : Codec) (slots : Slots) (small : ℕ) (old new : List ℕ) → length new ≡ length old → CanMoveDown slots small → IsSlotted codec slots old
    → GoesToPlace codec (form_down slots small) (next_down slots) (content_at (form_of slots) old (next_down slots)) old new
    → MarksRight codec (form_down slots small) (next_down slots) (content_at (form_of slots) old (next_down slots)) old new
marks_down codec slots small old new same can sound right =
    marks_step codec slots (step_down slots small) old new same (step_down_is slots small old can sound.holds) sound right

pub marks_up : (codec : Codec) (slots : Slots) (large : ℕ) (old new : List ℕ) → length new ≡ length old → CanMoveUp slots large old → IsSlotted codec slots old
    → GoesToPlace codec (form_up slots large) (next_up slots) (content_at (form_of slots) old (next_up slots)) old new
    → MarksRight codec (form_up slots large) (next_up slots) (content_at (form_of slots) old (next_up slots)) old new
marks_up codec slots large old new same can sound right =
    marks_step codec slots (step_up slots large) old new same (step_up_is slots large old can sound.holds) sound right

-- what it says once an exception went to another chunk
pub record MarksHoist (form : Form) (low high above : ℕ) (old new : List ℕ) : Type 0 where
  pub same_length : length new ≡ length old
  pub line : ℕ
  pub taken : IsLowestIn old low high line
  pub is_exception : 128 ≤ meta new line
  pub to : IsLowestFree (above_form form above) old (chunk_of (meta new line))
  pub others : (i : ℕ) → i < 64 → i ≢ line → meta new i ≡ meta old i

pub marks_hoist : (form : Form) (low high above : ℕ) (old new : List ℕ) → IsForm form (length old) → length new ≡ length old
    → Hoists form low high above old new → MarksHoist form low high above old new
marks_hoist form low high above old new is same hoists =
    let sets = sets_chunk form hoists.line hoists.number (content_at form old hoists.line) old new is same hoists.taken.line_in (omega (arith, hoists.to.above)) hoists.to.below hoists.value in
    let name : chunk_of (meta new hoists.line) ≡ hoists.number =
    ap chunk_of sets.here ∙ chunk_of_byte (content_at form old hoists.line) hoists.number (omega (arith, hoists.to.below, is.few)) in
    record {
      same_length = same;
      line = hoists.line;
      taken = hoists.taken;
      is_exception = omega (arith, sets.here);
      to = subst (IsLowestFree (above_form form above) old) (sym name) hoists.to;
      others = sets.others;
    }
