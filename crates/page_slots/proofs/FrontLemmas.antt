-- A packed page in the first half of its block.
use Rattle.std.proofs.Common.{◌≡◌, ℕ, ◌+◌, ◌-◌, ◌*◌, ◌<◌, ◌≤◌, Bool, true, false, refl, ap, ◌∙◌, sym, subst, arith, List, [], length, get_or}
use Rattle.std.proofs.lemmas.Bool.Decides.{nat_tests}
use Rattle.hier_types.specs.declared.settings.Codec.{Codec}
use Rattle.hier_types.proofs.TableLemmas.{tabulate-same}
use Rattle.byte_parts.specs.Parts.{part}
use Rattle.byte_parts.proofs.PartLemmas.{length-part, get_or-part, parts_same}
use Rattle.line_codec.specs.Layout.{cap}
use Rattle.line_codec.specs.Slots.{fits, encoding, Begins}
use Rattle.page_slots.specs.declared.desc.Shape.TheVariants.{Slotted}
use Rattle.page_slots.specs.declared.desc.Slots.TheVariants.{Packed}
use Rattle.page_slots.specs.declared.form.Form.{Form}
use Rattle.page_slots.specs.Descs.{content_of}
use Rattle.page_slots.specs.Forms.{IsForm, form_of, room, slot_start}
use Rattle.page_slots.specs.Lines.{meta, chunk_of, chunk, slot, content_at, HasLine, HasLines, IsException, Stands}
use Rattle.page_slots.specs.Sound.{HoldsSlots, IsSlotted}
use Rattle.page_slots.proofs.FormLemmas.{form_is, slot_in_block}
use Rattle.page_slots.proofs.LineLemmas.{has_content}
use Rattle.page_slots.proofs.SoundLemmas.{has_own}

-- what stands in the front of a list
part_of_front : (at n m : ℕ) (bytes : List ℕ) → at + n ≤ m → m ≤ length bytes → part at n (part 0 m bytes) ≡ part at n bytes
part_of_front at n m bytes within front =
    parts_same at at n (part 0 m bytes) bytes (omega (arith, length-part 0 m bytes (omega arith))) (omega arith)
    (λ k d low. get_or-part 0 m bytes (at + k) d (omega arith) ∙ ap (λ (j : ℕ). get_or bytes j d) (omega arith))

pub byte_of_front : (i m : ℕ) (bytes : List ℕ) → i < m → meta (part 0 m bytes) i ≡ meta bytes i
byte_of_front i m bytes low = get_or-part 0 m bytes i 0 low ∙ ap (λ (j : ℕ). get_or bytes j 0) (omega arith)

front_stands : (codec : Codec) (f g : Form) (old new : List ℕ) (i : ℕ) (line : List ℕ) (fit : Bool) → meta new i ≡ meta old i → slot g new i ≡ slot f old i → g.large ≡ f.large
    → (128 ≤ meta old i → (chunk_of (meta old i) < g.chunks) × (chunk new (chunk_of (meta old i)) ≡ chunk old (chunk_of (meta old i))))
    → Stands codec f old i line fit → Stands codec g new i line fit
front_stands codec f g old new i line true byte slots large chunks h = record { marked = byte ∙ h.marked; begins = subst (Begins (encoding codec line)) (sym slots) h.begins }
front_stands codec f g old new i line false byte slots large chunks h =
    let own = chunks (omega (arith, h.marked)) in
    let P : ℕ → Type 0 = λ b. IsException g.large g.chunks b (chunk new (chunk_of b)) line in
    subst P (sym byte) (record { marked = h.marked; above = omega (arith, h.above); below = own.0; there = own.1 ∙ h.there })

room_same : (f g : Form) (i : ℕ) → g.large ≡ f.large → g.small ≡ f.small → g.at ≡ f.at → room g i ≡ room f i
unfolding room
room_same f g i large small at = rw (large, small, at) refl

slot_start_same : (f g : Form) (i : ℕ) → room g i ≡ room f i → slot_start g i ≡ slot_start f i
unfolding slot_start
slot_start_same f g i e = ap (λ (r : ℕ). 64 + r * i) e

-- a line of a page stands in the front of its block too, where its chunk lies there
front_line : (codec : Codec) (f g : Form) (m i : ℕ) (old : List ℕ) (line : List ℕ) → IsForm g m → m ≤ length old → i < 64 → g.large ≡ f.large → g.small ≡ f.small → g.at ≡ f.at
    → (128 ≤ meta old i → chunk_of (meta old i) < g.chunks) → HasLine codec f old i line → HasLine codec g (part 0 m old) i line
front_line codec f g m i old line is front i_in large small at below has =
    let same : room g i ≡ room f i = room_same f g i large small at in
    let places : slot_start g i ≡ slot_start f i = slot_start_same f g i same in
    let slots : slot g (part 0 m old) i ≡ slot f old i =
    part_of_front (slot_start g i) (room g i) m old (slot_in_block g m i (slot_start g i) (room g i) is i_in refl refl) front
    ∙ ap (λ (a : ℕ). part a (room g i) old) places ∙ ap (λ (r : ℕ). part (slot_start f i) r old) same in
    record {
      whole = has.whole;
      below = has.below;
      stands = front_stands codec f g old (part 0 m old) i line (fits codec (room g i) line) (byte_of_front i m old (omega (arith, is.is_size, is.slots_in))) slots large
          (λ high. (below high, part_of_front (64 * chunk_of (meta old i)) 64 m old (omega (arith, is.is_size, below high)) front))
          (subst (λ (r : ℕ). Stands codec f old i line (fits codec r line)) (sym same) has.stands);
    }

halved_lines : (codec : Codec) (k t : ℕ) (bytes : List ℕ) → IsSlotted codec (Packed k t) bytes → HoldsSlots (Packed (k - 1) t) (64 * cap (k - 1)) → 64 * cap (k - 1) ≤ length bytes
    → ((i : ℕ) → i < 64 → 128 ≤ meta bytes i → chunk_of (meta bytes i) < cap (k - 1))
    → HasLines codec (form_of (Packed (k - 1) t)) (part 0 (64 * cap (k - 1)) bytes) (content_at (form_of (Packed k t)) bytes)
halved_lines codec k t bytes sound holds front below =
    let m = 64 * cap (k - 1) in
    let is = form_is (Packed (k - 1) t) m holds in
    let byte : (i : ℕ) → i < 64 → meta (part 0 m bytes) i ≡ meta bytes i = λ (i : ℕ) (l : i < 64). byte_of_front i m bytes (omega (arith, is.is_size, is.slots_in)) in
    record {
      has = λ i i_in. front_line codec (form_of (Packed k t)) (form_of (Packed (k - 1) t)) m i bytes (content_at (form_of (Packed k t)) bytes i) is front i_in refl refl refl (below i i_in) (sound.lines.has i i_in);
      apart = λ i i_in high j j_in ne high'.
          rw (byte i i_in, byte j j_in) (sound.lines.apart i i_in (rw (byte i i_in) at high) j j_in ne (rw (byte j j_in) at high'));
    }

cap_halves : (k : ℕ) → 1 ≤ k → k ≤ 2 → cap (k - 1) ≤ cap k
cap_halves k low few = grind (arith, nat_tests)

-- where all that the page needs lies there, the page is sound without the other half, and has the same lines
pub record FitsHalf (codec : Codec) (k t : ℕ) (bytes : List ℕ) : Type 0 where
  pub sound : IsSlotted codec (Packed (k - 1) t) (part 0 (64 * cap (k - 1)) bytes)
  pub content : content_of (Slotted (Packed (k - 1) t)) (part 0 (64 * cap (k - 1)) bytes) ≡ content_of (Slotted (Packed k t)) bytes

pub halved : (codec : Codec) (k t : ℕ) (bytes : List ℕ) → IsSlotted codec (Packed k t) bytes → 1 ≤ k → 1 + t ≤ cap (k - 1)
    → ((i : ℕ) → i < 64 → 128 ≤ meta bytes i → chunk_of (meta bytes i) < cap (k - 1)) → FitsHalf codec k t bytes
halved codec k t bytes sound low slots below =
    let m = 64 * cap (k - 1) in
    let front : m ≤ length bytes = omega (arith, sound.holds.is_size, cap_halves k low sound.holds.order_in) in
    let holds : HoldsSlots (Packed (k - 1) t) m = record { order_in = omega (arith, sound.holds.order_in); targets = sound.holds.targets; slots_in = slots; is_size = refl } in
    let same : length (part 0 m bytes) ≡ m = length-part 0 m bytes (omega arith) in
    let has = halved_lines codec k t bytes sound holds front below in
    record {
      sound = record { holds = subst (HoldsSlots (Packed (k - 1) t)) (sym same) holds; lines = has_own codec (form_of (Packed (k - 1) t)) (part 0 m bytes) (content_at (form_of (Packed k t)) bytes) has };
      content = tabulate-same [] (content_at (form_of (Packed (k - 1) t)) (part 0 m bytes)) (content_at (form_of (Packed k t)) bytes) 64
          (λ i i_in. has_content codec (form_of (Packed (k - 1) t)) (part 0 m bytes) i (content_at (form_of (Packed k t)) bytes i) (has.has i i_in));
    }
