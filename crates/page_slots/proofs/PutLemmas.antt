-- A line that is put, and those that stay.
use Rattle.std.proofs.Common.{true≢false, ◌≡◌, ℕ, ◌+◌, ◌*◌, ◌<◌, ◌≤◌, ◌≢◌, All, Bool, true, false, refl, ap, ◌∙◌, sym, subst, arith, inl, inr, List, length, get_or, take, Option, Some, None}
use Rattle.std.specs.Prelude.{slice_set}
use Rattle.std.proofs.lemmas.Bool.Decides.{nat_tests}
use Rattle.std.proofs.lemmas.Bool.{cases_eq}
use Rattle.std.proofs.lemmas.List.{get_or-set_same, get_or-set_other, length-set, take_at}
use Rattle.hier_types.specs.declared.settings.Codec.{Codec}
use Rattle.line_codec.specs.Slots.{encoding, fits, padded, Begins}
use Rattle.byte_parts.specs.Parts.{part, ChangesWithin}
use Rattle.byte_parts.proofs.PartLemmas.{part_stays}
use Rattle.page_slots.specs.declared.form.Form.{Form}
use Rattle.page_slots.specs.Forms.{IsForm, room, slot_start, Apart}
use Rattle.page_slots.specs.Lines.{meta, chunk_of, chunk, slot, mark, IsException, Stands, HasLine, HasLines, HasOthers}
use Rattle.page_slots.specs.Puts.{IsTaken, IsLowestFree, HasNoPlace, GoesToPlace, Misses, PutsLine, with_line, in_slot, in_chunk}
use Rattle.page_slots.proofs.FormLemmas.{apart_of, slot_low, slot_within, slots_apart}
use Rattle.page_slots.proofs.LineLemmas.{mark_le}

-- what is written into a slot begins with what it is made of
pub padded_begins : (room : ℕ) (front slot : List ℕ) → slot ≡ padded room front → Begins front slot
padded_begins room front slot e = ap (take (length front)) e ∙ take_at front _ (length front) refl

-- a byte of metadata
set_changes : (at v : ℕ) (old : List ℕ) → ChangesWithin at 1 old (slice_set old at v)
set_changes at v old = record {
  same_length = length-set old at v;
  others = λ i d apart. get_or-set_other old at i v d (elim apart [ inl a ↦ omega arith | inr b ↦ omega arith ]);
}

meta_stays : (at n i : ℕ) (old new : List ℕ) → ChangesWithin at n old new → Apart i 1 at n → meta new i ≡ meta old i
meta_stays at n i old new change apart = change.others i 0 (elim apart [ inl a ↦ inl (omega arith) | inr b ↦ inr b ])

-- what stands in a line stays with its metadata, its slot and its chunk
stands_stay : (codec : Codec) (form : Form) (old new : List ℕ) (i : ℕ) (line : List ℕ) (fit : Bool) → meta new i ≡ meta old i → slot form new i ≡ slot form old i
    → (128 ≤ meta old i → form.large < chunk_of (meta old i) → chunk_of (meta old i) < form.chunks → chunk new (chunk_of (meta old i)) ≡ chunk old (chunk_of (meta old i)))
    → Stands codec form old i line fit → Stands codec form new i line fit
stands_stay codec form old new i line true byte slots chunks h =
    record { marked = byte ∙ h.marked; begins = subst (Begins (encoding codec line)) (sym slots) h.begins }
stands_stay codec form old new i line false byte slots chunks h =
    let high : 128 ≤ meta old i = omega (arith, h.marked) in
    let P : ℕ → Type 0 = λ b. IsException form.large form.chunks b (chunk new (chunk_of b)) line in
    subst P (sym byte) (record { marked = h.marked; above = h.above; below = h.below; there = chunks high h.above h.below ∙ h.there })

metas_stay : (at n line v i : ℕ) (old mid new : List ℕ) → 64 ≤ at → i < 64 → i ≢ line → ChangesWithin at n old mid → new ≡ slice_set mid line v → meta new i ≡ meta old i
metas_stay at n line v i old mid new low i_in ne change e =
    ap (λ (b : List ℕ). meta b i) e
    ∙ meta_stays line 1 i mid (slice_set mid line v) (set_changes line v mid) (elim (apart_of i line ne) [ inl a ↦ inl (omega arith) | inr b ↦ inr (omega arith) ])
    ∙ meta_stays at n i old mid change (inl (omega arith))

-- a write to n bytes behind the metadata, and then to the metadata of another line
line_stays : (codec : Codec) (form : Form) (old mid new : List ℕ) (line at n v i : ℕ) (other : List ℕ) → IsForm form (length old) → line < 64 → i < 64 → i ≢ line
    → 64 ≤ at → ChangesWithin at n old mid → new ≡ slice_set mid line v
    → Apart (slot_start form i) (room form i) at n
    → (128 ≤ meta old i → form.large < chunk_of (meta old i) → Apart (64 * chunk_of (meta old i)) 64 at n)
    → HasLine codec form old i other → HasLine codec form new i other
line_stays codec form old mid new line at n v i other is line_in i_in ne low change e slots chunks has =
    let far : (a m : ℕ) → 64 ≤ a → a + m ≤ length old → Apart a m at n → part a m new ≡ part a m old =
    λ (a : ℕ) (m : ℕ) (h : 64 ≤ a) (w : a + m ≤ length old) (p : Apart a m at n). ap (part a m) e
    ∙ part_stays line 1 a m mid (slice_set mid line v) (set_changes line v mid) (omega (arith, change.same_length)) (inr (omega arith))
    ∙ part_stays at n a m old mid change w p in
    record {
      whole = has.whole;
      below = has.below;
      stands = stands_stay codec form old new i other (fits codec (room form i) other) (metas_stay at n line v i old mid new low i_in ne change e)
          (far (slot_start form i) (room form i) (slot_low form i) (omega (arith, is.is_size, is.slots_in, slot_within form (length old) i is i_in)) slots)
          (λ high above below. far (64 * chunk_of (meta old i)) 64 (omega arith) (omega (arith, is.is_size)) (chunks high above)) has.stands;
    }

meta_put : (line v : ℕ) (mid new : List ℕ) → line < length mid → new ≡ slice_set mid line v → meta new line ≡ v
meta_put line v mid new within e = ap (λ (b : List ℕ). get_or b line 0) e ∙ get_or-set_same mid line v 0 within

parts_put : (a m line v : ℕ) (mid new : List ℕ) → line < a → a + m ≤ length mid → new ≡ slice_set mid line v → part a m new ≡ part a m mid
parts_put a m line v mid new low within e =
    ap (part a m) e ∙ part_stays line 1 a m mid (slice_set mid line v) (set_changes line v mid) within (inr (omega arith))

put_in_slot : (codec : Codec) (form : Form) (old mid new : List ℕ) (line : ℕ) (from : List ℕ) → IsForm form (length old) → line < 64 → length from ≡ 64 → All (λ byte. byte < 256) from
    → fits codec (room form line) from ≡ true → ChangesWithin (slot_start form line) (room form line) old mid → Begins (encoding codec from) (slot form mid line)
    → new ≡ slice_set mid line (mark from) → PutsLine codec form line from None old new
put_in_slot codec form old mid new line from is line_in whole small fit change begins e =
    let within = slot_within form (length old) line is line_in in
    let byte : meta new line ≡ mark from = meta_put line (mark from) mid new (omega (arith, is.is_size, is.slots_in, change.same_length)) e in
    let slots : slot form new line ≡ slot form mid line = parts_put (slot_start form line) (room form line) line (mark from) mid new
    (omega (arith, slot_low form line)) (omega (arith, is.is_size, is.slots_in, change.same_length, within)) e in
    record {
      same_length = ap length e ∙ length-set mid line (mark from) ∙ change.same_length;
      here = record {
        whole = whole;
        below = small;
        stands = subst (Stands codec form new line from) (sym fit) (record { marked = byte; begins = subst (Begins (encoding codec from)) (sym slots) begins });
      };
      byte = byte;
      clash = λ b high misses above. absurd (omega (arith, mark_le from));
      bytes_stay = λ i i_in ne. metas_stay (slot_start form line) (room form line) line (mark from) i old mid new (slot_low form line) i_in ne change e;
      lines_stay = λ i other i_in ne misses has. line_stays codec form old mid new line (slot_start form line) (room form line) (mark from) i other is line_in i_in ne
          (slot_low form line) change e (slots_apart form (length old) i line is ne)
          (λ high above. inr (omega (arith, within))) has;
    }

-- at the place that the code found
pub put_in_slot_at : (codec : Codec) (form : Form) (old mid : List ℕ) (line start n v : ℕ) (from : List ℕ) → IsForm form (length old) → line < 64 → length from ≡ 64 → All (λ byte. byte < 256) from
    → start ≡ slot_start form line → n ≡ room form line → v ≡ mark from
    → fits codec n from ≡ true → ChangesWithin start n old mid → Begins (encoding codec from) (part start n mid)
    → PutsLine codec form line from None old (slice_set mid line v)
put_in_slot_at codec form old mid line start n v from is line_in whole small e f g fit change begins =
    put_in_slot codec form old mid (slice_set mid line v) line from is line_in whole small
    (rw f at fit)
    (subst (λ (k : ℕ). ChangesWithin (slot_start form line) k old mid) f (subst (λ (k : ℕ). ChangesWithin k n old mid) e change))
    (subst (λ (k : ℕ). Begins (encoding codec from) (part (slot_start form line) k mid)) f (subst (λ (k : ℕ). Begins (encoding codec from) (part k n mid)) e begins))
    (ap (slice_set mid line) g)

pub chunk_of_byte : (line : List ℕ) (number : ℕ) → number < 64 → chunk_of (128 + mark line + number) ≡ number
unfolding mark
chunk_of_byte line number few = grind (arith, nat_tests)

pub put_in_chunk : (codec : Codec) (form : Form) (old mid new : List ℕ) (line number : ℕ) (from : List ℕ) → IsForm form (length old) → line < 64 → length from ≡ 64 → All (λ byte. byte < 256) from
    → fits codec (room form line) from ≡ false → form.large < number → number < form.chunks → ChangesWithin (64 * number) 64 old mid → chunk mid number ≡ from
    → new ≡ slice_set mid line (128 + mark from + number) → PutsLine codec form line from (Some number) old new
put_in_chunk codec form old mid new line number from is line_in whole small unfit above below change there e =
    let byte : meta new line ≡ 128 + mark from + number = meta_put line (128 + mark from + number) mid new (omega (arith, is.is_size, is.slots_in, change.same_length)) e in
    let name : chunk_of (meta new line) ≡ number = ap chunk_of byte ∙ chunk_of_byte from number (omega (arith, is.few)) in
    let low : 64 ≤ 64 * number = omega arith in
    let chunks : chunk new number ≡ chunk mid number = parts_put (64 * number) 64 line (128 + mark from + number) mid new
    (omega arith) (omega (arith, is.is_size, change.same_length)) e in
    record {
      same_length = ap length e ∙ length-set mid line (128 + mark from + number) ∙ change.same_length;
      here = record {
        whole = whole;
        below = small;
        stands = subst (Stands codec form new line from) (sym unfit) (record {
          marked = omega arith;
          above = omega arith;
          below = omega arith;
          there = ap (chunk new) name ∙ chunks ∙ there;
        });
      };
      byte = byte;
      clash = λ b high misses above. rw name (misses high);
      bytes_stay = λ i i_in ne. metas_stay (64 * number) 64 line (128 + mark from + number) i old mid new low i_in ne change e;
      lines_stay = λ i other i_in ne misses has. line_stays codec form old mid new line (64 * number) 64 (128 + mark from + number) i other is line_in i_in ne
          low change e (inl (omega (arith, slot_within form (length old) i is i_in)))
          (λ high over. elim (apart_of (chunk_of (meta old i)) number (misses high)) [ inl a ↦ inl (omega arith) | inr b ↦ inr (omega arith) ]) has;
    }

pub with_line_same : (lines : ℕ → List ℕ) (line : ℕ) (from : List ℕ) (i : ℕ) → i ≡ line → with_line lines line from i ≡ from
with_line_same lines line from i e = grind (arith, nat_tests)

pub with_line_other : (lines : ℕ → List ℕ) (line : ℕ) (from : List ℕ) (i : ℕ) → i ≢ line → with_line lines line from i ≡ lines i
with_line_other lines line from i ne = grind (arith, nat_tests)

-- a page in which one line is put has the others still
pub puts_lines : (codec : Codec) (form : Form) (line : ℕ) (from : List ℕ) (taken : Option ℕ) (old new : List ℕ) (lines : ℕ → List ℕ) → line < 64
    → HasOthers codec form old line lines → ((j : ℕ) → j < 64 → j ≢ line → Misses taken (meta old j)) → PutsLine codec form line from taken old new
    → HasLines codec form new (with_line lines line from)
puts_lines codec form line from taken old new lines line_in has fresh puts = record {
  has = λ i i_in. elim (cases_eq i line) [
    | inl e ↦ subst (HasLine codec form new i) (sym (with_line_same lines line from i e)) (subst (λ (k : ℕ). HasLine codec form new k from) (sym e) puts.here)
    | inr ne ↦ subst (HasLine codec form new i) (sym (with_line_other lines line from i ne)) (puts.lines_stay i (lines i) i_in ne (fresh i i_in ne) (has.has i i_in ne))
  ];
  apart = λ i i_in high j j_in ne high'. elim (cases_eq i line) [
    | inl e ↦
        let other : j ≢ line = λ (q : j ≡ line). ne (q ∙ sym e) in
        let same = puts.bytes_stay j j_in other in
        rw (same, e) (puts.clash (meta old j) (rw same at high') (fresh j j_in other) (rw e at high))
    | inr other ↦
        let same = puts.bytes_stay i i_in other in
        elim (cases_eq j line) [
          | inl f ↦ λ q. puts.clash (meta old i) (rw same at high) (fresh i i_in other) (rw f at high') (sym (ap chunk_of same) ∙ sym q ∙ ap (λ (k : ℕ). chunk_of (meta new k)) f)
          | inr third ↦
              let same' = puts.bytes_stay j j_in third in
              rw (same, same') (has.apart i i_in (rw same at high) j j_in ne (rw same' at high'))
        ]
  ];
}

-- a line that is put in its own place again leaves the lines as they were
pub with_own_line : (codec : Codec) (form : Form) (bytes : List ℕ) (lines : ℕ → List ℕ) (line : ℕ) → HasLines codec form bytes (with_line lines line (lines line)) → HasLines codec form bytes lines
with_own_line codec form bytes lines line has = record {
  has = λ i i_in. elim (cases_eq i line) [
    | inl e ↦ subst (HasLine codec form bytes i) (with_line_same lines line (lines line) i e ∙ ap lines (sym e)) (has.has i i_in)
    | inr ne ↦ subst (HasLine codec form bytes i) (with_line_other lines line (lines line) i ne) (has.has i i_in)
  ];
  apart = has.apart;
}

-- the line that is put into its slot
pub done_slot : (codec : Codec) (form : Form) (line : ℕ) (from old new : List ℕ) (lines : ℕ → List ℕ) → line < 64 → HasOthers codec form old line lines
    → PutsLine codec form line from None old new → HasLines codec form new (with_line lines line from)
done_slot codec form line from old new lines line_in has puts = puts_lines codec form line from None old new lines line_in has (λ j j_in ne. tt) puts

-- the line that is put into the chunk that it has
pub done_chunk : (codec : Codec) (form : Form) (line number : ℕ) (from old mid new : List ℕ) (lines : ℕ → List ℕ) → line < 64 → mid ≡ old → 128 ≤ meta mid line → number ≡ chunk_of (meta mid line)
    → HasOthers codec form old line lines → PutsLine codec form line from (Some number) mid new → HasLines codec form new (with_line lines line from)
done_chunk codec form line number from old mid new lines line_in e high is has puts =
    let has' : HasOthers codec form mid line lines = subst (λ (b : List ℕ). HasOthers codec form b line lines) (sym e) has in
    puts_lines codec form line from (Some number) mid new lines line_in has' (λ j j_in ne high'. rw is (has'.apart line line_in high j j_in ne high')) puts

-- the line that is put into a free chunk
pub done_lowest : (codec : Codec) (form : Form) (line number : ℕ) (from old mid new : List ℕ) (lines : ℕ → List ℕ) → line < 64 → mid ≡ old → IsLowestFree form mid number
    → HasOthers codec form old line lines → PutsLine codec form line from (Some number) mid new → HasLines codec form new (with_line lines line from)
done_lowest codec form line number from old mid new lines line_in e lowest has puts =
    puts_lines codec form line from (Some number) mid new lines line_in (subst (λ (b : List ℕ). HasOthers codec form b line lines) (sym e) has)
    (λ j j_in ne. lowest.free j j_in) puts

pub right_slot : (codec : Codec) (form : Form) (line : ℕ) (from old new : List ℕ) → fits codec (room form line) from ≡ true → new ≡ in_slot codec form line from old → GoesToPlace codec form line from old new
right_slot codec form line from old new fit is = record {
  where_it_fits = λ e. is;
  in_its_chunk = λ e. absurd (true≢false (sym fit ∙ e));
  in_lowest = λ e. absurd (true≢false (sym fit ∙ e));
}

pub right_chunk : (codec : Codec) (form : Form) (line number : ℕ) (from old mid new : List ℕ) → fits codec (room form line) from ≡ false → mid ≡ old → 128 ≤ meta mid line → number ≡ chunk_of (meta mid line)
    → new ≡ in_chunk line from number mid → GoesToPlace codec form line from old new
right_chunk codec form line number from old mid new unfit e high named is =
    let byte : meta mid line ≡ meta old line = ap (λ (b : List ℕ). meta b line) e in
    record {
      where_it_fits = λ q. absurd (true≢false (sym q ∙ unfit));
      in_its_chunk = λ q h. is ∙ ap (λ (k : ℕ). in_chunk line from k mid) (named ∙ ap chunk_of byte) ∙ ap (in_chunk line from (chunk_of (meta old line))) e;
      in_lowest = λ q l. absurd (omega (arith, byte));
    }

pub right_lowest : (codec : Codec) (form : Form) (line number : ℕ) (from old mid new : List ℕ) → fits codec (room form line) from ≡ false → mid ≡ old → meta mid line < 128 → IsLowestFree form mid number
    → new ≡ in_chunk line from number mid → GoesToPlace codec form line from old new
right_lowest codec form line number from old mid new unfit e low lowest is =
    let byte : meta mid line ≡ meta old line = ap (λ (b : List ℕ). meta b line) e in
    record {
      where_it_fits = λ q. absurd (true≢false (sym q ∙ unfit));
      in_its_chunk = λ q h. absurd (omega (arith, byte));
      in_lowest = λ q l. (number, (subst (λ (b : List ℕ). IsLowestFree form b number) e lowest, is ∙ ap (in_chunk line from number) e));
    }

pub ruleset rights = (done_slot, done_chunk, done_lowest, right_slot, right_chunk, right_lowest)

-- where a chunk is free, the line has a place
pub free_is_place : (codec : Codec) (form : Form) (old mid : List ℕ) (line : ℕ) (from : List ℕ) (number : ℕ) → mid ≡ old → IsLowestFree form mid number → HasNoPlace codec form old line from → ⊥
free_is_place codec form old mid line from number e lowest over =
    let moved : IsTaken mid number = subst (λ (b : List ℕ). IsTaken b number) (sym e) (over.full number lowest.above lowest.below) in
    lowest.free moved.by moved.by_in moved.is_exception moved.is_chunk
