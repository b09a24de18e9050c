-- Pages that are laid line by line.
use Rattle.std.proofs.Common.{◌≡◌, ℕ, suc, refl, add-one, ◌+◌, ◌*◌, ◌<◌, ◌≤◌, true, false, ap, ◌∙◌, sym, subst, arith, List, [], length, take, replicate, get_or, Option, Some, None, inl, inr}
use Rattle.std.proofs.Math.Bool.{not}
use Rattle.std.proofs.lemmas.Bool.{cases_eq}
use Rattle.std.proofs.lemmas.Bool.Decides.{nat_tests}
use Rattle.std.proofs.lemmas.List.{get_or-map, length-map}
use Rattle.std.proofs.lemmas.List.Sums.{count_by_more_no, count_by_more_yes, sum_by-take-le}
use Rattle.hier_types.specs.declared.settings.Codec.{Codec}
use Rattle.hier_types.proofs.TableLemmas.{tabulate-by_index}
use Rattle.line_codec.specs.Slots.{stored, fits}
use Rattle.line_codec.specs.Layout.{IsTarget, cap, stored_sizes, is_exception, exceptions_of, chunks_of}
use Rattle.line_codec.proofs.LayoutLemmas.{is_exception-fits}
use Rattle.page_slots.specs.declared.form.Form.{Form}
use Rattle.page_slots.specs.Forms.{packed_form, room}
use Rattle.page_slots.specs.Lines.{meta, chunk_of, content_at, HasLine, HasLines}
use Rattle.page_slots.specs.Puts.{Misses, PutsLine, in_slot, in_chunk}
use Rattle.page_slots.specs.Laid.{IsPackedSize, next_chunk, laid, LaidUpTo, IsLaid}
use Rattle.page_slots.proofs.FormLemmas.{apart_of}
use Rattle.page_slots.proofs.LineLemmas.{mark_le, has_content}
use Rattle.page_slots.proofs.PutLemmas.{chunk_of_byte}
use Rattle.page_slots.proofs.SoundLemmas.{has_own}

exceptions_le : (n t : ℕ) (sizes : List (Option ℕ)) → exceptions_of (take n sizes) t ≤ exceptions_of sizes t
unfolding exceptions_of
exceptions_le n t sizes = sum_by-take-le _ sizes n

-- whether line n is an exception
is_exception_at : (codec : Codec) (t n : ℕ) (lines : List (List ℕ)) → n < length lines
    → is_exception t (get_or (stored_sizes codec lines) n None) ≡ not (fits codec t (get_or lines n []))
is_exception_at codec t n lines within =
    ap (is_exception t) (get_or-map (λ (line : List ℕ). stored codec line) lines n [] None within) ∙ is_exception-fits codec (get_or lines n []) t

size_within : (codec : Codec) (n : ℕ) (lines : List (List ℕ)) → n < length lines → n < length (stored_sizes codec lines)
size_within codec n lines within = omega (arith, length-map lines (stored codec))

pub exceptions_same : (codec : Codec) (t n : ℕ) (lines : List (List ℕ)) → n < length lines → fits codec t (get_or lines n []) ≡ true
    → next_chunk codec t lines (n + 1) ≡ next_chunk codec t lines n
unfolding exceptions_of
exceptions_same codec t n lines within fit =
    ap (λ (k : ℕ). 1 + t + k) (count_by_more_no (λ (size : Option ℕ). is_exception t size) (stored_sizes codec lines) n None (size_within codec n lines within)
    (is_exception_at codec t n lines within ∙ ap not fit))

pub exceptions_more : (codec : Codec) (t n : ℕ) (lines : List (List ℕ)) → n < length lines → fits codec t (get_or lines n []) ≡ false
    → next_chunk codec t lines (n + 1) ≡ next_chunk codec t lines n + 1
unfolding exceptions_of
exceptions_more codec t n lines within unfit =
    let more = count_by_more_yes (λ (size : Option ℕ). is_exception t size) (stored_sizes codec lines) n None (size_within codec n lines within)
    (is_exception_at codec t n lines within ∙ ap not unfit) in
    omega (arith, more)

-- no line is laid yet
pub laid_none : (codec : Codec) (form : Form) (lines : List (List ℕ)) (bytes : List ℕ) → bytes ≡ replicate (64 * form.chunks) 0 → LaidUpTo codec form lines 0 bytes
unfolding laid
laid_none codec form lines bytes zeros = record {
  is = zeros;
  has = λ i l. absurd (omega arith);
  in_order = λ i l. absurd (omega arith);
  used = λ i l. absurd (omega arith);
  rising = λ i j l m. absurd (omega arith);
}

-- the chunk of the first exception
pub next_none : (codec : Codec) (t : ℕ) (lines : List (List ℕ)) → next_chunk codec t lines 0 ≡ 1 + t
unfolding exceptions_of
next_none codec t lines = omega arith

-- one line more, whose own chunk, if it has one, is the next one
laid_more : (codec : Codec) (form : Form) (lines : List (List ℕ)) (n : ℕ) (taken : Option ℕ) (old new : List ℕ) → n < 64
    → LaidUpTo codec form lines n old → PutsLine codec form n (get_or lines n []) taken old new
    → ((b : ℕ) → (128 ≤ b → chunk_of b < next_chunk codec form.large lines n) → Misses taken b)
    → next_chunk codec form.large lines n ≤ next_chunk codec form.large lines (n + 1)
    → (128 ≤ meta new n → (chunk_of (meta new n) ≡ next_chunk codec form.large lines n) × (chunk_of (meta new n) < next_chunk codec form.large lines (n + 1)))
    → new ≡ laid codec form lines (n + 1)
    → LaidUpTo codec form lines (n + 1) new
laid_more codec form lines n taken old new n_in laid puts misses grows own is =
    let stays : (i : ℕ) → i < n → meta new i ≡ meta old i = λ (i : ℕ) (l : i < n). puts.bytes_stay i (omega arith) (omega arith) in
    let below : (i : ℕ) → i < n → 128 ≤ meta new i → chunk_of (meta new i) < next_chunk codec form.large lines n =
    λ (i : ℕ) (l : i < n) (h : 128 ≤ meta new i). rw (stays i l) (laid.used i l (rw (stays i l) at h)) in
    record {
      is = is;
      has = λ i l. elim (cases_eq i n) [
        | inl e ↦ subst (λ (k : ℕ). HasLine codec form new k (get_or lines k [])) (sym e) puts.here
        | inr ne ↦ puts.lines_stay i (get_or lines i []) (omega arith) ne
            (misses (meta old i) (laid.used i (omega arith))) (laid.has i (omega arith))
      ];
      in_order = λ i l h. elim (cases_eq i n) [
        | inl e ↦ rw e ((own (rw e at h)).0)
        | inr ne ↦ let m : i < n = omega arith in rw (stays i m) (laid.in_order i m (rw (stays i m) at h))
      ];
      used = λ i l h. elim (cases_eq i n) [
        | inl e ↦ rw e ((own (rw e at h)).1)
        | inr ne ↦ let m : i < n = omega arith in omega (arith, below i m h)
      ];
      rising = λ i j l m h h'. elim (cases_eq j n) [
        | inl e ↦
            let low = below i (omega arith) h in
            let last = (own (rw e at h')).0 in
            rw e (omega (arith, low, last))
        | inr ne ↦ let a : i < n = omega arith in let b : j < n = omega arith in
            rw (stays i a, stays j b) (laid.rising i j l b (rw (stays i a) at h) (rw (stays j b) at h'))
      ];
    }

room_flat : (form : Form) (i : ℕ) → form.small ≡ form.large → room form i ≡ form.large
unfolding room
room_flat form i flat = grind (arith, nat_tests)

-- the chunk after a line that fits its slot
pub next_same : (codec : Codec) (form : Form) (lines : List (List ℕ)) (n : ℕ) → n < 64 → length lines ≡ 64 → form.small ≡ form.large
    → fits codec (room form n) (get_or lines n []) ≡ true → next_chunk codec form.large lines (n + 1) ≡ next_chunk codec form.large lines n
next_same codec form lines n n_in count flat fit =
    exceptions_same codec form.large n lines (omega arith) (ap (λ (k : ℕ). fits codec k (get_or lines n [])) (sym (room_flat form n flat)) ∙ fit)

-- and after one that does not
pub next_more : (codec : Codec) (form : Form) (lines : List (List ℕ)) (n : ℕ) → n < 64 → length lines ≡ 64 → form.small ≡ form.large
    → fits codec (room form n) (get_or lines n []) ≡ false → next_chunk codec form.large lines (n + 1) ≡ next_chunk codec form.large lines n + 1
next_more codec form lines n n_in count flat unfit =
    exceptions_more codec form.large n lines (omega arith) (ap (λ (k : ℕ). fits codec k (get_or lines n [])) (sym (room_flat form n flat)) ∙ unfit)

-- there is a chunk for it
pub next_below : (codec : Codec) (form : Form) (lines : List (List ℕ)) (n : ℕ) → n < 64 → length lines ≡ 64 → form.small ≡ form.large
    → fits codec (room form n) (get_or lines n []) ≡ false → chunks_of (stored_sizes codec lines) form.large ≤ form.chunks
    → next_chunk codec form.large lines n < form.chunks
next_below codec form lines n n_in count flat unfit enough =
    omega (arith, next_more codec form lines n n_in count flat unfit, exceptions_le (n + 1) form.large (stored_sizes codec lines))

laid-fits : (codec : Codec) (form : Form) (lines : List (List ℕ)) (n : ℕ) → fits codec (room form n) (get_or lines n []) ≡ true
    → laid codec form lines (n + 1) ≡ in_slot codec form n (get_or lines n []) (laid codec form lines n)
laid-fits codec form lines n fit =
    let next : laid codec form lines (suc n) ≡ in_slot codec form n (get_or lines n []) (laid codec form lines n) = unfold laid in rw fit refl in
    subst (λ (k : ℕ). laid codec form lines k ≡ in_slot codec form n (get_or lines n []) (laid codec form lines n)) (sym (add-one n)) next

laid-unfit : (codec : Codec) (form : Form) (lines : List (List ℕ)) (n : ℕ) → fits codec (room form n) (get_or lines n []) ≡ false
    → laid codec form lines (n + 1) ≡ in_chunk n (get_or lines n []) (next_chunk codec form.large lines n) (laid codec form lines n)
laid-unfit codec form lines n unfit =
    let next : laid codec form lines (suc n) ≡ in_chunk n (get_or lines n []) (next_chunk codec form.large lines n) (laid codec form lines n) = unfold laid in rw unfit refl in
    subst (λ (k : ℕ). laid codec form lines k ≡ in_chunk n (get_or lines n []) (next_chunk codec form.large lines n) (laid codec form lines n)) (sym (add-one n)) next

-- a line that is put into its slot
pub laid_slot : (codec : Codec) (form : Form) (lines : List (List ℕ)) (n : ℕ) (old new : List ℕ) → n < 64 → length lines ≡ 64 → form.small ≡ form.large
    → fits codec (room form n) (get_or lines n []) ≡ true → LaidUpTo codec form lines n old → PutsLine codec form n (get_or lines n []) None old new
    → new ≡ in_slot codec form n (get_or lines n []) old → LaidUpTo codec form lines (n + 1) new
laid_slot codec form lines n old new n_in count flat fit laid puts is =
    let same = next_same codec form lines n n_in count flat fit in
    laid_more codec form lines n None old new n_in laid puts (λ b h. tt) (omega arith) (λ h. absurd (omega (arith, puts.byte, mark_le (get_or lines n []))))
    (is ∙ ap (in_slot codec form n (get_or lines n [])) laid.is ∙ sym (laid-fits codec form lines n fit))

-- a line that is put into the next chunk
pub laid_chunk : (codec : Codec) (form : Form) (lines : List (List ℕ)) (n number : ℕ) (old new : List ℕ) → n < 64 → length lines ≡ 64 → form.small ≡ form.large
    → number ≡ next_chunk codec form.large lines n → number < 64 → fits codec (room form n) (get_or lines n []) ≡ false
    → LaidUpTo codec form lines n old → PutsLine codec form n (get_or lines n []) (Some number) old new
    → new ≡ in_chunk n (get_or lines n []) number old → LaidUpTo codec form lines (n + 1) new
laid_chunk codec form lines n number old new n_in count flat is_next few unfit laid puts is =
    let more = next_more codec form lines n n_in count flat unfit in
    let name : chunk_of (meta new n) ≡ number = ap chunk_of puts.byte ∙ chunk_of_byte (get_or lines n []) number few in
    laid_more codec form lines n (Some number) old new n_in laid puts (λ b h high same. absurd (omega (arith, h high))) (omega arith) (λ h. (omega arith, omega arith))
    (is ∙ ap (λ (k : ℕ). in_chunk n (get_or lines n []) k old) is_next ∙ ap (in_chunk n (get_or lines n []) (next_chunk codec form.large lines n)) laid.is
    ∙ sym (laid-unfit codec form lines n unfit))

-- a page whose lines are laid has them
laid_all : (codec : Codec) (form : Form) (lines : List (List ℕ)) (bytes : List ℕ) → LaidUpTo codec form lines 64 bytes → HasLines codec form bytes (λ i. get_or lines i [])
laid_all codec form lines bytes laid = record {
  has = laid.has;
  apart = λ i i_in high j j_in ne high'. elim (apart_of j i ne) [
    | inl a ↦ λ same. absurd (omega (arith, laid.rising j i a i_in high' high))
    | inr b ↦ λ same. absurd (omega (arith, laid.rising i j b j_in high high'))
  ];
}

pub laid_by : (codec : Codec) (order target : ℕ) (lines : List (List ℕ)) (size : ℕ) (bytes : List ℕ) → IsTarget target → IsPackedSize order size → length bytes ≡ size
    → 1 + target ≤ cap order → length lines ≡ 64 → LaidUpTo codec (packed_form order target) lines 64 bytes → IsLaid codec order target lines bytes
laid_by codec order target lines size bytes is_target is_size same slots_in whole laid =
    let form = packed_form order target in
    record {
      sound = record {
        holds = record { order_in = is_size.0; targets = is_target; slots_in = slots_in; is_size = same ∙ is_size.1 };
        lines = has_own codec form bytes (λ i. get_or lines i []) (laid_all codec form lines bytes laid);
      };
      content = sym (tabulate-by_index [] (content_at form bytes) 64 lines whole (λ i i_in. sym (has_content codec form bytes i (get_or lines i []) (laid.has i i_in))));
      in_order = laid.in_order;
      bytes_are = laid.is;
    }
