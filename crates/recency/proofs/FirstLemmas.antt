-- The copy of a line, and above all the most recent one of a set, is read and changed.
use Rattle.std.proofs.Common.{◌≡◌, ◌≢◌, ◌<◌, ◌%◌, ℕ, true, false, List, [], ◌∷◌, Some, length, length-set, set, refl, sym, ap, ◌∙◌, subst}
use Rattle.std.specs.List.{slice_get}
use Rattle.std.specs.Option.{option_map, IfSome}
use Rattle.std.proofs.lemmas.Bool.{eq-eqb, ne_eqb}
use Rattle.recency.proofs.ListLemmas.{slice_get-set, slice_get-set_other, same_lists}
use Rattle.recency.specs.declared.entry.Entry.{Entry}
use Rattle.recency.specs.Kept.{Kept, with_lines, entry_of, dirty_entry, overwritten, poked}
use Rattle.recency.specs.Levels.{set_of, with_set, kept_of, bytes_or, overlay, IsGood, IsSound, IsFirst}
use Rattle.recency.proofs.UseLemmas.{by_eq}
use Rattle.recency.proofs.EntryLemmas.{at_front, past_front}
use Rattle.recency.proofs.LevelLemmas.{shown_kept, set_at-same, set_at-other, slice_get-overlay, length-overlay, sound_step, in_range}

pub first_kept : (es : List Entry) (e : Entry) (line : ℕ) → slice_get es 0 ≡ Some e → e.line ≡ line → entry_of es line ≡ Some e
first_kept [] e line is at = absurd (let h = is in cc)
first_kept (f ∷ es) e line is at = let same : f ≡ e = cc in at_front f es line (ap (λ z. z.line) same ∙ at) ∙ ap Some same

pub first_shown : (lines : List (List ℕ)) (sets : List Kept) (line : ℕ) (e : Entry) → line < length lines
    → slice_get (set_of sets line).lines 0 ≡ Some e → e.line ≡ line → slice_get (overlay lines sets) line ≡ Some e.bytes
first_shown lines sets line e inside is at =
    slice_get-overlay lines sets line ∙ shown_kept lines (set_of sets line).lines e line inside (first_kept (set_of sets line).lines e line is at)

-- what was changed by the number of the most recent line was changed by this number
pub by_first : (sets new : List Kept) (line : ℕ) (change : ℕ → List Entry) → IsFirst sets line → IfSome (slice_get (set_of sets line).lines 0) (λ e. new ≡ with_set sets line (change e.line)) → new ≡ with_set sets line (change line)
by_first sets new line change first is = (rw first.here at is) ∙ ap (λ l. with_set sets line (change l)) first.line_is

-- a copy with another byte
pub poked_over : (es : List Entry) (line offset byte : ℕ) (e : Entry) → entry_of es line ≡ Some e → poked es line offset byte ≡ overwritten es line (set e.bytes offset byte)
poked_over [] line offset byte e is = refl
poked_over (f ∷ es) line offset byte e is =
    by_eq f.line line
    (λ y.
    let k : Some f ≡ Some e = sym (at_front f es line y) ∙ is in
    let same : f ≡ e = cc in
    rw (eq-eqb f.line line y) (ap (λ (z : Entry). dirty_entry line (set z.bytes offset byte) ∷ es) same))
    (λ apart. rw (ne_eqb f.line line apart) (ap (λ l. f ∷ l) (poked_over es line offset byte e (sym (past_front f es line apart) ∙ is))))

over_here : (es : List Entry) (line : ℕ) (bytes : List ℕ) (e : Entry) → entry_of es line ≡ Some e → entry_of (overwritten es line bytes) line ≡ Some (dirty_entry line bytes)
over_here [] line bytes e is = absurd (let k = is in cc)
over_here (f ∷ es) line bytes e is =
    by_eq f.line line
    (λ y. rw (eq-eqb f.line line y) (at_front (dirty_entry line bytes) es line refl))
    (λ apart. rw (ne_eqb f.line line apart) (past_front f (overwritten es line bytes) line apart ∙ over_here es line bytes e (sym (past_front f es line apart) ∙ is)))

over_other : (es : List Entry) (line x : ℕ) (bytes : List ℕ) → line ≢ x → entry_of (overwritten es line bytes) x ≡ entry_of es x
over_other [] line x bytes other = refl
over_other (f ∷ es) line x bytes other =
    by_eq f.line line
    (λ y. rw (eq-eqb f.line line y) (past_front (dirty_entry line bytes) es x other ∙ sym (past_front f es x (λ k. other (sym y ∙ k)))))
    (λ apart. rw (ne_eqb f.line line apart) (by_eq f.line x
    (λ y. at_front f (overwritten es line bytes) x y ∙ sym (at_front f es x y))
    (λ away. past_front f (overwritten es line bytes) x away ∙ over_other es line x bytes other ∙ sym (past_front f es x away))))

good_over : (lines : List (List ℕ)) (n i : ℕ) (es : List Entry) (line : ℕ) (bytes : List ℕ) → IsGood lines n i es → length bytes ≡ 64 → IsGood lines n i (overwritten es line bytes)
good_over lines n i [] line bytes good full = tt
good_over lines n i (f ∷ es) line bytes good full =
    by_eq f.line line
    (λ y. rw (eq-eqb f.line line y) (
      record { inside = rw (← y) good.0.inside; home = rw (← y) good.0.home; full = full; clean = λ c. absurd (let h : true ≡ false = c in cc) },
      rw (← y) good.1,
      good.2,
    ))
    (λ apart. rw (ne_eqb f.line line apart) (good.0, over_other es line f.line bytes (λ y. apart (sym y)) ∙ good.1, good_over lines n i es line bytes good.2 full))

-- the copy of a line is overwritten
module _ (lines : List (List ℕ)) (sets : List Kept) (line : ℕ) (bytes : List ℕ) (sound : IsSound lines sets) where
  abbrev changed : Kept
  changed = with_lines (set_of sets line) (overwritten (set_of sets line).lines line bytes)

  abbrev after : List Kept
  after = with_set sets line (overwritten (set_of sets line).lines line bytes)

  pub over_sound : length bytes ≡ 64 → IsSound lines (with_set sets line (overwritten (set_of sets line).lines line bytes))
  over_sound full =
      sound_step lines lines sets (line % length sets) changed sound sound.whole (in_range lines sets line sound) (sound.ways _ (in_range lines sets line sound))
      (λ j apart. sound.good j)
      (good_over lines (length sets) (line % length sets) (set_of sets line).lines line bytes (sound.good (line % length sets)) full)

  pub over_written : (e : Entry) → kept_of sets line ≡ Some e → line < length lines → overlay lines (with_set sets line (overwritten (set_of sets line).lines line bytes)) ≡ set (overlay lines sets) line bytes
  over_written e kept inside =
      let range = in_range lines sets line sound in
      same_lists _ _ (λ x. by_eq line x
      (λ y. subst (λ z. slice_get (overlay lines after) z ≡ slice_get (set (overlay lines sets) line bytes) z) y
      (slice_get-overlay lines after line
      ∙ shown_kept lines (set_of after line).lines (dirty_entry line bytes) line inside
      (rw (length-set, set_at-same sets (line % length sets) changed range) (over_here (set_of sets line).lines line bytes e kept))
      ∙ sym (slice_get-set (overlay lines sets) line bytes (rw length-overlay inside))))
      (λ apart.
      slice_get-overlay lines after x
      ∙ rw length-set (by_eq (x % length sets) (line % length sets)
      (λ y. rw (y, set_at-same sets (line % length sets) changed range) (ap (λ k. option_map (bytes_or k) (slice_get lines x)) (over_other (set_of sets line).lines line x bytes apart)))
      (λ away. rw (set_at-other sets (line % length sets) (x % length sets) changed (λ y. away (sym y))) refl))
      ∙ sym (slice_get-overlay lines sets x)
      ∙ sym (slice_get-set_other (overlay lines sets) line x bytes apart)))

  -- where it was the most recent of its set, it stays so
  pub over_first : IsFirst sets line → IsFirst (with_set sets line (overwritten (set_of sets line).lines line bytes)) line
  over_first first = record {
    first = dirty_entry line bytes;
    here = rw (length-set, set_at-same sets (line % length sets) changed (in_range lines sets line sound)) (front (set_of sets line).lines first.first first.here first.line_is);
    line_is = refl;
  }
    where
      front : (es : List Entry) (e : Entry) → slice_get es 0 ≡ Some e → e.line ≡ line → slice_get (overwritten es line bytes) 0 ≡ Some (dirty_entry line bytes)
      front [] e is at = absurd (let k = is in cc)
      front (f ∷ es) e is at = let same : f ≡ e = cc in rw (eq-eqb f.line line (ap (λ z. z.line) same ∙ at)) refl
