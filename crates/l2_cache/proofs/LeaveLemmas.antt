-- Lines leave a set, and one is put in front.
use Rattle.std.proofs.Common.{◌≡◌, ◌≢◌, ◌<◌, ◌%◌, ℕ, true, false, List, [], ◌∷◌, ◌++◌, Option, Some, None, Result, Ok, Err, length, length-set, set, refl, sym, ap, ◌∙◌, subst, arith, if◌then◌else◌}
use Rattle.std.specs.List.{slice_get}
use Rattle.std.specs.Option.{option_map}
use Rattle.std.specs.Prelude.{MatchResult}
use Rattle.std.proofs.lemmas.Bool.{ne_eqb, eq-eqb}
use Rattle.hier_types.specs.declared.faults.NoSpace.{NoSpace}
use Rattle.hier_types.specs.Calls.{Answer, Call, Write, Made, Makes}
use Rattle.hier_types.proofs.LineLemmas.{lines-set}
use Rattle.recency.specs.declared.entry.Entry.{Entry}
use Rattle.recency.specs.Uses.{last_of}
use Rattle.recency.specs.Kept.{Kept, with_lines, entry_of, without}
use Rattle.recency.specs.Levels.{set_at, set_of, with_set, kept_of, bytes_or, overlay, IsGood, IsGoodEntry, IsSound}
use Rattle.recency.specs.Steps.{Changes}
use Rattle.recency.proofs.ListLemmas.{slice_get-set, slice_get-set_other, set-set, same_lists}
use Rattle.recency.proofs.UseLemmas.{by_eq}
use Rattle.recency.proofs.EntryLemmas.{at_front, past_front, good_entry, good_elsewhere, good_without, gone, last_entry, entry_of-without_other}
use Rattle.recency.proofs.LevelLemmas.{shown, shown_kept, set_at-same, set_at-other, sound_step, overlay_step, room_cases, unchanged, slice_get-overlay, length-overlay, in_range}
use Rattle.l2_cache.specs.Room.{has_space, leaver}
use Rattle.l2_cache.specs.Turns.{written, CannotLeave, MakesRoom, in_front, WritesIfDirty}

-- a line that is not kept is not kept after another leaves
pub without_none : (es : List Entry) (line x : ℕ) → entry_of es x ≡ None → entry_of (without es line) x ≡ None
without_none [] line x none = refl
without_none (f ∷ es) line x none =
    by_eq f.line x (λ y. let k : Some f ≡ None = sym (at_front f es x y) ∙ none in absurd (let k2 = k in cc))
    (λ apart. let rest : entry_of es x ≡ None = sym (past_front f es x apart) ∙ none in
    by_eq f.line line (λ y. rw (eq-eqb f.line line y) rest)
    (λ away. rw (ne_eqb f.line line away) (past_front f (without es line) x apart ∙ without_none es line x rest)))

pub without_less : (es : List Entry) (line : ℕ) (e : Entry) → entry_of es line ≡ Some e → length (without es line) < length es
without_less [] line e is = absurd (let h = is in cc)
without_less (f ∷ es) line e is =
    by_eq f.line line (λ y. rw (eq-eqb f.line line y) (omega arith))
    (λ apart. (let rest = without_less es line e (sym (past_front f es line apart) ∙ is) in rw (ne_eqb f.line line apart) (omega arith)))

-- a line that is not kept was written below
good_absent : (lines : List (List ℕ)) (n i : ℕ) (es : List Entry) (l : ℕ) (b : List ℕ) → IsGood lines n i es → entry_of es l ≡ None → IsGood (set lines l b) n i es
good_absent lines n i [] l b good none = tt
good_absent lines n i (f ∷ es) l b good none =
    by_eq f.line l (λ y. let k : Some f ≡ None = sym (at_front f es l y) ∙ none in absurd (let k2 = k in cc))
    (λ apart. (
      record { inside = rw length-set good.0.inside; home = good.0.home; full = good.0.full; clean = λ c. slice_get-set_other lines l f.line b (λ y. apart (sym y)) ∙ good.0.clean c },
      good.1,
      good_absent lines n i es l b good.2 (sym (past_front f es l apart) ∙ none),
    ))

-- what is shown after an entry has left that was clean, or written below
shown_left : (lines new : List (List ℕ)) (n i : ℕ) (es : List Entry) (e : Entry) → IsGood lines n i es → entry_of es e.line ≡ Some e
    → slice_get new e.line ≡ Some e.bytes → ((x : ℕ) → e.line ≢ x → slice_get new x ≡ slice_get lines x) → (x : ℕ) → shown new (without es e.line) x ≡ shown lines es x
shown_left lines new n i es e good kept there others x =
    let inside = (good_entry lines n i es e.line e good kept).inside in
    by_eq e.line x
    (λ y. subst (λ z. shown new (without es e.line) z ≡ shown lines es z) y
    (rw (gone lines n i es e.line good, there) (sym (shown_kept lines es e e.line inside kept))))
    (λ apart. rw (entry_of-without_other es e.line x (λ y. apart (sym y)), others x apart) refl)

module _ (size : List ℕ → ℕ) (lines : List (List ℕ)) (sets : List Kept) (line : ℕ) (bytes : List ℕ) (sound : IsSound lines sets) (e : Entry) (is : leaver size (set_of sets line) line bytes ≡ Some e) where
  range : line % length sets < length sets
  range = in_range lines sets line sound

  pub leaver_last : last_of (without (set_of sets line).lines line) ≡ Some e
  leaver_last =
      room_cases (has_space size (set_of sets line).ways bytes (without (set_of sets line).lines line)) _
      (λ t. (let none : None ≡ Some e = sym (ap (λ b. if b then None else last_of (without (set_of sets line).lines line)) t) ∙ is in absurd (let k = none in cc)))
      (λ f. sym (ap (λ b. if b then None else last_of (without (set_of sets line).lines line)) f) ∙ is)

  pub leaver_kept : entry_of (set_of sets line).lines e.line ≡ Some e
  leaver_kept =
      let good = good_without lines (length sets) (line % length sets) (set_of sets line).lines line (sound.good (line % length sets)) in
      let here : entry_of (without (set_of sets line).lines line) e.line ≡ Some e = last_entry lines (length sets) (line % length sets) (without (set_of sets line).lines line) e good leaver_last in
      let away = gone lines (length sets) (line % length sets) (set_of sets line).lines line (sound.good (line % length sets)) in
      by_eq e.line line
      (λ y. let k : Some e ≡ None = sym here ∙ ap (entry_of (without (set_of sets line).lines line)) y ∙ away in absurd (let k2 = k in cc))
      (λ apart. sym (entry_of-without_other (set_of sets line).lines line e.line apart) ∙ here)

  pub leaver_good : IsGoodEntry lines (length sets) (line % length sets) e
  leaver_good = good_entry lines (length sets) (line % length sets) (set_of sets line).lines e.line e (sound.good (line % length sets)) leaver_kept

  pub leaver_fewer : length (set_of (with_set sets line (without (set_of sets line).lines e.line)) line).lines < length (set_of sets line).lines
  leaver_fewer =
      rw (length-set, set_at-same sets (line % length sets) (with_lines (set_of sets line) (without (set_of sets line).lines e.line)) range)
      (without_less (set_of sets line).lines e.line e leaver_kept)

  -- it was written below
  pub left_written_sound : IsSound (set lines e.line e.bytes) (with_set sets line (without (set_of sets line).lines e.line))
  left_written_sound =
      sound_step lines (set lines e.line e.bytes) sets (line % length sets) (with_lines (set_of sets line) (without (set_of sets line).lines e.line)) sound
      (lines-set lines e.line e.bytes sound.whole leaver_good.full) range (sound.ways (line % length sets) range)
      (λ j apart. good_elsewhere lines (length sets) j (set_at sets j).lines e.line e.bytes (λ y. apart (sym (leaver_good.home) ∙ y)) (sound.good j))
      (good_absent lines (length sets) (line % length sets) (without (set_of sets line).lines e.line) e.line e.bytes
      (good_without lines (length sets) (line % length sets) (set_of sets line).lines e.line (sound.good (line % length sets)))
      (gone lines (length sets) (line % length sets) (set_of sets line).lines e.line (sound.good (line % length sets))))

  pub left_written_same : overlay (set lines e.line e.bytes) (with_set sets line (without (set_of sets line).lines e.line)) ≡ overlay lines sets
  left_written_same =
      overlay_step lines (set lines e.line e.bytes) sets (line % length sets) (with_lines (set_of sets line) (without (set_of sets line).lines e.line)) range
      (λ x at. shown_left lines (set lines e.line e.bytes) (length sets) (line % length sets) (set_of sets line).lines e (sound.good (line % length sets)) leaver_kept
      (slice_get-set lines e.line e.bytes leaver_good.inside) (λ z apart. slice_get-set_other lines e.line z e.bytes apart) x)
      (λ x apart. slice_get-set_other lines e.line x e.bytes (λ y. apart (ap (λ z. z % length sets) (sym y) ∙ leaver_good.home)))

  -- or it was clean
  pub left_clean_sound : IsSound lines (with_set sets line (without (set_of sets line).lines e.line))
  left_clean_sound =
      sound_step lines lines sets (line % length sets) (with_lines (set_of sets line) (without (set_of sets line).lines e.line)) sound sound.whole range (sound.ways (line % length sets) range)
      (λ j apart. sound.good j)
      (good_without lines (length sets) (line % length sets) (set_of sets line).lines e.line (sound.good (line % length sets)))

  pub left_clean_same : e.dirty ≡ false → overlay lines (with_set sets line (without (set_of sets line).lines e.line)) ≡ overlay lines sets
  left_clean_same clean =
      overlay_step lines lines sets (line % length sets) (with_lines (set_of sets line) (without (set_of sets line).lines e.line)) range
      (λ x at. shown_left lines lines (length sets) (line % length sets) (set_of sets line).lines e (sound.good (line % length sets)) leaver_kept
      (leaver_good.clean clean) (λ z apart. refl) x)
      (λ x apart. refl)

-- what is shown of a line that is not kept
pub shown_below : (lines : List (List ℕ)) (sets : List Kept) (line : ℕ) → kept_of sets line ≡ None → slice_get (overlay lines sets) line ≡ slice_get lines line
shown_below lines sets line none = slice_get-overlay lines sets line ∙ ap (λ k. option_map (bytes_or k) (slice_get lines line)) none ∙ same (slice_get lines line)
  where
    same : (o : Option (List ℕ)) → option_map (bytes_or None) o ≡ o
    same None = refl
    same (Some b) = refl

module _ (lines : List (List ℕ)) (sets : List Kept) (e : Entry) (sound : IsSound lines sets) (inside : e.line < length lines) where
  at_home : e.line % length sets < length sets
  at_home = in_range lines sets e.line sound

  abbrev fronted : Kept
  fronted = with_lines (set_of sets e.line) (e ∷ without (set_of sets e.line).lines e.line)

  pub front_sound : length e.bytes ≡ 64 → (e.dirty ≡ false → slice_get lines e.line ≡ Some e.bytes) → IsSound lines (in_front sets e)
  front_sound full clean =
      sound_step lines lines sets (e.line % length sets) fronted sound sound.whole at_home (sound.ways (e.line % length sets) at_home)
      (λ j apart. sound.good j) (
        record { inside = inside; home = refl; full = full; clean = clean },
        gone lines (length sets) (e.line % length sets) (set_of sets e.line).lines e.line (sound.good (e.line % length sets)),
        good_without lines (length sets) (e.line % length sets) (set_of sets e.line).lines e.line (sound.good (e.line % length sets)),
      )

  pub front_written : overlay lines (in_front sets e) ≡ set (overlay lines sets) e.line e.bytes
  front_written =
      same_lists _ _ (λ x. by_eq e.line x
      (λ y. subst (λ z. slice_get (overlay lines (in_front sets e)) z ≡ slice_get (set (overlay lines sets) e.line e.bytes) z) y
      (slice_get-overlay lines (in_front sets e) e.line
      ∙ rw (length-set, set_at-same sets (e.line % length sets) fronted at_home)
      (shown_kept lines (e ∷ without (set_of sets e.line).lines e.line) e e.line inside (at_front e (without (set_of sets e.line).lines e.line) e.line refl))
      ∙ sym (slice_get-set (overlay lines sets) e.line e.bytes (rw length-overlay inside))))
      (λ apart.
      slice_get-overlay lines (in_front sets e) x
      ∙ rw length-set (by_eq (x % length sets) (e.line % length sets)
      (λ y. rw (y, set_at-same sets (e.line % length sets) fronted at_home)
      (ap (λ k. option_map (bytes_or k) (slice_get lines x))
      (past_front e (without (set_of sets e.line).lines e.line) x apart ∙ entry_of-without_other (set_of sets e.line).lines e.line x (λ q. apart (sym q)))))
      (λ away. rw (set_at-other sets (e.line % length sets) (x % length sets) fronted (λ y. away (sym y))) refl))
      ∙ sym (slice_get-overlay lines sets x)
      ∙ sym (slice_get-set_other (overlay lines sets) e.line x e.bytes apart)))

-- nothing has to leave
pub room_none : (size : List ℕ → ℕ) (sets : List Kept) (line : ℕ) (bytes : List ℕ) → line % length sets < length sets → leaver size (set_of sets line) line bytes ≡ None
    → Changes (MakesRoom size bytes) sets line (Ok tt) sets []
room_none size sets line bytes inside none = record {
  after = (set_of sets line).lines;
  step = record { gone = []; leave = refl; end = (none, refl) };
  only = unchanged sets line inside;
}

-- the write of the next is refused
pub room_refused : (size : List ℕ → ℕ) (sets : List Kept) (line : ℕ) (bytes : List ℕ) (e : Entry) (n : NoSpace) → line % length sets < length sets → leaver size (set_of sets line) line bytes ≡ Some e → e.dirty ≡ true
    → Changes (MakesRoom size bytes) sets line (Err n) sets (Write e.line e.bytes (Err n) ∷ [])
room_refused size sets line bytes e n inside is dirty = record {
  after = (set_of sets line).lines;
  step = record { gone = []; leave = refl; end = record { entry = e; next = is; dirty = dirty; made = refl } };
  only = unchanged sets line inside;
}

-- the calls of one that leaves
abbrev pub one_more : Entry → List Call → List Call
one_more e calls = if e.dirty then Write e.line e.bytes (Ok tt) ∷ calls else calls

pub written_more : (e : Entry) (es : List Entry) (rest : List Call) → written (e ∷ es) ++ rest ≡ one_more e (written es ++ rest)
written_more e es rest = room_cases e.dirty _ (λ t. rw t refl) (λ f. rw f refl)

more_end : (size : List ℕ → ℕ) (bytes : List ℕ) (k : Kept) (line : ℕ) (e : Entry) (gone : List Entry) (after : List Entry) (calls : List Call) (result : Answer)
    → MatchResult result (λ _. (leaver size (with_lines k after) line bytes ≡ None) × (calls ≡ written gone)) (λ n. CannotLeave size bytes (with_lines k after) line n gone calls)
    → MatchResult result (λ _. (leaver size (with_lines k after) line bytes ≡ None) × (one_more e calls ≡ written (e ∷ gone))) (λ n. CannotLeave size bytes (with_lines k after) line n (e ∷ gone) (one_more e calls))
more_end size bytes k line e gone after calls (Ok x) end = (end.0, ap (one_more e) end.1)
more_end size bytes k line e gone after calls (Err n) end = record { entry = end.entry; next = end.next; dirty = end.dirty; made = ap (one_more e) end.made ∙ sym (written_more e gone _) }

-- one has left, and then others
pub room_more : (size : List ℕ → ℕ) (sets : List Kept) (line : ℕ) (bytes : List ℕ) (e : Entry) (result : Answer) (new : List Kept) (calls : List Call) → line % length sets < length sets
    → leaver size (set_of sets line) line bytes ≡ Some e
    → Changes (MakesRoom size bytes) (with_set sets line (without (set_of sets line).lines e.line)) line result new calls
    → Changes (MakesRoom size bytes) sets line result new (one_more e calls)
room_more size sets line bytes e result new calls inside is ch =
    let k = set_at-same sets (line % length sets) (with_lines (set_of sets line) (without (set_of sets line).lines e.line)) inside in
    let step = rw (length-set, k) at ch.step in
    record {
      after = ch.after;
      step = record { gone = e ∷ step.gone; leave = (is, step.leave); end = more_end size bytes (set_of sets line) line e step.gone ch.after calls result step.end };
      only = rw (length-set, k, set-set) at ch.only;
    }

-- the calls of one that leaves, and those of the rest
pub Makes-more : {B : Type 0} (did_read : B → ℕ → Result (List ℕ) NoSpace → B → Type 0) (did_write : B → ℕ → List ℕ → Answer → B → Type 0)
    (s m t : B) (Rest Gives : List Call → Type 0) (e : Entry) → WritesIfDirty did_write s e (Ok tt) m → Makes did_read did_write m Rest t
    → ((calls : List Call) → Rest calls → Gives (one_more e calls)) → Makes did_read did_write s Gives t
Makes-more did_read did_write s m t Rest Gives e did rest gives =
    room_cases e.dirty _
    (λ d. record { calls = Write e.line e.bytes (Ok tt) ∷ rest.calls; made = (m, rw d at did, rest.made); gives = rw d at (gives rest.calls rest.gives) })
    (λ d. record { calls = rest.calls; made = subst (λ (z : _). Made did_read did_write z rest.calls t) ((rw d at did).0) rest.made; gives = rw d at (gives rest.calls rest.gives) })

-- a write that is refused
pub Makes-refused : {B : Type 0} (did_read : B → ℕ → Result (List ℕ) NoSpace → B → Type 0) (did_write : B → ℕ → List ℕ → Answer → B → Type 0)
    (s t : B) (Gives : List Call → Type 0) (e : Entry) (n : NoSpace) → WritesIfDirty did_write s e (Err n) t
    → (e.dirty ≡ true → Gives (Write e.line e.bytes (Err n) ∷ [])) → Makes did_read did_write s Gives t
Makes-refused did_read did_write s t Gives e n did gives =
    room_cases e.dirty _
    (λ d. record { calls = Write e.line e.bytes (Err n) ∷ []; made = (t, rw d at did, refl); gives = gives d })
    (λ d. let k : Err n ≡ Ok tt = (rw d at did).1 in absurd (let k2 = k in cc))

-- a line that is not kept is not kept after an entry of its set has left
pub absent_left : (sets : List Kept) (line l : ℕ) → line % length sets < length sets → kept_of sets line ≡ None → kept_of (with_set sets line (without (set_of sets line).lines l)) line ≡ None
absent_left sets line l inside none =
    rw (length-set, set_at-same sets (line % length sets) (with_lines (set_of sets line) (without (set_of sets line).lines l)) inside) (without_none (set_of sets line).lines l line none)
