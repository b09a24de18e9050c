-- What the layer below has of each line once the dirty ones are written there.
use Rattle.std.proofs.Common.{◌≡◌, ◌≢◌, ◌<◌, ◌%◌, ◌==◌, ℕ, zero, suc, true, false, List, [], ◌∷◌, Option, Some, None, length, length-set, set, refl, sym, ap, ◌∙◌, subst, arith, if◌then◌else◌, ◌⊎◌, inl, inr}
use Rattle.std.specs.List.{slice_get}
use Rattle.std.specs.Option.{option_map}
use Rattle.std.proofs.lemmas.Bool.{eq-eqb, ne_eqb}
use Rattle.recency.specs.declared.entry.Entry.{Entry}
use Rattle.recency.specs.Uses.{last_of}
use Rattle.recency.specs.Kept.{Kept, with_lines, entry_of, without, touched, touched_by, cleaned, clean_in, clean_entry, dirty_entry, if_dirty, last_dirty, last_dirty_from}
use Rattle.recency.specs.Levels.{set_at, set_of, kept_of, bytes_or, IsGood, IsSound}
use Rattle.recency.specs.Marks.{undirtied, undirtied_sets}
use Rattle.recency.specs.Placed.{ArePlaced, IsPlaced}
use Rattle.recency.specs.Steps.{with_clean}
use Rattle.recency.proofs.UseLemmas.{by_eq}
use Rattle.recency.proofs.ListLemmas.{slice_get-set_other}
use Rattle.recency.proofs.EntryLemmas.{at_front, past_front, entry_of-is, entry_of-without_other, entry_of-touched, last_kept}
use Rattle.recency.proofs.FlushLemmas.{entry_of-clean_in}
use Rattle.recency.proofs.LevelLemmas.{set_at-same, set_at-other}
use Rattle.recency.proofs.MarkLemmas.{entry_of-undirtied, length-undirtied_sets, set_at-undirtied, undirtied-clean_in, undirtied-with_clean}

-- what the layer below has of a line once a set's dirty entry of it is written there
abbrev pub due : List (List ℕ) → List Entry → ℕ → Option (List ℕ)
due lines es x = option_map (bytes_or (if_dirty (entry_of es x))) (slice_get lines x)

-- and once that of its own set is
abbrev pub due_of : List (List ℕ) → List Kept → ℕ → Option (List ℕ)
due_of lines sets x = due lines (set_of sets x).lines x

-- the same after a line was written
abbrev pub put_due : ℕ → List ℕ → ℕ → Option (List ℕ) → Option (List ℕ)
put_due line bytes x o = if line == x then option_map (λ _. bytes) o else o

no_entry : (o : Option Entry) → option_map cleaned o ≡ None → o ≡ None
no_entry None is = refl
no_entry (Some e) is = absurd (let k = is in cc)

-- what is not kept of the one is not kept of the other
pub absent_same : (es fs : List Entry) (line : ℕ) → undirtied es ≡ undirtied fs → entry_of es line ≡ None → entry_of fs line ≡ None
absent_same es fs line same none =
    no_entry (entry_of fs line) (sym (entry_of-undirtied fs line) ∙ ap (λ l. entry_of l line) (sym same) ∙ entry_of-undirtied es line ∙ ap (option_map cleaned) none)

module _ (n i : ℕ) where
  -- what is taken out is no longer kept
  pub placed_gone : (es : List Entry) (line : ℕ) → ArePlaced n i es → entry_of (without es line) line ≡ None
  placed_gone [] line p = refl
  placed_gone (f ∷ es) line p =
      by_eq f.line line
      (λ y. rw (eq-eqb f.line line y, ← y) p.1)
      (λ apart. rw (ne_eqb f.line line apart) (past_front f (without es line) line apart ∙ placed_gone es line p.2))

  pub placed_without : (es : List Entry) (line : ℕ) → ArePlaced n i es → ArePlaced n i (without es line)
  placed_without [] line p = tt
  placed_without (f ∷ es) line p =
      by_eq f.line line
      (λ y. rw (eq-eqb f.line line y) p.2)
      (λ apart. rw (ne_eqb f.line line apart) (p.0, entry_of-without_other es line f.line apart ∙ p.1, placed_without es line p.2))

  -- a line that is kept is at home
  placed_home : (es : List Entry) (x : ℕ) (e : Entry) → ArePlaced n i es → entry_of es x ≡ Some e → x % n ≡ i
  placed_home [] x e p is = absurd (let k = is in cc)
  placed_home (f ∷ es) x e p is =
      by_eq f.line x (λ y. ap (λ z. z % n) (sym y) ∙ p.0) (λ apart. placed_home es x e p.2 (sym (past_front f es x apart) ∙ is))

  placed_away : (es : List Entry) (x : ℕ) → ArePlaced n i es → x % n ≢ i → entry_of es x ≡ None
  placed_away [] x p away = refl
  placed_away (f ∷ es) x p away =
      by_eq f.line x (λ y. absurd (away (ap (λ z. z % n) (sym y) ∙ p.0))) (λ apart. past_front f es x apart ∙ placed_away es x p.2 away)

  pub placed_touched : (es : List Entry) (line : ℕ) → ArePlaced n i es → ArePlaced n i (touched es line)
  placed_touched es line p = by_entry (entry_of es line) refl
    where
      by_entry : (o : Option Entry) → entry_of es line ≡ o → ArePlaced n i (touched_by o es line)
      by_entry None is = p
      by_entry (Some e) is =
          let at : e.line ≡ line = entry_of-is es line e is in
          (ap (λ z. z % n) at ∙ placed_home es line e p is, ap (entry_of (without es line)) at ∙ placed_gone es line p, placed_without es line p)

  -- the last entry is what is kept of its line
  pub placed_last : (es : List Entry) (e : Entry) → ArePlaced n i es → last_of es ≡ Some e → entry_of es e.line ≡ Some e
  placed_last [] e p is = absurd (let h = is in cc)
  placed_last (f ∷ []) e p is = let same : f ≡ e = cc in at_front f [] e.line (ap (λ x. x.line) same) ∙ ap Some same
  placed_last (f ∷ h ∷ es) e p is =
      by_eq f.line e.line (λ y. absurd (last_kept (h ∷ es) e is (rw (← y) p.1)))
      (λ apart. past_front f (h ∷ es) e.line apart ∙ placed_last (h ∷ es) e p.2 is)

  pub placed_same : (es fs : List Entry) → undirtied es ≡ undirtied fs → ArePlaced n i es → ArePlaced n i fs
  placed_same [] [] same p = tt
  placed_same [] (f ∷ fs) same p = absurd (let k = same in cc)
  placed_same (e ∷ es) [] same p = absurd (let k = same in cc)
  placed_same (e ∷ es) (f ∷ fs) same p =
      let front : cleaned e ≡ cleaned f = cc in
      let rest : undirtied es ≡ undirtied fs = cc in
      let line : e.line ≡ f.line = ap (λ (z : Entry). z.line) front in
      (ap (λ z. z % n) (sym line) ∙ p.0, absent_same es fs f.line rest (ap (entry_of es) (sym line) ∙ p.1), placed_same es fs rest p.2)

  -- the least recent dirty entry is what is kept of its line, and dirty
  placed_dirty : (es : List Entry) (found : Option Entry) (e : Entry) → ArePlaced n i es → last_dirty_from found es ≡ Some e → (found ≡ Some e) ⊎ ((entry_of es e.line ≡ Some e) × (e.dirty ≡ true))
  placed_dirty [] found e p is = inl is
  placed_dirty (f ∷ es) found e p is =
      elim f.dirty as (λ t. f.dirty ≡ t → (found ≡ Some e) ⊎ ((entry_of (f ∷ es) e.line ≡ Some e) × (e.dirty ≡ true))) [
        | true ↦ λ t. elim (placed_dirty es (Some f) e p.2 (ap (λ b. last_dirty_from (if b then Some f else found) es) (sym t) ∙ is)) [
          | inl k ↦ (let same : f ≡ e = (let q = k in cc) in inr (at_front f es e.line (ap (λ z. z.line) same) ∙ ap Some same, sym (ap (λ z. z.dirty) same) ∙ t))
          | inr k ↦ inr (past_front f es e.line (λ y. (let q : None ≡ Some e = sym p.1 ∙ ap (entry_of es) y ∙ k.0 in let q2 = q in cc)) ∙ k.0, k.1)
        ]
        | false ↦ λ t. elim (placed_dirty es found e p.2 (ap (λ b. last_dirty_from (if b then Some f else found) es) (sym t) ∙ is)) [
          | inl k ↦ inl k
          | inr k ↦ inr (past_front f es e.line (λ y. (let q : None ≡ Some e = sym p.1 ∙ ap (entry_of es) y ∙ k.0 in let q2 = q in cc)) ∙ k.0, k.1)
        ]
      ] refl

  pub placed_good : (lines : List (List ℕ)) (es : List Entry) → IsGood lines n i es → ArePlaced n i es
  placed_good lines [] good = tt
  placed_good lines (f ∷ es) good = (good.0.home, good.1, placed_good lines es good.2)

-- of one line
get_set : {X : Type 0} (xs : List X) (i : ℕ) (x : X) → slice_get (set xs i x) i ≡ option_map (λ _. x) (slice_get xs i)
get_set [] i x = refl
get_set (y ∷ xs) zero x = refl
get_set (y ∷ xs) (suc i) x = get_set xs i x

as_below : (o : Option (List ℕ)) → option_map (bytes_or None) o ≡ o
as_below None = refl
as_below (Some b) = refl

put_over : (b : List ℕ) (kept : Option Entry) (o : Option (List ℕ)) → option_map (λ _. b) (option_map (bytes_or kept) o) ≡ option_map (λ _. b) o
put_over b kept None = refl
put_over b kept (Some c) = refl

due_other : (lines new : List (List ℕ)) (es fs : List Entry) (x : ℕ) → entry_of fs x ≡ entry_of es x → slice_get new x ≡ slice_get lines x → due new fs x ≡ due lines es x
due_other lines new es fs x kept below =
    ap (λ (o : Option Entry). option_map (bytes_or (if_dirty o)) (slice_get new x)) kept ∙ ap (option_map (bytes_or (if_dirty (entry_of es x)))) below

pub due_none : (lines : List (List ℕ)) (es : List Entry) (x : ℕ) → entry_of es x ≡ None → due lines es x ≡ slice_get lines x
due_none lines es x none = ap (λ (o : Option Entry). option_map (bytes_or (if_dirty o)) (slice_get lines x)) none ∙ as_below (slice_get lines x)

due_clean : (lines : List (List ℕ)) (es : List Entry) (x : ℕ) (e : Entry) → entry_of es x ≡ Some e → e.dirty ≡ false → due lines es x ≡ slice_get lines x
due_clean lines es x e is clean =
    ap (λ (o : Option Entry). option_map (bytes_or (if_dirty o)) (slice_get lines x)) is
    ∙ ap (λ d. option_map (bytes_or (if d then Some e else None)) (slice_get lines x)) clean ∙ as_below (slice_get lines x)

due_dirty : (lines : List (List ℕ)) (es : List Entry) (x : ℕ) (e : Entry) → entry_of es x ≡ Some e → e.dirty ≡ true → due lines es x ≡ option_map (λ _. e.bytes) (slice_get lines x)
due_dirty lines es x e is dirty =
    ap (λ (o : Option Entry). option_map (bytes_or (if_dirty o)) (slice_get lines x)) is
    ∙ ap (λ d. option_map (bytes_or (if d then Some e else None)) (slice_get lines x)) dirty

-- an entry has left that was written below, or was clean
pub due_left_written : (n i : ℕ) (lines : List (List ℕ)) (es : List Entry) (e : Entry) → ArePlaced n i es → entry_of es e.line ≡ Some e → e.dirty ≡ true → (x : ℕ) → due (set lines e.line e.bytes) (without es e.line) x ≡ due lines es x
due_left_written n i lines es e p kept dirty x =
    by_eq e.line x
    (λ y. subst (λ z. due (set lines e.line e.bytes) (without es e.line) z ≡ due lines es z) y
    (due_none (set lines e.line e.bytes) (without es e.line) e.line (placed_gone n i es e.line p) ∙ get_set lines e.line e.bytes ∙ sym (due_dirty lines es e.line e kept dirty)))
    (λ apart. due_other lines (set lines e.line e.bytes) es (without es e.line) x (entry_of-without_other es e.line x (λ y. apart (sym y))) (slice_get-set_other lines e.line x e.bytes apart))

pub due_left_clean : (n i : ℕ) (lines : List (List ℕ)) (es : List Entry) (e : Entry) → ArePlaced n i es → entry_of es e.line ≡ Some e → e.dirty ≡ false → (x : ℕ) → due lines (without es e.line) x ≡ due lines es x
due_left_clean n i lines es e p kept clean x =
    by_eq e.line x
    (λ y. subst (λ z. due lines (without es e.line) z ≡ due lines es z) y
    (due_none lines (without es e.line) e.line (placed_gone n i es e.line p) ∙ sym (due_clean lines es e.line e kept clean)))
    (λ apart. due_other lines lines es (without es e.line) x (entry_of-without_other es e.line x (λ y. apart (sym y))) refl)

-- an entry was written below and made clean
pub due_made_clean : (lines : List (List ℕ)) (es : List Entry) (e : Entry) → entry_of es e.line ≡ Some e → e.dirty ≡ true → (x : ℕ) → due (set lines e.line e.bytes) (clean_in es e.line) x ≡ due lines es x
due_made_clean lines es e kept dirty x =
    by_eq e.line x
    (λ y. subst (λ z. due (set lines e.line e.bytes) (clean_in es e.line) z ≡ due lines es z) y
    (due_clean (set lines e.line e.bytes) (clean_in es e.line) e.line (cleaned e) here refl ∙ get_set lines e.line e.bytes ∙ sym (due_dirty lines es e.line e kept dirty)))
    (λ apart. due_other lines (set lines e.line e.bytes) es (clean_in es e.line) x (entry_of-clean_in es e.line x ∙ other apart (entry_of es x) refl) (slice_get-set_other lines e.line x e.bytes apart))
  where
    here : entry_of (clean_in es e.line) e.line ≡ Some (cleaned e)
    here = entry_of-clean_in es e.line e.line ∙ ap (option_map (λ (f : Entry). if f.line == e.line then cleaned f else f)) kept ∙ ap Some (rw (eq-eqb e.line e.line refl) refl)

    other : e.line ≢ x → (o : Option Entry) → entry_of es x ≡ o → option_map (λ (f : Entry). if f.line == e.line then cleaned f else f) o ≡ o
    other apart None is = refl
    other apart (Some f) is = ap Some (rw (ne_eqb f.line e.line (λ y. apart (sym y ∙ entry_of-is es x f is))) refl)

-- a clean entry was put in front
pub due_front_clean : (lines : List (List ℕ)) (es : List Entry) (line : ℕ) (bytes : List ℕ) → entry_of es line ≡ None → (x : ℕ) → due lines (clean_entry line bytes ∷ without es line) x ≡ due lines es x
due_front_clean lines es line bytes none x =
    by_eq line x
    (λ y. subst (λ z. due lines (clean_entry line bytes ∷ without es line) z ≡ due lines es z) y
    (due_clean lines (clean_entry line bytes ∷ without es line) line (clean_entry line bytes) (at_front (clean_entry line bytes) (without es line) line refl) refl ∙ sym (due_none lines es line none)))
    (λ apart. due_other lines lines es (clean_entry line bytes ∷ without es line) x (past_front (clean_entry line bytes) (without es line) x apart ∙ entry_of-without_other es line x (λ y. apart (sym y))) refl)

-- or one of other bytes
pub due_front_dirty : (lines : List (List ℕ)) (es : List Entry) (line : ℕ) (bytes : List ℕ) (x : ℕ) → due lines (dirty_entry line bytes ∷ without es line) x ≡ put_due line bytes x (due lines es x)
due_front_dirty lines es line bytes x =
    by_eq line x
    (λ y. subst (λ z. due lines (dirty_entry line bytes ∷ without es line) z ≡ put_due line bytes z (due lines es z)) y
    (due_dirty lines (dirty_entry line bytes ∷ without es line) line (dirty_entry line bytes) (at_front (dirty_entry line bytes) (without es line) line refl) refl
    ∙ sym (put_over bytes (if_dirty (entry_of es line)) (slice_get lines line)) ∙ sym (ap (λ b. if b then option_map (λ _. bytes) (due lines es line) else due lines es line) (eq-eqb line line refl))))
    (λ apart. due_other lines lines es (dirty_entry line bytes ∷ without es line) x (past_front (dirty_entry line bytes) (without es line) x apart ∙ entry_of-without_other es line x (λ y. apart (sym y))) refl
    ∙ sym (ap (λ b. if b then option_map (λ _. bytes) (due lines es x) else due lines es x) (ne_eqb line x apart)))

-- a line has become the most recent
pub due_touched : (lines : List (List ℕ)) (es : List Entry) (line x : ℕ) → due lines (touched es line) x ≡ due lines es x
due_touched lines es line x = by_entry (entry_of es line) refl
  where
    by_entry : (o : Option Entry) → entry_of es line ≡ o → due lines (touched es line) x ≡ due lines es x
    by_entry None is = ap (λ (o : Option Entry). due lines (touched_by o es line) x) is
    by_entry (Some e) is = due_other lines lines es (touched es line) x (entry_of-touched es line x e is) refl

-- one set has changed, and the lines below that are at home there
module _ (lines new : List (List ℕ)) (sets : List Kept) (is_placed : IsPlaced sets) (i : ℕ) (inside : i < length sets) (after : List Entry) (placed : ArePlaced (length sets) i after) where
  pub placed_step : IsPlaced (set sets i (with_lines (set_at sets i) after))
  placed_step = record {
    some = rw length-set is_placed.some;
    placed = λ j. rw length-set (by_eq i j
        (λ y. subst (λ x. ArePlaced (length sets) x (set_at (set sets i (with_lines (set_at sets i) after)) x).lines) y (rw (set_at-same sets i (with_lines (set_at sets i) after) inside) placed))
        (λ apart. rw (set_at-other sets i j (with_lines (set_at sets i) after) apart) (is_placed.placed j)));
  }

  pub due_step : (F : ℕ → Option (List ℕ) → Option (List ℕ)) → ((x : ℕ) → due new after x ≡ F x (due lines (set_at sets i).lines x)) → ((x : ℕ) (o : Option (List ℕ)) → x % length sets ≢ i → F x o ≡ o)
      → (x : ℕ) → due_of new (set sets i (with_lines (set_at sets i) after)) x ≡ F x (due_of lines sets x)
  due_step F here away x = rw length-set (by_eq i (x % length sets)
      (λ y. subst (λ j. due new (set_at (set sets i (with_lines (set_at sets i) after)) j).lines x ≡ F x (due lines (set_at sets j).lines x)) y
      (ap (λ (q : Kept). due new q.lines x) (set_at-same sets i (with_lines (set_at sets i) after) inside) ∙ here x))
      (λ apart. ap (λ (q : Kept). due new q.lines x) (set_at-other sets i (x % length sets) (with_lines (set_at sets i) after) apart)
      ∙ due_other lines new (set_at sets (x % length sets)).lines (set_at sets (x % length sets)).lines x refl (below (λ y. apart (sym y)))
      ∙ sym (away x (due lines (set_at sets (x % length sets)).lines x) (λ y. apart (sym y)))))
    where
      below : x % length sets ≢ i → slice_get new x ≡ slice_get lines x
      below out =
          sym (due_none new after x (placed_away (length sets) i after x placed out)) ∙ here x ∙ away x (due lines (set_at sets i).lines x) out
          ∙ due_none lines (set_at sets i).lines x (placed_away (length sets) i (set_at sets i).lines x (is_placed.placed i) out)

-- sets that are the same but for the marks
pub sets_placed_same : (sets others : List Kept) → undirtied_sets sets ≡ undirtied_sets others → IsPlaced sets → IsPlaced others
sets_placed_same sets others same p =
    let count : length sets ≡ length others = sym (length-undirtied_sets sets) ∙ ap length same ∙ length-undirtied_sets others in
    record {
      some = subst (λ n. 0 < n) count p.some;
      placed = λ i. subst (λ n. ArePlaced n i (set_at others i).lines) count
          (placed_same (length sets) i (set_at sets i).lines (set_at others i).lines
          (ap (λ (q : Kept). q.lines) (sym (set_at-undirtied sets i) ∙ ap (λ l. set_at l i) same ∙ set_at-undirtied others i)) (p.placed i));
    }

pub sets_placed : (lines : List (List ℕ)) (sets : List Kept) → IsSound lines sets → IsPlaced sets
sets_placed lines sets sound = record { some = sound.some; placed = λ i. placed_good (length sets) i lines (set_at sets i).lines (sound.good i) }

-- the least recent dirty entry of a set is what is kept of its line
pub turn_placed : (sets : List Kept) → IsPlaced sets → (i : ℕ) (e : Entry) → last_dirty (set_at sets i).lines ≡ Some e → (kept_of sets e.line ≡ Some e) × (e.dirty ≡ true)
turn_placed sets p i e is = elim (placed_dirty (length sets) i (set_at sets i).lines None e (p.placed i) is) [
  | inl k ↦ absurd (let q = k in cc)
  | inr k ↦ (subst (λ j. entry_of (set_at sets j).lines e.line ≡ Some e) (sym (placed_home (length sets) i (set_at sets i).lines e.line e (p.placed i) k.0)) k.0, k.1)
]

-- a dirty line was written below and made clean
pub clean_placed : (sets : List Kept) (line : ℕ) → IsPlaced sets → IsPlaced (with_clean sets line)
clean_placed sets line p = sets_placed_same sets (with_clean sets line) (sym (undirtied-with_clean sets line)) p

pub clean_due : (lines : List (List ℕ)) (sets : List Kept) (e : Entry) → IsPlaced sets → kept_of sets e.line ≡ Some e → e.dirty ≡ true → (x : ℕ) → due_of (set lines e.line e.bytes) (with_clean sets e.line) x ≡ due_of lines sets x
clean_due lines sets e p kept dirty =
    let i = e.line % length sets in
    let some = p.some in
    let inside : i < length sets = omega arith in
    let es = (set_at sets i).lines in
    due_step lines (set lines e.line e.bytes) sets p i inside (clean_in es e.line) (placed_same (length sets) i es (clean_in es e.line) (sym (undirtied-clean_in es e.line)) (p.placed i))
    (λ x o. o) (due_made_clean lines es e kept dirty) (λ x o away. refl)
