-- Dirty lines are written below, one after another.
use Rattle.std.proofs.Common.{◌≡◌, ◌≢◌, ◌<◌, ◌≤◌, ◌+◌, ◌%◌, ◌==◌, ℕ, zero, suc, true, false, List, [], ◌∷◌, Option, Some, None, length, length-set, set, drop, refl, sym, ap, ◌∙◌, subst, arith, ◌⊎◌, inl, inr, if◌then◌else◌}
use Rattle.std.specs.List.{slice_get}
use Rattle.std.specs.Option.{option_map}
use Rattle.std.proofs.lemmas.Bool.{ne_eqb, eq-eqb}
use Rattle.recency.proofs.ListLemmas.{slice_get-set, slice_get-set_other}
use Rattle.hier_types.proofs.LineLemmas.{lines-set}
use Rattle.recency.specs.declared.entry.Entry.{Entry}
use Rattle.recency.specs.Kept.{Kept, with_lines, entry_of, cleaned, last_dirty, last_dirty_from, clean_in}
use Rattle.recency.specs.Levels.{set_at, set_of, kept_of, bytes_or, overlay, IsGood, IsGoodEntry, IsSound, IsFirst}
use Rattle.recency.specs.Steps.{next_dirty, next_dirty_or, with_clean}
use Rattle.recency.proofs.UseLemmas.{by_eq}
use Rattle.recency.proofs.EntryLemmas.{at_front, past_front, good_entry, good_elsewhere}
use Rattle.recency.proofs.LevelLemmas.{shown, shown_kept, set_at-same, set_at-other, sound_step, overlay_step, in_range}

abbrev clean_if : ℕ → Entry → Entry
clean_if line e = if e.line == line then cleaned e else e

clean_at : (e : Entry) (line : ℕ) → e.line ≡ line → clean_if line e ≡ cleaned e
clean_at e line h = rw (eq-eqb e.line line h) refl

clean_past : (e : Entry) (line : ℕ) → e.line ≢ line → clean_if line e ≡ e
clean_past e line h = rw (ne_eqb e.line line h) refl

clean_line : (e : Entry) (line : ℕ) → (clean_if line e).line ≡ e.line
clean_line e line = by_eq e.line line (λ y. ap (λ z. z.line) (clean_at e line y)) (λ apart. ap (λ z. z.line) (clean_past e line apart))

clean_bytes : (e : Entry) (line : ℕ) → (clean_if line e).bytes ≡ e.bytes
clean_bytes e line = by_eq e.line line (λ y. ap (λ z. z.bytes) (clean_at e line y)) (λ apart. ap (λ z. z.bytes) (clean_past e line apart))

pub entry_of-clean_in : (es : List Entry) (line x : ℕ) → entry_of (clean_in es line) x ≡ option_map (clean_if line) (entry_of es x)
entry_of-clean_in [] line x = refl
entry_of-clean_in (e ∷ es) line x =
    by_eq e.line x
    (λ y. at_front (clean_if line e) (clean_in es line) x (clean_line e line ∙ y) ∙ sym (ap (option_map (clean_if line)) (at_front e es x y)))
    (λ apart. past_front (clean_if line e) (clean_in es line) x (λ k. apart (sym (clean_line e line) ∙ k)) ∙ entry_of-clean_in es line x ∙ sym (ap (option_map (clean_if line)) (past_front e es x apart)))

pub good_clean_in : (lines : List (List ℕ)) (n i : ℕ) (es : List Entry) (l : ℕ) (b : List ℕ) → IsGood lines n i es → ((f : Entry) → entry_of es l ≡ Some f → f.bytes ≡ b) → IsGood (set lines l b) n i (clean_in es l)
good_clean_in lines n i [] l b good has = tt
good_clean_in lines n i (f ∷ es) l b good has =
    by_eq f.line l
    (λ y.
    let none : entry_of es l ≡ None = ap (entry_of es) (sym y) ∙ good.1 in (
      record {
        inside = rw (length-set, clean_line f l) good.0.inside;
        home = rw (clean_line f l) good.0.home;
        full = rw (clean_bytes f l) good.0.full;
        clean = λ c. rw (clean_line f l, clean_bytes f l, y, has f (at_front f es l y)) (slice_get-set lines l b (subst (λ x. x < length lines) y good.0.inside));
      },
      rw (clean_line f l) (entry_of-clean_in es l f.line ∙ ap (option_map (clean_if l)) good.1),
      good_clean_in lines n i es l b good.2 (λ g is. absurd (let k : Some g ≡ None = sym is ∙ none in let k2 = k in cc)),
    ))
    (λ apart. (
      record {
        inside = rw (length-set, clean_line f l) good.0.inside;
        home = rw (clean_line f l) good.0.home;
        full = rw (clean_bytes f l) good.0.full;
        clean = λ c. rw (clean_line f l, clean_bytes f l, slice_get-set_other lines l f.line b (λ k. apart (sym k))) (good.0.clean (sym (ap (λ z. z.dirty) (clean_past f l apart)) ∙ c));
      },
      rw (clean_line f l) (entry_of-clean_in es l f.line ∙ ap (option_map (clean_if l)) good.1),
      good_clean_in lines n i es l b good.2 (λ g is. has g (past_front f es l apart ∙ is)),
    ))

pub shown_clean_in : (lines : List (List ℕ)) (n i : ℕ) (es : List Entry) (e : Entry) → IsGood lines n i es → entry_of es e.line ≡ Some e → (x : ℕ) → shown (set lines e.line e.bytes) (clean_in es e.line) x ≡ shown lines es x
shown_clean_in lines n i es e good kept x =
    let inside = (good_entry lines n i es e.line e good kept).inside in
    by_eq e.line x
    (λ y. subst (λ z. shown (set lines e.line e.bytes) (clean_in es e.line) z ≡ shown lines es z) y
    (shown_kept (set lines e.line e.bytes) (clean_in es e.line) (clean_if e.line e) e.line (rw length-set inside) (entry_of-clean_in es e.line e.line ∙ ap (option_map (clean_if e.line)) kept)
    ∙ ap Some (clean_bytes e e.line) ∙ sym (shown_kept lines es e e.line inside kept)))
    (λ apart. rw (slice_get-set_other lines e.line x e.bytes apart) (shown_other lines es e.line x apart))
  where
    shown_other : (lines : List (List ℕ)) (es : List Entry) (l x : ℕ) → l ≢ x → option_map (bytes_or (entry_of (clean_in es l) x)) (slice_get lines x) ≡ shown lines es x
    shown_other lines es l x ne = ap (λ k. option_map (bytes_or k) (slice_get lines x)) (same_other es)
      where
        same_other : (es : List Entry) → entry_of (clean_in es l) x ≡ entry_of es x
        same_other [] = refl
        same_other (f ∷ fs) =
            by_eq f.line x
            (λ y. at_front (clean_if l f) (clean_in fs l) x (clean_line f l ∙ y) ∙ ap Some (clean_past f l (λ k. ne (sym k ∙ y))) ∙ sym (at_front f fs x y))
            (λ apart. past_front (clean_if l f) (clean_in fs l) x (λ k. apart (sym (clean_line f l) ∙ k)) ∙ same_other fs ∙ sym (past_front f fs x apart))

-- the last dirty entry is kept, and dirty
last_dirty_is : (lines : List (List ℕ)) (n i : ℕ) (es : List Entry) (found : Option Entry) (e : Entry) → IsGood lines n i es → last_dirty_from found es ≡ Some e
    → (found ≡ Some e) ⊎ ((entry_of es e.line ≡ Some e) × (e.dirty ≡ true))
last_dirty_is lines n i [] found e good is = inl is
last_dirty_is lines n i (f ∷ es) found e good is =
    elim f.dirty as (λ t. f.dirty ≡ t → (found ≡ Some e) ⊎ ((entry_of (f ∷ es) e.line ≡ Some e) × (e.dirty ≡ true))) [
      | true ↦ λ t. elim (last_dirty_is lines n i es (Some f) e good.2 (ap (λ b. last_dirty_from (if b then Some f else found) es) (sym t) ∙ is)) [
        | inl k ↦ (let same : f ≡ e = (let q = k in cc) in inr (at_front f es e.line (ap (λ z. z.line) same) ∙ ap Some same, sym (ap (λ z. z.dirty) same) ∙ t))
        | inr k ↦ inr (past_front f es e.line (λ y. (let q : None ≡ Some e = sym good.1 ∙ ap (entry_of es) y ∙ k.0 in let q2 = q in cc)) ∙ k.0, k.1)
      ]
      | false ↦ λ t. elim (last_dirty_is lines n i es found e good.2 (ap (λ b. last_dirty_from (if b then Some f else found) es) (sym t) ∙ is)) [
        | inl k ↦ inl k
        | inr k ↦ inr (past_front f es e.line (λ y. (let q : None ≡ Some e = sym good.1 ∙ ap (entry_of es) y ∙ k.0 in let q2 = q in cc)) ∙ k.0, k.1)
      ]
    ] refl

-- the sets before an index keep no dirty line
abbrev pub AreClean : List Kept → ℕ → Type 0
AreClean sets before = (i : ℕ) → i < before → last_dirty (set_at sets i).lines ≡ None

-- the set that has the entry; those before it have none
some_set : (sets : List Kept) (found : Option Entry) (e : Entry) → next_dirty_or found sets ≡ Some e → (found ≡ Some e) ⊎ ((i : ℕ) × (i < length sets) × (last_dirty (set_at sets i).lines ≡ Some e) × (found ≡ None) × AreClean sets i)
some_set [] None e is = inl is
some_set [] (Some f) e is = inl is
some_set (k ∷ ks) (Some f) e is = inl is
some_set (k ∷ ks) None e is =
    elim (some_set ks (last_dirty k.lines) e is) [
      | inl h ↦ inr (0, omega arith, h, refl, λ i lt. absurd (omega arith))
      | inr h ↦ (let lt = h.1 in inr (suc h.0, omega arith, h.2, refl, before h.0 h.3 h.4))
    ]
  where
    before : (j : ℕ) → last_dirty k.lines ≡ None → AreClean ks j → AreClean (k ∷ ks) (suc j)
    before j none clean zero lt = none
    before j none clean (suc i) lt = clean i (omega arith)

-- sets with no dirty line are passed over
pub next_from : (sets : List Kept) (from : ℕ) → AreClean sets from → next_dirty (drop from sets) ≡ next_dirty sets
next_from [] zero clean = refl
next_from [] (suc from) clean = refl
next_from (k ∷ ks) zero clean = refl
next_from (k ∷ ks) (suc from) clean =
    next_from ks from (λ i lt. clean (suc i) (omega arith)) ∙ sym (ap (λ found. next_dirty_or found ks) (clean 0 (omega arith)))

module _ (lines : List (List ℕ)) (sets : List Kept) (sound : IsSound lines sets) (e : Entry) (next : next_dirty sets ≡ Some e) where
  pub next_kept : (e.line % length sets < length sets) × (entry_of (set_of sets e.line).lines e.line ≡ Some e) × (e.dirty ≡ true)
  next_kept =
      elim (some_set sets None e next) [
        | inl h ↦ absurd (let k = h in cc)
        | inr h ↦ elim (last_dirty_is lines (length sets) h.0 (set_at sets h.0).lines None e (sound.good h.0) h.2) [
          | inl k ↦ absurd (let q = k in cc)
          | inr k ↦ (
              let home : e.line % length sets ≡ h.0 = (good_entry lines (length sets) h.0 (set_at sets h.0).lines e.line e (sound.good h.0) k.0).home in
              (subst (λ j. j < length sets) (sym home) h.1, subst (λ j. entry_of (set_at sets j).lines e.line ≡ Some e) (sym home) k.0, k.1))
        ]
      ]

  -- the sets before the entry's keep no dirty line
  pub next_before : AreClean sets (e.line % length sets)
  next_before =
      elim (some_set sets None e next) [
        | inl h ↦ absurd (let k = h in cc)
        | inr h ↦ elim (last_dirty_is lines (length sets) h.0 (set_at sets h.0).lines None e (sound.good h.0) h.2) [
          | inl k ↦ absurd (let q = k in cc)
          | inr k ↦ (
              let home : e.line % length sets ≡ h.0 = (good_entry lines (length sets) h.0 (set_at sets h.0).lines e.line e (sound.good h.0) k.0).home in
              subst (λ j. AreClean sets j) (sym home) h.4)
        ]
      ]

  -- and still keep none when it was written
  pub next_before_clean : AreClean (with_clean sets e.line) (e.line % length (with_clean sets e.line))
  next_before_clean i lt =
      let before : i < e.line % length sets = rw length-set at lt in
      ap (λ (k : Kept). last_dirty k.lines) (set_at-other sets (e.line % length sets) i (with_lines (set_of sets e.line) (clean_in (set_of sets e.line).lines e.line)) (λ y. absurd (omega arith)))
      ∙ next_before i before

-- the last dirty entry of a set is kept in the set of its line
pub turn_kept : (lines : List (List ℕ)) (sets : List Kept) (sound : IsSound lines sets) (i : ℕ) (e : Entry) → last_dirty (set_at sets i).lines ≡ Some e → kept_of sets e.line ≡ Some e
turn_kept lines sets sound i e is = elim (last_dirty_is lines (length sets) i (set_at sets i).lines None e (sound.good i) is) [
  | inl k ↦ absurd (let q = k in cc)
  | inr k ↦ (
      let home : e.line % length sets ≡ i = (good_entry lines (length sets) i (set_at sets i).lines e.line e (sound.good i) k.0).home in
      subst (λ j. entry_of (set_at sets j).lines e.line ≡ Some e) (sym home) k.0)
]

-- how many entries are dirty
abbrev pub dirty_in : List Entry → ℕ
dirty_in [] = 0
dirty_in (e ∷ es) = (if e.dirty then 1 else 0) + dirty_in es

abbrev pub dirty_sum : List Kept → ℕ
dirty_sum [] = 0
dirty_sum (k ∷ ks) = dirty_in k.lines + dirty_sum ks

dirty_less : (es : List Entry) (l : ℕ) → dirty_in (clean_in es l) ≤ dirty_in es
dirty_less [] l = omega arith
dirty_less (f ∷ es) l =
    let rest = dirty_less es l in
    by_eq f.line l
    (λ y. rw (ap (λ z. z.dirty) (clean_at f l y)) (omega arith))
    (λ apart. rw (ap (λ z. z.dirty) (clean_past f l apart)) (omega arith))

dirty_falls : (es : List Entry) (e : Entry) (l : ℕ) → entry_of es l ≡ Some e → e.dirty ≡ true → dirty_in (clean_in es l) < dirty_in es
dirty_falls [] e l is dirty = absurd (let k = is in cc)
dirty_falls (f ∷ es) e l is dirty =
    by_eq f.line l
    (λ y.
    let q : Some f ≡ Some e = sym (at_front f es l y) ∙ is in
    let same : f ≡ e = cc in
    let t : f.dirty ≡ true = ap (λ z. z.dirty) same ∙ dirty in
    let rest = dirty_less es l in
    rw (ap (λ z. z.dirty) (clean_at f l y), t) (omega arith))
    (λ apart. (let rest = dirty_falls es e l (sym (past_front f es l apart) ∙ is) dirty in rw (ap (λ z. z.dirty) (clean_past f l apart)) (omega arith)))

sum_falls : (sets : List Kept) (i : ℕ) (k : Kept) → i < length sets → dirty_in k.lines < dirty_in (set_at sets i).lines → dirty_sum (set sets i k) < dirty_sum sets
sum_falls [] i k inside less = absurd (omega arith)
sum_falls (h ∷ sets) zero k inside less = omega arith
sum_falls (h ∷ sets) (suc i) k inside less = let rest = sum_falls sets i k (omega arith) less in omega arith

-- a line that is kept is written below, and made clean
module _ (lines : List (List ℕ)) (sets : List Kept) (sound : IsSound lines sets) (e : Entry) (kept : kept_of sets e.line ≡ Some e) where
  range : e.line % length sets < length sets
  range = in_range lines sets e.line sound

  good_back : IsGoodEntry lines (length sets) (e.line % length sets) e
  good_back = good_entry lines (length sets) (e.line % length sets) (set_of sets e.line).lines e.line e (sound.good (e.line % length sets)) kept

  pub back_inside : e.line < length lines
  back_inside = good_back.inside

  pub back_sound : IsSound (set lines e.line e.bytes) (with_clean sets e.line)
  back_sound =
      sound_step lines (set lines e.line e.bytes) sets (e.line % length sets) (with_lines (set_of sets e.line) (clean_in (set_of sets e.line).lines e.line)) sound (lines-set lines e.line e.bytes sound.whole good_back.full) range (sound.ways _ range)
      (λ j apart. good_elsewhere lines (length sets) j (set_at sets j).lines e.line e.bytes apart (sound.good j))
      (good_clean_in lines (length sets) (e.line % length sets) (set_of sets e.line).lines e.line e.bytes (sound.good (e.line % length sets))
      (λ f is. (let q : Some f ≡ Some e = sym is ∙ kept in let same : f ≡ e = cc in ap (λ z. z.bytes) same)))

  pub back_same : overlay (set lines e.line e.bytes) (with_clean sets e.line) ≡ overlay lines sets
  back_same =
      overlay_step lines (set lines e.line e.bytes) sets (e.line % length sets) (with_lines (set_of sets e.line) (clean_in (set_of sets e.line).lines e.line)) range
      (λ x at. shown_clean_in lines (length sets) (e.line % length sets) (set_of sets e.line).lines e (sound.good (e.line % length sets)) kept x)
      (λ x apart. slice_get-set_other lines e.line x e.bytes (λ y. apart (ap (λ z. z % length sets) (sym y))))

  pub back_falls : e.dirty ≡ true → dirty_sum (with_clean sets e.line) < dirty_sum sets
  back_falls dirty =
      sum_falls sets (e.line % length sets) (with_lines (set_of sets e.line) (clean_in (set_of sets e.line).lines e.line)) range
      (dirty_falls (set_of sets e.line).lines e e.line kept dirty)

-- the most recent line of a set stays so where one is made clean
pub clean_keeps_first : (sets : List Kept) (l line : ℕ) → l % length sets < length sets → IsFirst sets line → IsFirst (with_clean sets l) line
clean_keeps_first sets l line inside first =
    by_eq (l % length sets) (line % length sets)
    (λ y.
    let there : set_of sets l ≡ set_of sets line = ap (set_at sets) y in
    let here : slice_get (set_of sets l).lines 0 ≡ Some first.first = ap (λ (k : Kept). slice_get k.lines 0) there ∙ first.here in
    record {
      first = clean_if l first.first;
      here = rw length-set (ap (λ (k : Kept). slice_get k.lines 0) (ap (set_at (with_clean sets l)) (sym y) ∙ set_at-same sets (l % length sets) (with_lines (set_of sets l) (clean_in (set_of sets l).lines l)) inside)
          ∙ front (set_of sets l).lines first.first here);
      line_is = clean_line first.first l ∙ first.line_is;
    })
    (λ apart. record {
      first = first.first;
      here = rw length-set (ap (λ (k : Kept). slice_get k.lines 0) (set_at-other sets (l % length sets) (line % length sets) (with_lines (set_of sets l) (clean_in (set_of sets l).lines l)) apart) ∙ first.here);
      line_is = first.line_is;
    })
  where
    front : (es : List Entry) (e : Entry) → slice_get es 0 ≡ Some e → slice_get (clean_in es l) 0 ≡ Some (clean_if l e)
    front [] e is = absurd (let k = is in cc)
    front (f ∷ es) e is = let same : f ≡ e = cc in ap (λ z. Some (clean_if l z)) same
