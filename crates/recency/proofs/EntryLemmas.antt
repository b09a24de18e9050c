-- What a step does to the lines of one set.
use Rattle.std.proofs.Common.{◌≡◌, ◌≢◌, ◌%◌, ℕ, false, List, [], ◌∷◌, Some, None, length-set, set, refl, sym, ap, ◌∙◌, subst, arith}
use Rattle.std.proofs.lemmas.Bool.Decides.{nat_tests}
use Rattle.std.proofs.lemmas.Bool.{eq-eqb, ne_eqb}
use Rattle.recency.proofs.UseLemmas.{by_eq}
use Rattle.recency.proofs.ListLemmas.{slice_get-set, slice_get-set_other}
use Rattle.recency.specs.declared.entry.Entry.{Entry}
use Rattle.recency.specs.Uses.{last_of, but_last}
use Rattle.recency.specs.Kept.{entry_of, without, touched, clean_last, cleaned, renewed}
use Rattle.recency.specs.Levels.{IsGoodEntry, IsGood}

pub entry_of-without_other : (es : List Entry) (line x : ℕ) → x ≢ line → entry_of (without es line) x ≡ entry_of es x
entry_of-without_other [] line x ne = refl
entry_of-without_other (e ∷ es) line x ne = grind (arith, nat_tests, entry_of-without_other es line x ne)

pub entry_of-is : (es : List Entry) (line : ℕ) (e : Entry) → entry_of es line ≡ Some e → e.line ≡ line
entry_of-is [] line e is = cc
entry_of-is (f ∷ es) line e is = grind (arith, nat_tests, entry_of-is es line e)

pub entry_of-touched : (es : List Entry) (line x : ℕ) (e : Entry) → entry_of es line ≡ Some e → entry_of (touched es line) x ≡ entry_of es x
entry_of-touched es line x e is =
    let at : e.line ≡ line = entry_of-is es line e is in
    rw is (grind (arith, nat_tests, is, entry_of-without_other es line x))

-- the entry in but_last is of this line
pub at_front : (e : Entry) (es : List Entry) (line : ℕ) → e.line ≡ line → entry_of (e ∷ es) line ≡ Some e
at_front e es line h = rw (eq-eqb e.line line h) refl

-- or of another
pub past_front : (e : Entry) (es : List Entry) (line : ℕ) → e.line ≢ line → entry_of (e ∷ es) line ≡ entry_of es line
past_front e es line h = rw (ne_eqb e.line line h) refl

-- a line that is not kept is not taken out, and has no copy to renew
pub without_absent : (es : List Entry) (line : ℕ) → entry_of es line ≡ None → without es line ≡ es
without_absent [] line none = refl
without_absent (f ∷ es) line none =
    by_eq f.line line (λ y. let k : Some f ≡ None = sym (at_front f es line y) ∙ none in absurd (let k2 = k in cc))
    (λ apart. rw (ne_eqb f.line line apart) (ap (λ l. f ∷ l) (without_absent es line (sym (past_front f es line apart) ∙ none))))

pub renewed_absent : (es : List Entry) (line : ℕ) (bytes : List ℕ) → entry_of es line ≡ None → renewed es line bytes ≡ es
renewed_absent [] line bytes none = refl
renewed_absent (f ∷ es) line bytes none =
    by_eq f.line line (λ y. let k : Some f ≡ None = sym (at_front f es line y) ∙ none in absurd (let k2 = k in cc))
    (λ apart. rw (ne_eqb f.line line apart) (ap (λ l. f ∷ l) (renewed_absent es line bytes (sym (past_front f es line apart) ∙ none))))

-- the last entry is kept
pub last_kept : (es : List Entry) (e : Entry) → last_of es ≡ Some e → entry_of es e.line ≡ None → ⊥
last_kept [] e is none = cc
last_kept (f ∷ []) e is none = let same : f ≡ e = cc in let k : Some f ≡ None = sym (at_front f [] e.line (ap (λ x. x.line) same)) ∙ none in cc
last_kept (f ∷ h ∷ es) e is none =
    by_eq f.line e.line (λ y. let k : Some f ≡ None = sym (at_front f (h ∷ es) e.line y) ∙ none in cc)
    (λ apart. last_kept (h ∷ es) e is (sym (past_front f (h ∷ es) e.line apart) ∙ none))

module _ (lines : List (List ℕ)) (n i : ℕ) where
  pub good_entry : (es : List Entry) (line : ℕ) (e : Entry) → IsGood lines n i es → entry_of es line ≡ Some e → IsGoodEntry lines n i e
  good_entry [] line e good is = absurd (let h = is in cc)
  good_entry (f ∷ es) line e good is =
      by_eq f.line line
      (λ y. let k : Some f ≡ Some e = sym (at_front f es line y) ∙ is in let same : f ≡ e = cc in subst (λ z. IsGoodEntry lines n i z) same good.0)
      (λ apart. good_entry es line e good.2 (sym (past_front f es line apart) ∙ is))

  -- what is taken out is no longer kept
  pub gone : (es : List Entry) (line : ℕ) → IsGood lines n i es → entry_of (without es line) line ≡ None
  gone [] line good = refl
  gone (f ∷ es) line good =
      by_eq f.line line
      (λ y. rw (eq-eqb f.line line y, ← y) good.1)
      (λ apart. rw (ne_eqb f.line line apart) (past_front f (without es line) line apart ∙ gone es line good.2))

  pub good_without : (es : List Entry) (line : ℕ) → IsGood lines n i es → IsGood lines n i (without es line)
  good_without [] line good = tt
  good_without (f ∷ es) line good =
      by_eq f.line line
      (λ y. rw (eq-eqb f.line line y) good.2)
      (λ apart. rw (ne_eqb f.line line apart) (good.0, entry_of-without_other es line f.line apart ∙ good.1, good_without es line good.2))

  pub good_touched : (es : List Entry) (line : ℕ) (e : Entry) → IsGood lines n i es → entry_of es line ≡ Some e → IsGood lines n i (touched es line)
  good_touched es line e good is =
      rw is (good_entry es line e good is, rw (entry_of-is es line e is) (gone es line good), good_without es line good)

  -- the last entry is what is kept of its line
  pub last_entry : (es : List Entry) (e : Entry) → IsGood lines n i es → last_of es ≡ Some e → entry_of es e.line ≡ Some e
  last_entry [] e good is = absurd (let h = is in cc)
  last_entry (f ∷ []) e good is = let same : f ≡ e = cc in at_front f [] e.line (ap (λ x. x.line) same) ∙ ap Some same
  last_entry (f ∷ h ∷ es) e good is =
      by_eq f.line e.line (λ y. absurd (last_kept (h ∷ es) e is (rw (← y) good.1)))
      (λ apart. past_front f (h ∷ es) e.line apart ∙ last_entry (h ∷ es) e good.2 is)

  pub entry_of-but_last_other : (es : List Entry) (e : Entry) (x : ℕ) → last_of es ≡ Some e → e.line ≢ x → entry_of (but_last es) x ≡ entry_of es x
  entry_of-but_last_other [] e x is other = refl
  entry_of-but_last_other (f ∷ []) e x is other = let same : f ≡ e = cc in sym (past_front f [] x (λ y. other (sym (ap (λ z. z.line) same) ∙ y)))
  entry_of-but_last_other (f ∷ h ∷ es) e x is other =
      by_eq f.line x (λ y. at_front f (but_last (h ∷ es)) x y ∙ sym (at_front f (h ∷ es) x y))
      (λ apart. past_front f (but_last (h ∷ es)) x apart ∙ entry_of-but_last_other (h ∷ es) e x is other ∙ sym (past_front f (h ∷ es) x apart))

  pub entry_of-but_last_last : (es : List Entry) (e : Entry) → IsGood lines n i es → last_of es ≡ Some e → entry_of (but_last es) e.line ≡ None
  entry_of-but_last_last [] e good is = refl
  entry_of-but_last_last (f ∷ []) e good is = refl
  entry_of-but_last_last (f ∷ h ∷ es) e good is =
      by_eq f.line e.line (λ y. absurd (last_kept (h ∷ es) e is (rw (← y) good.1)))
      (λ apart. past_front f (but_last (h ∷ es)) e.line apart ∙ entry_of-but_last_last (h ∷ es) e good.2 is)

  -- a line that is not kept is not kept after the last one leaves
  pub entry_of-but_last_none : (es : List Entry) (x : ℕ) → entry_of es x ≡ None → entry_of (but_last es) x ≡ None
  entry_of-but_last_none [] x none = refl
  entry_of-but_last_none (f ∷ []) x none = refl
  entry_of-but_last_none (f ∷ h ∷ es) x none =
      by_eq f.line x (λ y. let k : Some f ≡ None = sym (at_front f (h ∷ es) x y) ∙ none in absurd (let k2 = k in cc))
      (λ apart. past_front f (but_last (h ∷ es)) x apart ∙ entry_of-but_last_none (h ∷ es) x (sym (past_front f (h ∷ es) x apart) ∙ none))

  pub good_but_last : (es : List Entry) → IsGood lines n i es → IsGood lines n i (but_last es)
  good_but_last [] good = tt
  good_but_last (f ∷ []) good = tt
  good_but_last (f ∷ h ∷ es) good = (good.0, entry_of-but_last_none (h ∷ es) f.line good.1, good_but_last (h ∷ es) good.2)

  pub entry_of-clean_other : (es : List Entry) (e : Entry) (x : ℕ) → last_of es ≡ Some e → e.line ≢ x → entry_of (clean_last es) x ≡ entry_of es x
  entry_of-clean_other [] e x is other = refl
  entry_of-clean_other (f ∷ []) e x is other =
      let same : f ≡ e = cc in
      let apart : f.line ≢ x = λ y. other (sym (ap (λ z. z.line) same) ∙ y) in
      past_front (cleaned f) [] x apart ∙ sym (past_front f [] x apart)
  entry_of-clean_other (f ∷ h ∷ es) e x is other =
      by_eq f.line x (λ y. at_front f (clean_last (h ∷ es)) x y ∙ sym (at_front f (h ∷ es) x y))
      (λ apart. past_front f (clean_last (h ∷ es)) x apart ∙ entry_of-clean_other (h ∷ es) e x is other ∙ sym (past_front f (h ∷ es) x apart))

  pub entry_of-clean_last : (es : List Entry) (e : Entry) → IsGood lines n i es → last_of es ≡ Some e → entry_of (clean_last es) e.line ≡ Some (cleaned e)
  entry_of-clean_last [] e good is = absurd (let h = is in cc)
  entry_of-clean_last (f ∷ []) e good is = let same : f ≡ e = cc in at_front (cleaned f) [] e.line (ap (λ x. x.line) same) ∙ ap (λ z. Some (cleaned z)) same
  entry_of-clean_last (f ∷ h ∷ es) e good is =
      by_eq f.line e.line (λ y. absurd (last_kept (h ∷ es) e is (rw (← y) good.1)))
      (λ apart. past_front f (clean_last (h ∷ es)) e.line apart ∙ entry_of-clean_last (h ∷ es) e good.2 is)

  -- the last line was written below
  pub good_clean_last : (es : List Entry) (e : Entry) → IsGood lines n i es → last_of es ≡ Some e → IsGood (set lines e.line e.bytes) n i (clean_last es)
  good_clean_last [] e good is = tt
  good_clean_last (f ∷ []) e good is =
      let same : f ≡ e = cc in
      subst (λ (z : Entry). IsGood (set lines z.line z.bytes) n i (cleaned f ∷ [])) same
      (record { inside = rw length-set good.0.inside; home = good.0.home; full = good.0.full; clean = λ _. slice_get-set lines f.line f.bytes good.0.inside }, refl, tt)
  good_clean_last (f ∷ h ∷ es) e good is =
      let ne : e.line ≢ f.line = λ y. last_kept (h ∷ es) e is (rw y good.1) in (
        record { inside = rw length-set good.0.inside; home = good.0.home; full = good.0.full; clean = λ c. slice_get-set_other lines e.line f.line e.bytes ne ∙ good.0.clean c },
        entry_of-clean_other (h ∷ es) e f.line is ne ∙ good.1,
        good_clean_last (h ∷ es) e good.2 is,
      )

  -- other lines were written below
  pub good_elsewhere : (es : List Entry) (l : ℕ) (bytes : List ℕ) → l % n ≢ i → IsGood lines n i es → IsGood (set lines l bytes) n i es
  good_elsewhere [] l bytes other good = tt
  good_elsewhere (f ∷ es) l bytes other good =
      let ne : l ≢ f.line = λ y. other (ap (λ x. x % n) y ∙ good.0.home) in (
        record { inside = rw length-set good.0.inside; home = good.0.home; full = good.0.full; clean = λ c. slice_get-set_other lines l f.line bytes ne ∙ good.0.clean c },
        good.1,
        good_elsewhere es l bytes other good.2,
      )

-- a line that is not kept is not kept after the last one is made clean
pub entry_of-clean_none : (es : List Entry) (x : ℕ) → entry_of es x ≡ None → entry_of (clean_last es) x ≡ None
entry_of-clean_none [] x none = refl
entry_of-clean_none (f ∷ []) x none =
    by_eq f.line x (λ y. let k : Some f ≡ None = sym (at_front f [] x y) ∙ none in absurd (let k2 = k in cc)) (λ apart. past_front (cleaned f) [] x apart)
entry_of-clean_none (f ∷ h ∷ es) x none =
    by_eq f.line x (λ y. let k : Some f ≡ None = sym (at_front f (h ∷ es) x y) ∙ none in absurd (let k2 = k in cc))
    (λ apart. past_front f (clean_last (h ∷ es)) x apart ∙ entry_of-clean_none (h ∷ es) x (sym (past_front f (h ∷ es) x apart) ∙ none))

pub last_of-clean_last : (es : List Entry) (e : Entry) → last_of (clean_last es) ≡ Some e → e.dirty ≡ false
last_of-clean_last [] e is = absurd (let h = is in cc)
last_of-clean_last (f ∷ []) e is = let same : cleaned f ≡ e = cc in sym (ap (λ x. x.dirty) same)
last_of-clean_last (f ∷ h ∷ []) e is = last_of-clean_last (h ∷ []) e is
last_of-clean_last (f ∷ h ∷ k ∷ es) e is = last_of-clean_last (h ∷ k ∷ es) e is
