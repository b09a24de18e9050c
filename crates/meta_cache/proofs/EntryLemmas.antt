-- What the entries of pages are after a look, a new chunk and a removal.
use Rattle.std.proofs.Common.{◌≡◌, ◌≢◌, ℕ, Bool, true, false, List, [], ◌∷◌, Some, None, refl, sym, ap, ◌∙◌, if◌then◌else◌}
use Rattle.std.proofs.lemmas.Bool.{eq-eqb, ne_eqb}
use Rattle.recency.specs.declared.entry.Entry.{Entry}
use Rattle.recency.specs.Uses.{but_last}
use Rattle.recency.specs.Kept.{Kept, with_lines, clean_entry, entry_of, without, has_room, renewed}
use Rattle.recency.proofs.UseLemmas.{by_eq}
use Rattle.recency.proofs.EntryLemmas.{at_front, past_front, entry_of-without_other, entry_of-but_last_none}
use Rattle.meta_cache.specs.Entries.{looked, with_copy, forgotten, AreDistinct}

gone : (es : List Entry) (page : ℕ) → AreDistinct es → entry_of (without es page) page ≡ None
gone [] page d = refl
gone (f ∷ es) page d =
    by_eq f.line page
    (λ y. rw (eq-eqb f.line page y, ← y) d.0)
    (λ apart. rw (ne_eqb f.line page apart) (past_front f (without es page) page apart ∙ gone es page d.1))

distinct_without : (es : List Entry) (page : ℕ) → AreDistinct es → AreDistinct (without es page)
distinct_without [] page d = tt
distinct_without (f ∷ es) page d =
    by_eq f.line page
    (λ y. rw (eq-eqb f.line page y) d.1)
    (λ apart. rw (ne_eqb f.line page apart) (entry_of-without_other es page f.line apart ∙ d.0, distinct_without es page d.1))

distinct_but_last : (es : List Entry) → AreDistinct es → AreDistinct (but_last es)
distinct_but_last [] d = tt
distinct_but_last (f ∷ []) d = tt
distinct_but_last (f ∷ h ∷ es) d = (entry_of-but_last_none [] 0 0 (h ∷ es) f.line d.0, distinct_but_last (h ∷ es) d.1)

kept_but_last : (es : List Entry) (page : ℕ) (e : Entry) → entry_of (but_last es) page ≡ Some e → entry_of es page ≡ Some e
kept_but_last [] page e is = is
kept_but_last (f ∷ []) page e is = absurd (let k = is in cc)
kept_but_last (f ∷ h ∷ es) page e is =
    by_eq f.line page
    (λ y. at_front f (h ∷ es) page y ∙ sym (at_front f (but_last (h ∷ es)) page y) ∙ is)
    (λ apart. past_front f (h ∷ es) page apart ∙ kept_but_last (h ∷ es) page e (sym (past_front f (but_last (h ∷ es)) page apart) ∙ is))

renewed_here : (es : List Entry) (page : ℕ) (chunk : List ℕ) (e : Entry) → entry_of (renewed es page chunk) page ≡ Some e → e.bytes ≡ chunk
renewed_here [] page chunk e is = absurd (let k = is in cc)
renewed_here (f ∷ es) page chunk e is =
    by_eq f.line page
    (λ y.
    let k : Some (record f { bytes = chunk }) ≡ Some e = sym (at_front (record f { bytes = chunk }) es page y) ∙ (rw (eq-eqb f.line page y) at is) in
    let same : record f { bytes = chunk } ≡ e = cc in
    sym (ap (λ z. z.bytes) same))
    (λ apart. renewed_here es page chunk e (sym (past_front f (renewed es page chunk) page apart) ∙ (rw (ne_eqb f.line page apart) at is)))

renewed_other : (es : List Entry) (page x : ℕ) (chunk : List ℕ) → x ≢ page → entry_of (renewed es page chunk) x ≡ entry_of es x
renewed_other [] page x chunk other = refl
renewed_other (f ∷ es) page x chunk other =
    by_eq f.line page
    (λ y. rw (eq-eqb f.line page y) (past_front (record f { bytes = chunk }) es x (λ k. other (sym k ∙ y)) ∙ sym (past_front f es x (λ k. other (sym k ∙ y)))))
    (λ apart. rw (ne_eqb f.line page apart) (by_eq f.line x
    (λ y. at_front f (renewed es page chunk) x y ∙ sym (at_front f es x y))
    (λ away. past_front f (renewed es page chunk) x away ∙ renewed_other es page x chunk other ∙ sym (past_front f es x away))))

distinct_renewed : (es : List Entry) (page : ℕ) (chunk : List ℕ) → AreDistinct es → AreDistinct (renewed es page chunk)
distinct_renewed [] page chunk d = tt
distinct_renewed (f ∷ es) page chunk d =
    by_eq f.line page
    (λ y. rw (eq-eqb f.line page y) d)
    (λ apart. rw (ne_eqb f.line page apart) (renewed_other es page f.line chunk apart ∙ d.0, distinct_renewed es page chunk d.1))

module _ (kept : Kept) (page : ℕ) (chunk : List ℕ) where
  abbrev others : Kept
  others = with_lines kept (without kept.lines page)

  pub looked_page : entry_of (looked kept page chunk).lines page ≡ Some (clean_entry page chunk)
  looked_page = at_front (clean_entry page chunk) (if has_room others then others.lines else but_last others.lines) page refl

  pub looked_other : (q : ℕ) (e : Entry) → q ≢ page → entry_of (looked kept page chunk).lines q ≡ Some e → entry_of kept.lines q ≡ Some e
  looked_other q e other is =
      sym (entry_of-without_other kept.lines page q other)
      ∙ stayed (has_room others) (sym (past_front (clean_entry page chunk) (if has_room others then others.lines else but_last others.lines) q (λ y. other (sym y))) ∙ is)
    where
      stayed : (room : Bool) → entry_of (if room then others.lines else but_last others.lines) q ≡ Some e → entry_of others.lines q ≡ Some e
      stayed true is = is
      stayed false is = kept_but_last others.lines q e is

  pub distinct_looked : AreDistinct kept.lines → AreDistinct (looked kept page chunk).lines
  distinct_looked d = stayed (has_room others) (gone kept.lines page d) (distinct_without kept.lines page d)
    where
      stayed : (room : Bool) → entry_of others.lines page ≡ None → AreDistinct others.lines → AreDistinct (clean_entry page chunk ∷ (if room then others.lines else but_last others.lines))
      stayed true none rest = (none, rest)
      stayed false none rest = (entry_of-but_last_none [] 0 0 others.lines page none, distinct_but_last others.lines rest)

  pub with_copy_page : (e : Entry) → entry_of (with_copy kept page chunk).lines page ≡ Some e → e.bytes ≡ chunk
  with_copy_page e is = renewed_here kept.lines page chunk e is

  pub with_copy_other : (q : ℕ) → q ≢ page → entry_of (with_copy kept page chunk).lines q ≡ entry_of kept.lines q
  with_copy_other q other = renewed_other kept.lines page q chunk other

  pub distinct_with_copy : AreDistinct kept.lines → AreDistinct (with_copy kept page chunk).lines
  distinct_with_copy d = distinct_renewed kept.lines page chunk d

pub forgotten_page : (kept : Kept) (page : ℕ) → AreDistinct kept.lines → entry_of (forgotten kept page).lines page ≡ None
forgotten_page kept page d = gone kept.lines page d

pub forgotten_other : (kept : Kept) (page q : ℕ) → q ≢ page → entry_of (forgotten kept page).lines q ≡ entry_of kept.lines q
forgotten_other kept page q other = entry_of-without_other kept.lines page q other

pub distinct_forgotten : (kept : Kept) (page : ℕ) → AreDistinct kept.lines → AreDistinct (forgotten kept page).lines
distinct_forgotten kept page d = distinct_without kept.lines page d
