-- The calls of a cache leave what they say, and keep its bounds.
use Rattle.std.proofs.Common.{◌≡◌, ◌<◌, ◌≤◌, ℕ, suc, Bool, true, false, List, [], ◌∷◌, Some, None, length, refl, sym, ap, ◌∙◌, arith, if◌then◌else◌}
use Rattle.std.specs.Option.{is_some}
use Rattle.std.proofs.lemmas.Bool.{eq-eqb, ne_eqb, lt-ltb, ltb-true}
use Rattle.recency.specs.declared.entry.Entry.{Entry}
use Rattle.recency.specs.Uses.{but_last}
use Rattle.recency.specs.Kept.{Kept, with_lines, clean_entry, entry_of, without, touched, has_room, put_in, renewed}
use Rattle.recency.proofs.UseLemmas.{by_eq}
use Rattle.recency.proofs.EntryLemmas.{at_front, past_front, entry_of-is, without_absent}
use Rattle.meta_cache.specs.Entries.{looked, with_copy, forgotten, AreClean, IsCache}
use Rattle.meta_cache.proofs.EntryLemmas.{distinct_looked, distinct_with_copy, distinct_forgotten}

-- how many entries there are then
fewer_without : (es : List Entry) (page : ℕ) (e : Entry) → entry_of es page ≡ Some e → length (without es page) < length es
fewer_without [] page e is = absurd (let k = is in cc)
fewer_without (f ∷ es) page e is =
    by_eq f.line page
    (λ y. rw (eq-eqb f.line page y) (omega arith))
    (λ apart. rw (ne_eqb f.line page apart) (let rest = fewer_without es page e (sym (past_front f es page apart) ∙ is) in omega arith))

length-without : (es : List Entry) (page : ℕ) → length (without es page) ≤ length es
length-without [] page = omega arith
length-without (f ∷ es) page =
    by_eq f.line page
    (λ y. rw (eq-eqb f.line page y) (omega arith))
    (λ apart. rw (ne_eqb f.line page apart) (let rest = length-without es page in omega arith))

length-but_last : (es : List Entry) (ways : ℕ) → 0 < ways → length es ≤ ways → length (but_last es) < ways
length-but_last [] ways some le = some
length-but_last (f ∷ []) ways some le = some
length-but_last (f ∷ h ∷ es) ways some le = let rest = length-but_last (h ∷ es) (length (h ∷ es)) (omega arith) (omega arith) in omega arith

length-renewed : (es : List Entry) (page : ℕ) (chunk : List ℕ) → length (renewed es page chunk) ≡ length es
length-renewed [] page chunk = refl
length-renewed (f ∷ es) page chunk =
    by_eq f.line page
    (λ y. rw (eq-eqb f.line page y) refl)
    (λ apart. rw (ne_eqb f.line page apart) (ap suc (length-renewed es page chunk)))

-- no entry is marked then
clean_kept : (es : List Entry) (page : ℕ) (e : Entry) → AreClean es → entry_of es page ≡ Some e → e.dirty ≡ false
clean_kept [] page e clean is = absurd (let k = is in cc)
clean_kept (f ∷ es) page e clean is =
    by_eq f.line page
    (λ y. let k : Some f ≡ Some e = sym (at_front f es page y) ∙ is in let same : f ≡ e = cc in sym (ap (λ (z : Entry). z.dirty) same) ∙ clean.0)
    (λ apart. clean_kept es page e clean.1 (sym (past_front f es page apart) ∙ is))

clean_without : (es : List Entry) (page : ℕ) → AreClean es → AreClean (without es page)
clean_without [] page clean = tt
clean_without (f ∷ es) page clean =
    by_eq f.line page (λ y. rw (eq-eqb f.line page y) clean.1) (λ apart. rw (ne_eqb f.line page apart) (clean.0, clean_without es page clean.1))

clean_but_last : (es : List Entry) → AreClean es → AreClean (but_last es)
clean_but_last [] clean = tt
clean_but_last (f ∷ []) clean = tt
clean_but_last (f ∷ h ∷ es) clean = (clean.0, clean_but_last (h ∷ es) clean.1)

clean_renewed : (es : List Entry) (page : ℕ) (chunk : List ℕ) → AreClean es → AreClean (renewed es page chunk)
clean_renewed [] page chunk clean = tt
clean_renewed (f ∷ es) page chunk clean =
    by_eq f.line page (λ y. rw (eq-eqb f.line page y) clean) (λ apart. rw (ne_eqb f.line page apart) (clean.0, clean_renewed es page chunk clean.1))

module _ (kept : Kept) (page : ℕ) (chunk : List ℕ) where
  abbrev others : Kept
  others = with_lines kept (without kept.lines page)

  abbrev after_touch : Kept
  after_touch = with_lines kept (touched kept.lines page)

  -- an entry that is there comes to the front and is renewed, one that is not is put in
  pub look_hit : IsCache kept → is_some (entry_of kept.lines page) ≡ true → with_lines after_touch (renewed after_touch.lines page chunk) ≡ looked kept page chunk
  look_hit cache found = elim (entry_of kept.lines page) as (λ o. entry_of kept.lines page ≡ o → is_some o ≡ true → with_lines after_touch (renewed after_touch.lines page chunk) ≡ looked kept page chunk) [
    | None ↦ λ is t. absurd (let k = t in cc)
    | Some e ↦ λ is t. there e is
  ] refl found
    where
      there : (e : Entry) → entry_of kept.lines page ≡ Some e → with_lines after_touch (renewed after_touch.lines page chunk) ≡ looked kept page chunk
      there e is =
          let at : e.line ≡ page = entry_of-is kept.lines page e is in
          let unmarked : e.dirty ≡ false = clean_kept kept.lines page e cache.clean is in
          let fewer = fewer_without kept.lines page e is in
          let within = cache.within in
          let room : has_room others ≡ true = lt-ltb (length (without kept.lines page)) kept.ways (omega arith) in
          let same : record e { bytes = chunk } ≡ clean_entry page chunk = cc in
          rw (is, eq-eqb e.line page at, room) (ap (λ (z : Entry). with_lines kept (z ∷ without kept.lines page)) same)

  pub look_miss : is_some (entry_of kept.lines page) ≡ false → with_lines after_touch (put_in after_touch (clean_entry page chunk)) ≡ looked kept page chunk
  look_miss out = elim (entry_of kept.lines page) as (λ o. entry_of kept.lines page ≡ o → is_some o ≡ false → with_lines after_touch (put_in after_touch (clean_entry page chunk)) ≡ looked kept page chunk) [
    | None ↦ λ is t. rw (is, without_absent kept.lines page is) refl
    | Some e ↦ λ is t. absurd (let k = t in cc)
  ] refl out

  pub cache_looked : IsCache kept → IsCache (looked kept page chunk)
  cache_looked cache = record {
    some = cache.some;
    within = fits (has_room others) refl;
    distinct = distinct_looked kept page chunk cache.distinct;
    clean = (refl, unmarked (has_room others) (clean_without kept.lines page cache.clean));
  }
    where
      fits : (room : Bool) → has_room others ≡ room → length (clean_entry page chunk ∷ (if room then others.lines else but_last others.lines)) ≤ kept.ways
      fits true is = let lt = ltb-true (length others.lines) kept.ways is in omega arith
      fits false is = let le = length-without kept.lines page in let within = cache.within in let some = cache.some in let lt = length-but_last others.lines kept.ways some (omega arith) in omega arith

      unmarked : (room : Bool) → AreClean others.lines → AreClean (if room then others.lines else but_last others.lines)
      unmarked true clean = clean
      unmarked false clean = clean_but_last others.lines clean

  pub cache_with_copy : IsCache kept → IsCache (with_copy kept page chunk)
  cache_with_copy cache = record {
    some = cache.some;
    within = rw (length-renewed kept.lines page chunk) cache.within;
    distinct = distinct_with_copy kept page chunk cache.distinct;
    clean = clean_renewed kept.lines page chunk cache.clean;
  }

pub cache_forgotten : (kept : Kept) (page : ℕ) → IsCache kept → IsCache (forgotten kept page)
cache_forgotten kept page cache = record {
  some = cache.some;
  within = let le = length-without kept.lines page in let within = cache.within in omega arith;
  distinct = distinct_forgotten kept page cache.distinct;
  clean = clean_without kept.lines page cache.clean;
}
