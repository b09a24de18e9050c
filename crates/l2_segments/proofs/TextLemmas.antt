-- Strings and their tags.
use Rattle.std.proofs.Common.{◌≡◌, ◌≢◌, ◌<◌, ◌≤◌, ◌+◌, ◌==◌, ℕ, true, false, List, [], ◌∷◌, ◌++◌, Some, None, length, map, refl, sym, ap, ◌∙◌, subst, inl, inr, arith}
use Rattle.std.specs.List.{IsDistinct, AllByRecursion, list_any}
use Rattle.std.proofs.lemmas.Bool.{eq-eqb, ne_eqb, cases_eq}
use Rattle.std.proofs.lemmas.List.Sums.{sum_by-cons}
use Rattle.std.proofs.lemmas.Map.Steps.{length-le_from_distinct_below}
use Rattle.l2_segments.specs.Strings.{Text, segments_of, segments_sum, string_of, without, with_one_more, AreDistinct, IsString, AreStrings}

pub string_of-here : (t : Text) (ts : List Text) (tag : ℕ) → t.tag ≡ tag → string_of (t ∷ ts) tag ≡ Some t.bytes
string_of-here t ts tag e = rw (eq-eqb t.tag tag e) refl

pub string_of-past : (t : Text) (ts : List Text) (tag : ℕ) → t.tag ≢ tag → string_of (t ∷ ts) tag ≡ string_of ts tag
string_of-past t ts tag ne = rw (ne_eqb t.tag tag ne) refl

-- the first string has another tag than one that is not used
pub unused_apart : (t : Text) (ts : List Text) (tag : ℕ) → string_of (t ∷ ts) tag ≡ None → t.tag ≢ tag
unused_apart t ts tag none e = let k : Some t.bytes ≡ None = sym (string_of-here t ts tag e) ∙ none in cc

pub unused_past : (t : Text) (ts : List Text) (tag : ℕ) → string_of (t ∷ ts) tag ≡ None → string_of ts tag ≡ None
unused_past t ts tag none = sym (string_of-past t ts tag (unused_apart t ts tag none)) ∙ none

pub unused_here : (t : Text) (ts : List Text) (tag : ℕ) → t.tag ≢ tag → string_of ts tag ≡ None → string_of (t ∷ ts) tag ≡ None
unused_here t ts tag ne none = string_of-past t ts tag ne ∙ none

unused_more : (ts : List Text) (t : Text) (tag : ℕ) → t.tag ≢ tag → string_of ts tag ≡ None → string_of (ts ++ t ∷ []) tag ≡ None
unused_more [] t tag ne none = unused_here t [] tag ne refl
unused_more (y ∷ ts) t tag ne none = unused_here y (ts ++ t ∷ []) tag (unused_apart y ts tag none) (unused_more ts t tag ne (unused_past y ts tag none))

pub distinct_more : (ts : List Text) (t : Text) → AreDistinct ts → string_of ts t.tag ≡ None → AreDistinct (ts ++ t ∷ [])
distinct_more [] t once none = (refl, tt)
distinct_more (y ∷ ts) t once none =
    (unused_more ts t y.tag (λ e. unused_apart y ts t.tag none (sym e)) once.0, distinct_more ts t once.1 (unused_past y ts t.tag none))

pub strings_more : (limit : ℕ) (ts : List Text) (t : Text) → AreStrings limit ts → IsString limit t → AreStrings limit (ts ++ t ∷ [])
strings_more limit [] t are is = (is, tt)
strings_more limit (y ∷ ts) t are is = (are.0, strings_more limit ts t are.1 is)

pub without-here : (t : Text) (ts : List Text) (tag : ℕ) → t.tag ≡ tag → without (t ∷ ts) tag ≡ without ts tag
without-here t ts tag e = rw (eq-eqb t.tag tag e) refl

pub without-past : (t : Text) (ts : List Text) (tag : ℕ) → t.tag ≢ tag → without (t ∷ ts) tag ≡ t ∷ without ts tag
without-past t ts tag ne = rw (ne_eqb t.tag tag ne) refl

-- where the tag is not used, nothing is left out
pub without_none : (ts : List Text) (tag : ℕ) → string_of ts tag ≡ None → without ts tag ≡ ts
without_none [] tag none = refl
without_none (t ∷ ts) tag none =
    without-past t ts tag (unused_apart t ts tag none) ∙ ap (λ l. t ∷ l) (without_none ts tag (unused_past t ts tag none))

unused-without : (ts : List Text) (tag x : ℕ) → string_of ts x ≡ None → string_of (without ts tag) x ≡ None
unused-without [] tag x none = refl
unused-without (t ∷ ts) tag x none =
    let rest = unused-without ts tag x (unused_past t ts x none) in
    elim (cases_eq t.tag tag) [
      | inl e ↦ ap (λ l. string_of l x) (without-here t ts tag e) ∙ rest
      | inr ne ↦ ap (λ l. string_of l x) (without-past t ts tag ne) ∙ unused_here t (without ts tag) x (unused_apart t ts x none) rest
    ]

pub distinct-without : (ts : List Text) (tag : ℕ) → AreDistinct ts → AreDistinct (without ts tag)
distinct-without [] tag once = tt
distinct-without (t ∷ ts) tag once =
    elim (cases_eq t.tag tag) [
      | inl e ↦ subst AreDistinct (sym (without-here t ts tag e)) (distinct-without ts tag once.1)
      | inr ne ↦ subst AreDistinct (sym (without-past t ts tag ne)) (unused-without ts tag t.tag once.0, distinct-without ts tag once.1)
    ]

pub strings-without : (limit : ℕ) (ts : List Text) (tag : ℕ) → AreStrings limit ts → AreStrings limit (without ts tag)
strings-without limit [] tag are = tt
strings-without limit (t ∷ ts) tag are =
    elim (cases_eq t.tag tag) [
      | inl e ↦ subst (AreStrings limit) (sym (without-here t ts tag e)) (strings-without limit ts tag are.1)
      | inr ne ↦ subst (AreStrings limit) (sym (without-past t ts tag ne)) (are.0, strings-without limit ts tag are.1)
    ]

pub string_of-without : (ts : List Text) (tag : ℕ) → string_of (without ts tag) tag ≡ None
string_of-without [] tag = refl
string_of-without (t ∷ ts) tag =
    elim (cases_eq t.tag tag) [
      | inl e ↦ ap (λ l. string_of l tag) (without-here t ts tag e) ∙ string_of-without ts tag
      | inr ne ↦ ap (λ l. string_of l tag) (without-past t ts tag ne) ∙ unused_here t (without ts tag) tag ne (string_of-without ts tag)
    ]

-- two lists with the same first string
first_same : (t : Text) (us ts : List Text) (tag : ℕ) → string_of us tag ≡ string_of ts tag → string_of (t ∷ us) tag ≡ string_of (t ∷ ts) tag
first_same t us ts tag same =
    elim (cases_eq t.tag tag) [
      | inl e ↦ string_of-here t us tag e ∙ sym (string_of-here t ts tag e)
      | inr ne ↦ string_of-past t us tag ne ∙ same ∙ sym (string_of-past t ts tag ne)
    ]

pub string_of-without_other : (ts : List Text) (tag other : ℕ) → other ≢ tag → string_of (without ts tag) other ≡ string_of ts other
string_of-without_other [] tag other ne = refl
string_of-without_other (t ∷ ts) tag other ne =
    let rest = string_of-without_other ts tag other ne in
    elim (cases_eq t.tag tag) [
      | inl e ↦ ap (λ l. string_of l other) (without-here t ts tag e) ∙ rest ∙ sym (string_of-past t ts other (λ k. ne (sym k ∙ e)))
      | inr apart ↦ ap (λ l. string_of l other) (without-past t ts tag apart) ∙ first_same t (without ts tag) ts other rest
    ]

pub string_of-one_more : (ts : List Text) (tag : ℕ) (bytes : List ℕ) → string_of ts tag ≡ None → string_of (with_one_more ts tag bytes) tag ≡ Some bytes
string_of-one_more [] tag bytes none = string_of-here (record { tag = tag; bytes = bytes }) [] tag refl
string_of-one_more (t ∷ ts) tag bytes none =
    string_of-past t (with_one_more ts tag bytes) tag (unused_apart t ts tag none) ∙ string_of-one_more ts tag bytes (unused_past t ts tag none)

pub string_of-one_more_other : (ts : List Text) (tag : ℕ) (bytes : List ℕ) (other : ℕ) → other ≢ tag → string_of (with_one_more ts tag bytes) other ≡ string_of ts other
string_of-one_more_other [] tag bytes other ne = string_of-past (record { tag = tag; bytes = bytes }) [] other (λ e. ne (sym e))
string_of-one_more_other (t ∷ ts) tag bytes other ne = first_same t (with_one_more ts tag bytes) ts other (string_of-one_more_other ts tag bytes other ne)

-- what the others take, and this one
pub segments_sum-without : (ts : List Text) (tag : ℕ) (bytes : List ℕ) → AreDistinct ts → string_of ts tag ≡ Some bytes → segments_sum (without ts tag) + segments_of (length bytes) ≡ segments_sum ts
segments_sum-without [] tag bytes once is = absurd (let k = is in cc)
segments_sum-without (t ∷ ts) tag bytes once is =
    let all : segments_sum (t ∷ ts) ≡ segments_of (length t.bytes) + segments_sum ts = sum_by-cons (λ (t : Text). segments_of (length t.bytes)) t ts in
    elim (cases_eq t.tag tag) [
      | inl e ↦
          let same : t.bytes ≡ bytes = some_same (sym (string_of-here t ts tag e) ∙ is) in
          let others : without (t ∷ ts) tag ≡ ts = without-here t ts tag e ∙ without_none ts tag (ap (string_of ts) (sym e) ∙ once.0) in
          omega (arith, ap segments_sum others, ap (λ b. segments_of (length b)) same)
      | inr ne ↦
          let rest = segments_sum-without ts tag bytes once.1 (sym (string_of-past t ts tag ne) ∙ is) in
          let cut : segments_sum (without (t ∷ ts) tag) ≡ segments_of (length t.bytes) + segments_sum (without ts tag) =
          ap segments_sum (without-past t ts tag ne) ∙ sum_by-cons (λ (t : Text). segments_of (length t.bytes)) t (without ts tag) in
          omega arith
    ]
  where
    some_same : {x y : List ℕ} → Some x ≡ Some y → x ≡ y
    some_same e = cc

abbrev tags_of : List Text → List ℕ
tags_of ts = map (λ t. t.tag) ts

others_differ : (ts : List Text) (x : ℕ) → string_of ts x ≡ None → AllByRecursion (λ y. (x == y) ≡ false) (tags_of ts)
others_differ [] x none = tt
others_differ (t ∷ ts) x none =
    (ne_eqb x t.tag (λ e. unused_apart t ts x none (sym e)), others_differ ts x (unused_past t ts x none))

tags_differ : (ts : List Text) → AreDistinct ts → IsDistinct ◌==◌ (tags_of ts)
unfolding IsDistinct
tags_differ [] once = tt
tags_differ (t ∷ ts) once = (others_differ ts t.tag once.0, tags_differ ts once.1)

tags_below : (limit : ℕ) (ts : List Text) (x : ℕ) → AreStrings limit ts → list_any (λ y. x == y) (tags_of ts) ≡ true → x < limit
tags_below limit [] x are any = absurd (let k = any in cc)
tags_below limit (t ∷ ts) x are any =
    elim (cases_eq x t.tag) [
      | inl e ↦ let low = (are.0).tag in omega arith
      | inr ne ↦ tags_below limit ts x are.1 (rw (ne_eqb x t.tag ne) at any)
    ]

-- as many tags as numbers below the limit, at most
pub few : (limit : ℕ) (ts : List Text) → AreStrings limit ts → AreDistinct ts → length ts ≤ limit
few limit ts are once =
    let count : length (tags_of ts) ≤ limit = length-le_from_distinct_below (tags_of ts) limit (tags_differ ts once) (λ x any. tags_below limit ts x are any) in
    omega (arith, length_tags ts)
  where
    length_tags : (ts : List Text) → length (tags_of ts) ≡ length ts
    length_tags [] = refl
    length_tags (t ∷ ts) = let rest = length_tags ts in omega arith
