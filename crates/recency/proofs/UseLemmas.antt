-- Slots in use, and those that are taken out.
use Rattle.std.proofs.Common.{◌≡◌, ◌≢◌, ◌<◌, ◌+◌, ◌==◌, ℕ, Bool, true, false, List, [], ◌∷◌, Some, None, length, refl, sym, ap, ◌∙◌, subst, arith, if◌then◌else◌}
use Rattle.std.proofs.lemmas.Bool.{eqb-true, eqb-false, eq-eqb, ne_eqb}
use Rattle.recency.specs.Uses.{has, removed, last_of, more_recent, IsDistinct, AllBelow}

-- the first slot, or else the number given
abbrev pub first_or : List ℕ → ℕ → ℕ
first_or [] d = d
first_or (y ∷ ys) d = y

-- the next less recent slot, or else the number given
abbrev pub after : List ℕ → ℕ → ℕ → ℕ
after [] s d = d
after (y ∷ ys) s d = if y == s then first_or ys d else after ys s d

-- the next more recent slot, or else the number given
abbrev pub before : ℕ → List ℕ → ℕ → ℕ
before d [] s = d
before d (y ∷ ys) s = if y == s then d else before y ys s

-- the last slot, or else the number given
abbrev pub last_or : ℕ → List ℕ → ℕ
last_or d [] = d
last_or d (y ∷ ys) = last_or y ys

pub by_eq : {P : Type 0} (a b : ℕ) → (a ≡ b → P) → (a ≢ b → P) → P
by_eq {P} a b at other = elim (a == b) as (λ t. (a == b) ≡ t → P) [ true ↦ λ h. at (eqb-true a b h) | false ↦ λ h. other (eqb-false a b h) ] refl

pub has_front : (y : ℕ) (ys : List ℕ) (s : ℕ) → y ≡ s → has (y ∷ ys) s ≡ true
has_front y ys s h = rw (eq-eqb y s h) refl

pub has_past : (y : ℕ) (ys : List ℕ) (s : ℕ) → y ≢ s → has (y ∷ ys) s ≡ has ys s
has_past y ys s h = rw (ne_eqb y s h) refl

pub not_front : (y : ℕ) (ys : List ℕ) (s : ℕ) → has (y ∷ ys) s ≡ false → y ≢ s
not_front y ys s gone e = let k : true ≡ false = sym (has_front y ys s e) ∙ gone in cc

pub not_past : (y : ℕ) (ys : List ℕ) (s : ℕ) → has (y ∷ ys) s ≡ false → has ys s ≡ false
not_past y ys s gone = sym (has_past y ys s (not_front y ys s gone)) ∙ gone

pub not_both : (b : Bool) → b ≡ true → b ≡ false → ⊥
not_both b t f = let k : true ≡ false = sym t ∙ f in cc

pub has_apart : (ys : List ℕ) (s x : ℕ) → has ys s ≡ true → has ys x ≡ false → s ≢ x
has_apart ys s x t f e = not_both (has ys x) (ap (has ys) (sym e) ∙ t) f

pub before_has : (from : ℕ) (ss : List ℕ) (s : ℕ) → has ss s ≡ true → has (from ∷ ss) (before from ss s) ≡ true
before_has from [] s h = absurd (let k = h in cc)
before_has from (y ∷ ss) s h =
    by_eq y s (λ e. rw (eq-eqb y s e) (has_front from (y ∷ ss) from refl))
    (λ apart. rw (ne_eqb y s apart)
    (by_eq from (before y ss s) (λ e. has_front from (y ∷ ss) (before y ss s) e)
    (λ away. has_past from (y ∷ ss) (before y ss s) away ∙ before_has y ss s (sym (has_past y ss s apart) ∙ h))))

pub after_has : (ss : List ℕ) (s to : ℕ) → has ss s ≡ true → (after ss s to ≢ to) → has ss (after ss s to) ≡ true
after_has [] s to h ne = absurd (let k = h in cc)
after_has (y ∷ []) s to h ne =
    by_eq y s (λ e. absurd (ne (rw (eq-eqb y s e) refl))) (λ apart. absurd (not_both (has (y ∷ []) s) h (has_past y [] s apart)))
after_has (y ∷ z ∷ ss) s to h ne =
    by_eq y s
    (λ e. rw (eq-eqb y s e) (by_eq y z (λ k. has_front y (z ∷ ss) z k) (λ apart. has_past y (z ∷ ss) z apart ∙ has_front z ss z refl)))
    (λ apart. rw (ne_eqb y s apart) (
    let rest : has (z ∷ ss) (after (z ∷ ss) s to) ≡ true = after_has (z ∷ ss) s to (sym (has_past y (z ∷ ss) s apart) ∙ h) (λ k. ne (rw (ne_eqb y s apart) k)) in
    by_eq y (after (z ∷ ss) s to) (λ k. has_front y (z ∷ ss) (after (z ∷ ss) s to) k) (λ away. has_past y (z ∷ ss) (after (z ∷ ss) s to) away ∙ rest)))

pub has-removed_other : (ss : List ℕ) (s x : ℕ) → s ≢ x → has (removed ss s) x ≡ has ss x
has-removed_other [] s x ne = refl
has-removed_other (y ∷ ss) s x ne =
    by_eq y s (λ e. rw (eq-eqb y s e) (sym (has_past y ss x (λ k. ne (sym e ∙ k)))))
    (λ apart. rw (ne_eqb y s apart)
    (by_eq y x (λ k. has_front y (removed ss s) x k ∙ sym (has_front y ss x k))
    (λ away. has_past y (removed ss s) x away ∙ has-removed_other ss s x ne ∙ sym (has_past y ss x away))))

pub has-removed : (ss : List ℕ) (s : ℕ) → IsDistinct ss → has (removed ss s) s ≡ false
has-removed [] s d = refl
has-removed (y ∷ ss) s d =
    by_eq y s (λ e. rw (eq-eqb y s e, ← e) d.0) (λ apart. rw (ne_eqb y s apart) (has_past y (removed ss s) s apart ∙ has-removed ss s d.1))

pub distinct-removed : (ss : List ℕ) (s : ℕ) → IsDistinct ss → IsDistinct (removed ss s)
distinct-removed [] s d = tt
distinct-removed (y ∷ ss) s d =
    by_eq y s (λ e. rw (eq-eqb y s e) d.1)
    (λ apart. rw (ne_eqb y s apart) (has-removed_other ss s y (λ k. apart (sym k)) ∙ d.0, distinct-removed ss s d.1))

pub below-removed : (ss : List ℕ) (s w : ℕ) → AllBelow ss w → AllBelow (removed ss s) w
below-removed [] s w b = tt
below-removed (y ∷ ss) s w b = by_eq y s (λ e. rw (eq-eqb y s e) b.1) (λ apart. rw (ne_eqb y s apart) (b.0, below-removed ss s w b.1))

pub length-removed : (ss : List ℕ) (s : ℕ) → has ss s ≡ true → length (removed ss s) + 1 ≡ length ss
length-removed [] s h = absurd (let k = h in cc)
length-removed (y ∷ ss) s h =
    by_eq y s (λ e. rw (eq-eqb y s e) (omega arith))
    (λ apart. rw (ne_eqb y s apart) (let r : length (removed ss s) + 1 ≡ length ss = length-removed ss s (sym (has_past y ss s apart) ∙ h) in omega arith))

pub removed_none : (ss : List ℕ) (s : ℕ) → has ss s ≡ false → removed ss s ≡ ss
removed_none [] s n = refl
removed_none (y ∷ ss) s n = rw (ne_eqb y s (not_front y ss s n)) (ap (λ l. y ∷ l) (removed_none ss s (not_past y ss s n)))

pub has_below : (ss : List ℕ) (w s : ℕ) → AllBelow ss w → has ss s ≡ true → s < w
has_below [] w s b h = absurd (let k = h in cc)
has_below (y ∷ ss) w s b h = by_eq y s (λ e. subst (λ x. x < w) e b.0) (λ apart. has_below ss w s b.1 (sym (has_past y ss s apart) ∙ h))

pub below_absent : (ss : List ℕ) (w : ℕ) → AllBelow ss w → has ss w ≡ false
below_absent [] w b = refl
below_absent (y ∷ ss) w b = let lt = b.0 in has_past y ss w (λ e. absurd (omega arith)) ∙ below_absent ss w b.1

-- the last slot, where there is one
pub last_of-or : (w : ℕ) (ss : List ℕ) → last_or w ss ≢ w → last_of ss ≡ Some (last_or w ss)
last_of-or w [] ne = absurd (ne refl)
last_of-or w (y ∷ ss) ne = last_some y ss
  where
    last_some : (y : ℕ) (ss : List ℕ) → last_of (y ∷ ss) ≡ Some (last_or y ss)
    last_some y [] = refl
    last_some y (z ∷ ss) = last_some z ss

pub more_behind : (y : ℕ) (ss : List ℕ) (s : ℕ) → has ss s ≡ true → more_recent (y ∷ ss) s ≡ Some (before y ss s)
more_behind y [] s h = absurd (let k = h in cc)
more_behind y (z ∷ ss) s h =
    by_eq z s (λ e. rw (eq-eqb z s e) refl)
    (λ apart. rw (ne_eqb z s apart) (more_behind z ss s (sym (has_past z ss s apart) ∙ h)))

pub more_absent : (y : ℕ) (ss : List ℕ) (s : ℕ) → has ss s ≡ false → more_recent (y ∷ ss) s ≡ None
more_absent y [] s none = refl
more_absent y (z ∷ ss) s none = rw (ne_eqb z s (not_front z ss s none)) (more_absent z ss s (not_past z ss s none))

-- no slot is more recent than one that is not in use
pub more_none : (ss : List ℕ) (s : ℕ) → has ss s ≡ false → more_recent ss s ≡ None
more_none [] s none = refl
more_none (y ∷ ss) s none = more_absent y ss s (not_past y ss s none)

-- the next more recent slot of one in use
pub more_before : (w : ℕ) (ss : List ℕ) (s : ℕ) → IsDistinct ss → has ss s ≡ true → before w ss s ≢ w → more_recent ss s ≡ Some (before w ss s)
more_before w [] s d h ne = absurd (let k = h in cc)
more_before w (y ∷ ss) s d h ne =
    by_eq y s (λ e. absurd (ne (rw (eq-eqb y s e) refl)))
    (λ apart. rw (ne_eqb y s apart) (more_behind y ss s (sym (has_past y ss s apart) ∙ h)))

-- the most recent slot has none
pub more_first : (w : ℕ) (ss : List ℕ) (s : ℕ) → IsDistinct ss → AllBelow ss w → has ss s ≡ true → before w ss s ≡ w → more_recent ss s ≡ None
more_first w [] s d b h is = refl
more_first w (y ∷ ss) s d b h is =
    by_eq y s (λ e. more_absent y ss s (ap (has ss) (sym e) ∙ d.0))
    (λ apart.
    let k : has (y ∷ ss) (before y ss s) ≡ true = before_has y ss s (sym (has_past y ss s apart) ∙ h) in
    let lt : before y ss s < w = has_below (y ∷ ss) w (before y ss s) b k in
    let same : before y ss s ≡ w = rw (ne_eqb y s apart) at is in
    absurd (omega arith))
