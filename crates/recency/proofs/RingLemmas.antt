-- Slots that are taken out of a ring, and put into it.
use Rattle.std.proofs.Common.{◌≡◌, ◌≢◌, ◌<◌, ◌≤◌, ◌+◌, ◌==◌, ℕ, zero, suc, true, false, not, List, [], ◌∷◌, Some, None, length, length-set, set, get_or, refl, sym, ap, ◌∙◌, subst, arith, get_or-set_same, get_or-set_other}
use Rattle.std.proofs.lemmas.Bool.{eq-eqb, ne_eqb}
use Rattle.recency.specs.Uses.{has, removed, last_of, more_recent, IsDistinct, AllBelow}
use Rattle.recency.specs.Ring.{Links, Back, walk, slots_of, IsRing, IsLinked}
use Rattle.recency.proofs.UseLemmas.{first_or, after, before, last_or, by_eq, has_front, has_past, not_front, not_past, not_both, has_apart, before_has, after_has, has-removed_other, has-removed, distinct-removed, below-removed, length-removed, has_below, below_absent, last_of-or, more_none, more_before, more_first}

-- links that agree on the slots
pub Links-change : (next new : List ℕ) (from at : ℕ) (ss : List ℕ) (to : ℕ) → Links next from ss to → get_or new at 0 ≡ get_or next from 0
    → ((x : ℕ) → has ss x ≡ true → get_or new x 0 ≡ get_or next x 0) → Links new at ss to
Links-change next new from at [] to l e same = e ∙ l
Links-change next new from at (s ∷ ss) to l e same =
    (e ∙ l.0, Links-change next new s s ss to l.1 (same s (has_front s ss s refl)) (λ x h. same x (by_eq s x (λ y. has_front s ss x y) (λ apart. has_past s ss x apart ∙ h))))

pub Back-same : (prev new : List ℕ) (from : ℕ) (ss : List ℕ) (to : ℕ) → Back prev from ss to → get_or new to 0 ≡ get_or prev to 0
    → ((x : ℕ) → has ss x ≡ true → get_or new x 0 ≡ get_or prev x 0) → Back new from ss to
Back-same prev new from [] to b e same = e ∙ b
Back-same prev new from (s ∷ ss) to b e same =
    (same s (has_front s ss s refl) ∙ b.0, Back-same prev new s ss to b.1 e (λ x h. same x (by_eq s x (λ y. has_front s ss x y) (λ apart. has_past s ss x apart ∙ h))))

-- another slot in front
pub Back-change : (prev new : List ℕ) (from at : ℕ) (ss : List ℕ) (to : ℕ) → Back prev from ss to → IsDistinct ss → has ss to ≡ false → get_or new (first_or ss to) 0 ≡ at
    → ((x : ℕ) → x ≢ first_or ss to → (has ss x ≡ true) → get_or new x 0 ≡ get_or prev x 0) → (to ≢ first_or ss to → get_or new to 0 ≡ get_or prev to 0) → Back new at ss to
Back-change prev new from at [] to b d gone e same end = e
Back-change prev new from at (s ∷ ss) to b d gone e same end = (
  e,
  Back-same prev new s ss to b.1 (end (λ y. not_front s ss to gone (sym y)))
      (λ x h. same x (λ y. not_both (has ss s) (ap (has ss) (sym y) ∙ h) d.0) (has_past s ss x (λ y. not_both (has ss s) (ap (has ss) y ∙ h) d.0) ∙ h)),
)

-- what follows a slot
pub Links-after : (next : List ℕ) (from : ℕ) (ss : List ℕ) (to s : ℕ) → Links next from ss to → has ss s ≡ true → get_or next s 0 ≡ after ss s to
Links-after next from [] to s l h = absurd (let k = h in cc)
Links-after next from (y ∷ []) to s l h =
    by_eq y s (λ e. rw (eq-eqb y s e, ← e) l.1) (λ apart. absurd (not_both (has (y ∷ []) s) h (has_past y [] s apart)))
Links-after next from (y ∷ z ∷ ss) to s l h =
    by_eq y s (λ e. rw (eq-eqb y s e, ← e) l.1.0)
    (λ apart. rw (ne_eqb y s apart) (Links-after next y (z ∷ ss) to s l.1 (sym (has_past y (z ∷ ss) s apart) ∙ h)))

pub Back-before : (prev : List ℕ) (from : ℕ) (ss : List ℕ) (to s : ℕ) → Back prev from ss to → has ss s ≡ true → get_or prev s 0 ≡ before from ss s
Back-before prev from [] to s b h = absurd (let k = h in cc)
Back-before prev from (y ∷ ss) to s b h =
    by_eq y s (λ e. rw (eq-eqb y s e, ← e) b.0)
    (λ apart. rw (ne_eqb y s apart) (Back-before prev y ss to s b.1 (sym (has_past y ss s apart) ∙ h)))

-- a slot is taken out
pub Links-removed : (next : List ℕ) (from : ℕ) (ss : List ℕ) (to s : ℕ) → Links next from ss to → has ss s ≡ true → has ss from ≡ false → IsDistinct ss → before from ss s < length next
    → Links (set next (before from ss s) (get_or next s 0)) from (removed ss s) to
Links-removed next from [] to s l h gone d inside = absurd (let k = h in cc)
Links-removed next from (y ∷ ss) to s l h gone d inside =
    by_eq y s
    (λ e.
    let at : from < length next = rw (eq-eqb y s e) at inside in
    rw (eq-eqb y s e)
    (Links-change next (set next from (get_or next s 0)) y from ss to l.1 (get_or-set_same next from (get_or next s 0) 0 at ∙ ap (λ x. get_or next x 0) (sym e))
    (λ x k. get_or-set_other next from x (get_or next s 0) 0 (has_apart ss x from k (not_past y ss from gone)))))
    (λ apart.
    let rest : has ss s ≡ true = sym (has_past y ss s apart) ∙ h in
    let b : has (y ∷ ss) (before y ss s) ≡ true = before_has y ss s rest in
    rw (ne_eqb y s apart) (
      get_or-set_other next (before y ss s) from (get_or next s 0) 0 (λ k. not_both (has (y ∷ ss) from) (ap (has (y ∷ ss)) k ∙ b) gone) ∙ l.0,
      Links-removed next y ss to s l.1 rest d.0 d.1 (rw (ne_eqb y s apart) at inside),
    ))

pub Back-removed : (prev : List ℕ) (from : ℕ) (ss : List ℕ) (to s : ℕ) → Back prev from ss to → has ss s ≡ true → has ss to ≡ false → IsDistinct ss → after ss s to < length prev
    → Back (set prev (after ss s to) (get_or prev s 0)) from (removed ss s) to
Back-removed prev from [] to s b h gone d inside = absurd (let k = h in cc)
Back-removed prev from (y ∷ ss) to s b h gone d inside =
    by_eq y s
    (λ e.
    let at : first_or ss to < length prev = rw (eq-eqb y s e) at inside in
    let is : get_or prev s 0 ≡ from = ap (λ x. get_or prev x 0) (sym e) ∙ b.0 in
    rw (eq-eqb y s e)
    (Back-change prev (set prev (first_or ss to) (get_or prev s 0)) y from ss to b.1 d.1 (not_past y ss to gone) (get_or-set_same prev (first_or ss to) (get_or prev s 0) 0 at ∙ is)
    (λ x ne k. get_or-set_other prev (first_or ss to) x (get_or prev s 0) 0 ne)
    (λ ne. get_or-set_other prev (first_or ss to) to (get_or prev s 0) 0 ne)))
    (λ apart.
    let rest : has ss s ≡ true = sym (has_past y ss s apart) ∙ h in
    let away : y ≢ after ss s to = λ k. by_eq (after ss s to) to (λ m. not_front y ss to gone (k ∙ m)) (λ m. not_both (has ss y) (ap (has ss) k ∙ after_has ss s to rest m) d.0) in
    rw (ne_eqb y s apart) (
      get_or-set_other prev (after ss s to) y (get_or prev s 0) 0 away ∙ b.0,
      Back-removed prev y ss to s b.1 rest (not_past y ss to gone) d.1 (rw (ne_eqb y s apart) at inside),
    ))

-- the walk finds the slots
pub walk_is : (next : List ℕ) (fuel from : ℕ) (ss : List ℕ) (to : ℕ) → Links next from ss to → has ss to ≡ false → length ss < fuel → walk next fuel (get_or next from 0) to ≡ ss
walk_is next zero from ss to l gone short = absurd (omega arith)
walk_is next (suc fuel) from [] to l gone short = rw (eq-eqb (get_or next from 0) to l) refl
walk_is next (suc fuel) from (s ∷ ss) to l gone short =
    rw (l.0, ne_eqb s to (not_front s ss to gone)) (ap (λ x. s ∷ x) (walk_is next fuel s ss to l.1 (not_past s ss to gone) (omega arith)))

below_less : (ss : List ℕ) (w : ℕ) → AllBelow ss (suc w) → has ss w ≡ false → AllBelow ss w
below_less [] w b h = tt
below_less (y ∷ ss) w b h = let ne = not_front y ss w h in let lt = b.0 in (omega arith, below_less ss w b.1 (not_past y ss w h))

-- distinct slots below w are at most w
pub pigeon : (w : ℕ) (ss : List ℕ) → IsDistinct ss → AllBelow ss w → length ss ≤ w
pigeon zero [] d b = omega arith
pigeon zero (y ∷ ss) d b = let lt = b.0 in absurd (omega arith)
pigeon (suc w) ss d b =
    elim (has ss w) as (λ t. has ss w ≡ t → length ss ≤ suc w) [
      | true ↦ λ h. (let r : length (removed ss w) ≤ w = pigeon w (removed ss w) (distinct-removed ss w d) (below_less (removed ss w) w (below-removed ss w (suc w) b) (has-removed ss w d)) in let k = length-removed ss w h in omega arith)
      | false ↦ λ h. (let r : length ss ≤ w = pigeon w ss d (below_less ss w b h) in omega arith)
    ] refl

after_apart : (ss : List ℕ) (s w : ℕ) → IsDistinct ss → has ss s ≡ true → s ≢ w → after ss s w ≢ s
after_apart [] s w d h ne = absurd (let k = h in cc)
after_apart (y ∷ []) s w d h ne =
    by_eq y s (λ e. rw (eq-eqb y s e) (λ k. ne (sym k))) (λ apart. absurd (not_both (has (y ∷ []) s) h (has_past y [] s apart)))
after_apart (y ∷ z ∷ ss) s w d h ne =
    by_eq y s (λ e. rw (eq-eqb y s e) (λ k. not_front z ss y d.0 (k ∙ sym e)))
    (λ apart. rw (ne_eqb y s apart) (after_apart (z ∷ ss) s w d.1 (sym (has_past y (z ∷ ss) s apart) ∙ h) ne))

first_is : (next : List ℕ) (from : ℕ) (ss : List ℕ) (to : ℕ) → Links next from ss to → get_or next from 0 ≡ first_or ss to
first_is next from [] to l = l
first_is next from (y ∷ ss) to l = l.0

front_apart : (ss : List ℕ) (w s : ℕ) → has ss s ≡ false → s ≢ w → s ≢ first_or ss w
front_apart [] w s out ne = ne
front_apart (y ∷ ss) w s out ne = λ e. not_front y ss s out (sym e)

front_below : (ss : List ℕ) (w n : ℕ) → AllBelow ss w → w < n → first_or ss w < n
front_below [] w n b lt = lt
front_below (y ∷ ss) w n b lt = let k = b.0 in omega arith

module _ (next prev : List ℕ) (w : ℕ) (ss : List ℕ) (ring : IsRing next prev w ss) where
  pub slots_are : slots_of next w ≡ ss
  slots_are = let n = ring.next_len in let short = ring.short in walk_is next (length next) w ss w ring.forth (below_absent ss w ring.below) (omega arith)

  pub next_is : (s : ℕ) → has ss s ≡ true → get_or next s 0 ≡ after ss s w
  next_is s h = Links-after next w ss w s ring.forth h

  pub prev_is : (s : ℕ) → has ss s ≡ true → get_or prev s 0 ≡ before w ss s
  prev_is s h = Back-before prev w ss w s ring.back h

  pub next_inside : (s : ℕ) → has ss s ≡ true → get_or next s 0 < w + 1
  next_inside s h = rw (next_is s h) (by_eq (after ss s w) w (λ e. omega arith) (λ ne. let lt = has_below ss w (after ss s w) ring.below (after_has ss s w h ne) in omega arith))

  pub prev_inside : (s : ℕ) → has ss s ≡ true → get_or prev s 0 < w + 1
  prev_inside s h =
      let k : has (w ∷ ss) (before w ss s) ≡ true = before_has w ss s h in
      rw (prev_is s h) (by_eq w (before w ss s) (λ e. omega arith) (λ ne. let lt = has_below ss w (before w ss s) ring.below (sym (has_past w ss (before w ss s) ne) ∙ k) in omega arith))

  pub moved : (s : ℕ) → has ss s ≡ true → get_or next s 0 ≢ s
  moved s h = let lt = has_below ss w s ring.below h in rw (next_is s h) (after_apart ss s w ring.distinct h (omega arith))

  -- a slot is taken out
  pub ring_removed : (s : ℕ) → has ss s ≡ true → IsRing (set (set next (get_or prev s 0) (get_or next s 0)) s s) (set prev (get_or next s 0) (get_or prev s 0)) w (removed ss s)
  ring_removed s h =
      let lt = has_below ss w s ring.below h in
      let pin = prev_inside s h in let nin = next_inside s h in
      let nl = ring.next_len in let pl = ring.prev_len in
      let out = has-removed ss s ring.distinct in
      let sl : s < length (set next (get_or prev s 0) (get_or next s 0)) = rw length-set (omega arith) in
      record {
        next_len = rw (length-set, length-set) nl;
        prev_len = rw length-set pl;
        forth =
            Links-change (set next (get_or prev s 0) (get_or next s 0)) (set (set next (get_or prev s 0) (get_or next s 0)) s s) w w (removed ss s) w
            (rw (prev_is s h) (Links-removed next w ss w s ring.forth h (below_absent ss w ring.below) ring.distinct (rw (prev_is s h) at (let q : get_or prev s 0 < length next = omega arith in q))))
            (get_or-set_other (set next (get_or prev s 0) (get_or next s 0)) s w s 0 (omega arith))
            (λ x k. get_or-set_other (set next (get_or prev s 0) (get_or next s 0)) s x s 0 (has_apart (removed ss s) x s k out));
        back = rw (next_is s h) (Back-removed prev w ss w s ring.back h (below_absent ss w ring.below) ring.distinct (rw (next_is s h) at (let q : get_or next s 0 < length prev = omega arith in q)));
        distinct = distinct-removed ss s ring.distinct;
        below = below-removed ss s w ring.below;
        short = let k = length-removed ss s h in let short = ring.short in omega arith;
        alone = λ x lx hx. by_eq s x
            (λ e. subst (λ z. get_or (set (set next (get_or prev s 0) (get_or next s 0)) s s) z 0 ≡ z) e (get_or-set_same (set next (get_or prev s 0) (get_or next s 0)) s s 0 sl))
            (λ apart.
            let hx2 : has ss x ≡ false = sym (has-removed_other ss s x apart) ∙ hx in
            let away : x ≢ get_or prev s 0 = λ e.
            (let k : has (w ∷ ss) x ≡ true = ap (has (w ∷ ss)) (e ∙ prev_is s h) ∙ before_has w ss s h in
            not_both (has ss x) (sym (has_past w ss x (λ m. absurd (omega arith))) ∙ k) hx2) in
            get_or-set_other (set next (get_or prev s 0) (get_or next s 0)) s x s 0 (λ e. apart (sym e)) ∙ get_or-set_other next (get_or prev s 0) x (get_or next s 0) 0 away ∙ ring.alone x lx hx2);
      }

  -- a slot is put in front
  pub ring_front : (s : ℕ) → s < w → has ss s ≡ false → IsRing (set (set next w s) s (get_or next w 0)) (set (set prev s w) (get_or next w 0) s) w (s ∷ ss)
  ring_front s lt out =
      let nl = ring.next_len in let pl = ring.prev_len in
      let wl : w < length next = omega arith in
      let sl : s < length (set next w s) = rw length-set (omega arith) in
      let head : get_or next w 0 ≡ first_or ss w = first_is next w ss w ring.forth in
      record {
        next_len = rw (length-set, length-set) nl;
        prev_len = rw (length-set, length-set) pl;
        forth = (
          get_or-set_other (set next w s) s w (get_or next w 0) 0 (omega arith) ∙ get_or-set_same next w s 0 wl,
          Links-change next (set (set next w s) s (get_or next w 0)) w s ss w ring.forth (get_or-set_same (set next w s) s (get_or next w 0) 0 sl)
              (λ x k. get_or-set_other (set next w s) s x (get_or next w 0) 0 (has_apart ss x s k out) ∙ get_or-set_other next w x s 0 (has_apart ss x w k (below_absent ss w ring.below))),
        );
        back = subst (λ (h : ℕ). Back (set (set prev s w) h s) w (s ∷ ss) w) (sym head) (
          get_or-set_other (set prev s w) (first_or ss w) s s 0 (front_apart ss w s out (omega arith)) ∙ get_or-set_same prev s w 0 (omega arith),
          Back-change prev (set (set prev s w) (first_or ss w) s) w s ss w ring.back ring.distinct (below_absent ss w ring.below)
              (get_or-set_same (set prev s w) (first_or ss w) s 0 (rw length-set (front_below ss w (length prev) ring.below (omega arith))))
              (λ x ne k. get_or-set_other (set prev s w) (first_or ss w) x s 0 ne ∙ get_or-set_other prev s x w 0 (has_apart ss x s k out))
              (λ ne. get_or-set_other (set prev s w) (first_or ss w) w s 0 ne ∙ get_or-set_other prev s w w 0 (omega arith)),
        );
        distinct = (out, ring.distinct);
        below = (lt, ring.below);
        short = let k : length (s ∷ ss) ≤ w = pigeon w (s ∷ ss) (out, ring.distinct) (lt, ring.below) in omega arith;
        alone = λ x lx hx.
            get_or-set_other (set next w s) s x (get_or next w 0) 0 (λ e. not_front s ss x hx (sym e)) ∙ get_or-set_other next w x s 0 (omega arith) ∙ ring.alone x lx (not_past s ss x hx);
      }

-- what the walk finds stands in the ring
pub ring_here : (next prev : List ℕ) (w : ℕ) (ss : List ℕ) → IsRing next prev w ss → IsRing next prev w (slots_of next w)
ring_here next prev w ss ring = subst (λ l. IsRing next prev w l) (sym (slots_are next prev w ss ring)) ring

-- a slot that leads to itself is not in the ring
pub unlinked : (next prev : List ℕ) (w : ℕ) (ss : List ℕ) (s : ℕ) → IsRing next prev w ss → get_or next s 0 ≡ s → has ss s ≡ false
unlinked next prev w ss s ring same =
    elim (has ss s) as (λ t. has ss s ≡ t → has ss s ≡ false) [ true ↦ λ h. absurd (moved next prev w ss ring s h same) | false ↦ λ h. h ] refl

pub linked : (next prev : List ℕ) (w : ℕ) (ss : List ℕ) (s : ℕ) → IsRing next prev w ss → s < w → get_or next s 0 ≢ s → has ss s ≡ true
linked next prev w ss s ring lt ne =
    elim (has ss s) as (λ t. has ss s ≡ t → has ss s ≡ true) [ true ↦ λ h. h | false ↦ λ h. absurd (ne (ring.alone s lt h)) ] refl

Back-last : (prev : List ℕ) (from : ℕ) (ss : List ℕ) (to : ℕ) → Back prev from ss to → get_or prev to 0 ≡ last_or from ss
Back-last prev from [] to b = b
Back-last prev from (y ∷ ss) to b = Back-last prev y ss to b.1

pub last_is : (next prev : List ℕ) (w : ℕ) (ss : List ℕ) → IsRing next prev w ss → get_or prev w 0 ≡ last_or w ss
last_is next prev w ss ring = Back-last prev w ss w ring.back

last_below : (y : ℕ) (ss : List ℕ) (w : ℕ) → y < w → AllBelow ss w → last_or y ss < w
last_below y [] w lt b = lt
last_below y (z ∷ ss) w lt b = last_below z ss w b.0 b.1

pub last_none : (ss : List ℕ) (w : ℕ) → AllBelow ss w → last_or w ss ≡ w → ss ≡ []
last_none [] w b e = refl
last_none (y ∷ ss) w b e = let lt = last_below y ss w b.0 b.1 in absurd (omega arith)

-- what the links tell of the slots
module _ {next prev : List ℕ} {w head count : ℕ} (links : IsLinked next prev w head count) where
  pub tail_some : get_or prev w 0 ≢ w → last_of (slots_of next w) ≡ Some (get_or prev w 0)
  tail_some ne =
      let is = last_is next prev w (slots_of next w) links.ring in
      last_of-or w (slots_of next w) (λ e. ne (is ∙ e)) ∙ ap Some (sym is)

  pub tail_none : get_or prev w 0 ≡ w → last_of (slots_of next w) ≡ None
  tail_none e = ap last_of (last_none (slots_of next w) w links.ring.below (sym (last_is next prev w (slots_of next w) links.ring) ∙ e))

  pub in_use : (s : ℕ) → s < w → get_or next s 0 ≢ s → has (slots_of next w) s ≡ true
  in_use s lt ne = linked next prev w (slots_of next w) s links.ring lt ne

  pub not_in_use : (s : ℕ) → get_or next s 0 ≡ s → has (slots_of next w) s ≡ false
  not_in_use s same = unlinked next prev w (slots_of next w) s links.ring same

  pub used_test : (s : ℕ) → s < w → not (get_or next s 0 == s) ≡ has (slots_of next w) s
  used_test s lt = by_eq (get_or next s 0) s
      (λ e. ap not (eq-eqb (get_or next s 0) s e) ∙ sym (not_in_use s e))
      (λ ne. ap not (ne_eqb (get_or next s 0) s ne) ∙ sym (in_use s lt ne))

  pub newer_some : (s : ℕ) → s < w → get_or next s 0 ≢ s → get_or prev s 0 ≢ w → more_recent (slots_of next w) s ≡ Some (get_or prev s 0)
  newer_some s lt used ne =
      let h = in_use s lt used in
      let is = prev_is next prev w (slots_of next w) links.ring s h in
      more_before w (slots_of next w) s links.ring.distinct h (λ e. ne (is ∙ e)) ∙ ap Some (sym is)

  pub newer_none : (s : ℕ) → s < w → get_or next s 0 ≢ s → get_or prev s 0 ≡ w → more_recent (slots_of next w) s ≡ None
  newer_none s lt used e =
      let h = in_use s lt used in
      more_first w (slots_of next w) s links.ring.distinct links.ring.below h (sym (prev_is next prev w (slots_of next w) links.ring s h) ∙ e)

  pub newer_absent : (s : ℕ) → get_or next s 0 ≡ s → more_recent (slots_of next w) s ≡ None
  newer_absent s same = more_none (slots_of next w) s (not_in_use s same)

  -- where a slot in use leads, forth and back
  pub next_within : (s : ℕ) → s < w → get_or next s 0 ≢ s → get_or next s 0 < length prev
  next_within s lt used = rw links.ring.prev_len (next_inside next prev w (slots_of next w) links.ring s (in_use s lt used))

  pub prev_within : (s : ℕ) → s < w → get_or next s 0 ≢ s → get_or prev s 0 < length next
  prev_within s lt used = rw links.ring.next_len (prev_inside next prev w (slots_of next w) links.ring s (in_use s lt used))

  pub drop_ring : (s : ℕ) → s < w → get_or next s 0 ≢ s → IsRing (set (set next (get_or prev s 0) (get_or next s 0)) s s) (set prev (get_or next s 0) (get_or prev s 0)) w (removed (slots_of next w) s)
  drop_ring s lt used = ring_removed next prev w (slots_of next w) links.ring s (in_use s lt used)

  pub count_fell : (s : ℕ) → s < w → get_or next s 0 ≢ s → length (removed (slots_of next w) s) + 1 ≡ count
  count_fell s lt used = length-removed (slots_of next w) s (in_use s lt used) ∙ sym links.count_is

  pub count_room : (s : ℕ) → s < w → has (slots_of next w) s ≡ false → count < w
  count_room s lt out =
      let short : length (s ∷ slots_of next w) ≤ w = pigeon w (s ∷ slots_of next w) (out, links.ring.distinct) (lt, links.ring.below) in
      let size = links.count_is in
      omega arith

  pub put_ring : (s : ℕ) → s < w → has (slots_of next w) s ≡ false → IsRing (set (set next w s) s (get_or next w 0)) (set (set prev s w) (get_or next w 0) s) w (s ∷ slots_of next w)
  put_ring s lt out = ring_front next prev w (slots_of next w) links.ring s lt out

-- the links after a change of the ring
pub linked_here : (next prev : List ℕ) (w head count : ℕ) (ss : List ℕ) → IsRing next prev w ss → head ≡ get_or next w 0 → count ≡ length ss → IsLinked next prev w head count
linked_here next prev w head count ss ring first size = record {
  ring = ring_here next prev w ss ring;
  first_is = first;
  count_is = size ∙ ap length (sym (slots_are next prev w ss ring));
}
