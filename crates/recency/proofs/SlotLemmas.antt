-- What is kept in slots, when the order or a slot changes.
use Rattle.std.proofs.Common.{◌≡◌, ◌≢◌, ◌<◌, ◌≤◌, ◌+◌, ◌==◌, ℕ, zero, suc, true, false, List, [], ◌∷◌, ◌++◌, Option, Some, None, map, length, refl, sym, ap, ◌∙◌, arith, if◌then◌else◌}
use Rattle.std.specs.Option.{option_map, IfSome}
use Rattle.std.proofs.lemmas.Bool.{eq-eqb, ne_eqb}
use Rattle.recency.specs.declared.entry.Entry.{Entry}
use Rattle.recency.specs.declared.entry.Tag.{Tag}
use Rattle.recency.specs.Uses.{has, removed, last_of, but_last, more_recent, IsDistinct}
use Rattle.recency.specs.Kept.{entry_of, without, last_dirty, last_dirty_from}
use Rattle.recency.specs.Slots.{tag_at, entry_at, entries_of}
use Rattle.recency.proofs.UseLemmas.{by_eq, has_front, has_past, not_both, before, before_has, more_behind, more_absent, has-removed_other, length-removed}

-- the entries are the same where slots and bytes are
pub entries_same : (tags new : List Tag) (bytes other : List (List ℕ)) (ss : List ℕ) → ((s : ℕ) → has ss s ≡ true → entry_at new other s ≡ entry_at tags bytes s) → entries_of new other ss ≡ entries_of tags bytes ss
entries_same tags new bytes other [] same = refl
entries_same tags new bytes other (s ∷ ss) same =
    let front = same s (has_front s ss s refl) in
    let rest = entries_same tags new bytes other ss (λ x h. same x (by_eq s x (λ e. has_front s ss x e) (λ apart. has_past s ss x apart ∙ h))) in
    ap (λ e. e ∷ entries_of new other ss) front ∙ ap (λ es. entry_at tags bytes s ∷ es) rest

-- the slot of a line, among the entries
pub slot_entry : (tags : List Tag) (bytes : List (List ℕ)) (ss : List ℕ) (s line : ℕ) → IsDistinct ss → has ss s ≡ true → (tag_at tags s).line ≡ line
    → ((x : ℕ) → has ss x ≡ true → (tag_at tags x).line ≡ line → x ≡ s)
    → (entry_of (entries_of tags bytes ss) line ≡ Some (entry_at tags bytes s)) × (without (entries_of tags bytes ss) line ≡ entries_of tags bytes (removed ss s))
slot_entry tags bytes [] s line d h at only = absurd (let k = h in cc)
slot_entry tags bytes (y ∷ ss) s line d h at only =
    by_eq y s
    (λ e.
    let here : (tag_at tags y).line ≡ line = ap (λ x. (tag_at tags x).line) e ∙ at in
    (rw (eq-eqb (tag_at tags y).line line here) (ap (λ x. Some (entry_at tags bytes x)) e), rw (eq-eqb (tag_at tags y).line line here, eq-eqb y s e) refl))
    (λ apart.
    let other : (tag_at tags y).line ≢ line = λ k. apart (only y (has_front y ss y refl) k) in
    let rest = slot_entry tags bytes ss s line d.1 (sym (has_past y ss s apart) ∙ h) at (λ x k. only x (by_eq y x (λ e. has_front y ss x e) (λ ne. has_past y ss x ne ∙ k))) in
    (rw (ne_eqb (tag_at tags y).line line other) rest.0, rw (ne_eqb (tag_at tags y).line line other, ne_eqb y s apart) (ap (λ es. entry_at tags bytes y ∷ es) rest.1)))

pub slot_none : (tags : List Tag) (bytes : List (List ℕ)) (ss : List ℕ) (line : ℕ) → ((x : ℕ) → has ss x ≡ true → (tag_at tags x).line ≡ line → ⊥) → entry_of (entries_of tags bytes ss) line ≡ None
slot_none tags bytes [] line none = refl
slot_none tags bytes (y ∷ ss) line none =
    rw (ne_eqb (tag_at tags y).line line (none y (has_front y ss y refl)))
    (slot_none tags bytes ss line (λ x k. none x (by_eq y x (λ e. has_front y ss x e) (λ ne. has_past y ss x ne ∙ k))))

-- and the other way: a line that is not kept is in no slot
pub none_slot : (tags : List Tag) (bytes : List (List ℕ)) (ss : List ℕ) (line : ℕ) → entry_of (entries_of tags bytes ss) line ≡ None → (x : ℕ) → has ss x ≡ true → (tag_at tags x).line ≢ line
none_slot tags bytes [] line none x h at = absurd (let k = h in cc)
none_slot tags bytes (y ∷ ss) line none x h at =
    by_eq (tag_at tags y).line line
    (λ e. (let k : Some (entry_at tags bytes y) ≡ None = sym (ap (λ b. if b then Some (entry_at tags bytes y) else entry_of (entries_of tags bytes ss) line) (eq-eqb (tag_at tags y).line line e)) ∙ none in absurd (let q = k in cc)))
    (λ ne.
    let rest : entry_of (entries_of tags bytes ss) line ≡ None = sym (ap (λ b. if b then Some (entry_at tags bytes y) else entry_of (entries_of tags bytes ss) line) (ne_eqb (tag_at tags y).line line ne)) ∙ none in
    by_eq y x (λ e. ne (ap (λ z. (tag_at tags z).line) e ∙ at)) (λ apart. none_slot tags bytes ss line rest x (sym (has_past y ss x apart) ∙ h) at))

pub last_of-map : {A B : Type 0} (f : A → B) (xs : List A) → last_of (map f xs) ≡ option_map f (last_of xs)
last_of-map f [] = refl
last_of-map f (x ∷ []) = refl
last_of-map f (x ∷ y ∷ xs) = last_of-map f (y ∷ xs)

pub but_last-map : {A B : Type 0} (f : A → B) (xs : List A) → but_last (map f xs) ≡ map f (but_last xs)
but_last-map f [] = refl
but_last-map f (x ∷ []) = refl
but_last-map f (x ∷ y ∷ xs) = ap (λ l. f x ∷ l) (but_last-map f (y ∷ xs))

-- the last slot is in use
pub last_has : (ss : List ℕ) (s : ℕ) → last_of ss ≡ Some s → has ss s ≡ true
last_has [] s is = absurd (let k = is in cc)
last_has (y ∷ []) s is = let same : y ≡ s = cc in has_front y [] s same
last_has (y ∷ z ∷ ss) s is = by_eq y s (λ e. has_front y (z ∷ ss) s e) (λ ne. has_past y (z ∷ ss) s ne ∙ last_has (z ∷ ss) s is)

-- the others of the last slot are all but the last
pub removed_last : (ss : List ℕ) (s : ℕ) → IsDistinct ss → last_of ss ≡ Some s → removed ss s ≡ but_last ss
removed_last [] s d is = refl
removed_last (y ∷ []) s d is = let same : y ≡ s = cc in rw (eq-eqb y s same) refl
removed_last (y ∷ z ∷ ss) s d is =
    let other : y ≢ s = λ e. not_both (has (z ∷ ss) y) (ap (has (z ∷ ss)) e ∙ last_has (z ∷ ss) s is) d.0 in
    rw (ne_eqb y s other) (ap (λ l. y ∷ l) (removed_last (z ∷ ss) s d.1 is))

-- where each number below is in use, there are so many slots
pub covered : (w : ℕ) (ss : List ℕ) → ((s : ℕ) → s < w → has ss s ≡ true) → w ≤ length ss
covered zero ss all = omega arith
covered (suc w) ss all =
    let size = length-removed ss w (all w (omega arith)) in
    let rest = covered w (removed ss w) (λ s lt. has-removed_other ss w s (λ e. absurd (omega arith)) ∙ all s (omega arith)) in
    omega arith

-- the entries of one more slot at the end
pub last_dirty-more : (found : Option Entry) (es : List Entry) (e : Entry) → last_dirty_from found (es ++ e ∷ []) ≡ (if e.dirty then Some e else last_dirty_from found es)
last_dirty-more found [] e = refl
last_dirty-more found (f ∷ es) e = last_dirty-more (if f.dirty then Some f else found) es e

-- the slots from the most recent one up to this one
abbrev pub up_to : List ℕ → ℕ → List ℕ
up_to [] s = []
up_to (y ∷ ss) s = if y == s then y ∷ [] else y ∷ up_to ss s

abbrev pub through : List ℕ → Option ℕ → List ℕ
through ss None = []
through ss (Some s) = up_to ss s

up_to-last : (ss : List ℕ) (s : ℕ) → IsDistinct ss → last_of ss ≡ Some s → up_to ss s ≡ ss
up_to-last [] s d is = refl
up_to-last (y ∷ []) s d is = let same : y ≡ s = cc in rw (eq-eqb y s same) refl
up_to-last (y ∷ z ∷ ss) s d is =
    let other : y ≢ s = λ e. not_both (has (z ∷ ss) y) (ap (has (z ∷ ss)) e ∙ last_has (z ∷ ss) s is) d.0 in
    rw (ne_eqb y s other) (ap (λ l. y ∷ l) (up_to-last (z ∷ ss) s d.1 is))

pub through-last : (ss : List ℕ) → IsDistinct ss → through ss (last_of ss) ≡ ss
through-last ss d = elim (last_of ss) as (λ o. last_of ss ≡ o → through ss o ≡ ss) [ None ↦ λ is. none ss is | Some s ↦ λ is. up_to-last ss s d is ] refl
  where
    none : (ss : List ℕ) → last_of ss ≡ None → [] ≡ ss
    none [] is = refl
    none (y ∷ []) is = absurd (let k = is in cc)
    none (y ∷ z ∷ ss) is = absurd (let k = none (z ∷ ss) is in cc)

up_to-front : (y : ℕ) (ss : List ℕ) → up_to (y ∷ ss) y ≡ y ∷ []
up_to-front y ss = rw (eq-eqb y y refl) refl

up_to-past : (y : ℕ) (ss : List ℕ) (s : ℕ) → y ≢ s → up_to (y ∷ ss) s ≡ y ∷ up_to ss s
up_to-past y ss s ne = rw (ne_eqb y s ne) refl

up_to-before : (y : ℕ) (ss : List ℕ) (s : ℕ) → IsDistinct (y ∷ ss) → has ss s ≡ true → up_to (y ∷ ss) s ≡ up_to (y ∷ ss) (before y ss s) ++ s ∷ []
up_to-before y [] s d h = absurd (let k = h in cc)
up_to-before y (z ∷ ss) s d h =
    let other : y ≢ s = λ e. not_both (has (z ∷ ss) y) (ap (has (z ∷ ss)) e ∙ h) d.0 in
    by_eq z s
    (λ e.
    let b : before y (z ∷ ss) s ≡ y = rw (eq-eqb z s e) refl in
    up_to-past y (z ∷ ss) s other ∙ ap (λ l. y ∷ l) (rw (eq-eqb z s e) (ap (λ x. x ∷ []) e))
    ∙ sym (ap (λ x. up_to (y ∷ z ∷ ss) x ++ s ∷ []) b ∙ ap (λ l. l ++ s ∷ []) (up_to-front y (z ∷ ss))))
    (λ ne.
    let in_rest : has ss s ≡ true = sym (has_past z ss s ne) ∙ h in
    let b : before y (z ∷ ss) s ≡ before z ss s = rw (ne_eqb z s ne) refl in
    let away : y ≢ before z ss s = λ e. not_both (has (z ∷ ss) y) (ap (has (z ∷ ss)) e ∙ before_has z ss s in_rest) d.0 in
    up_to-past y (z ∷ ss) s other ∙ ap (λ l. y ∷ l) (up_to-before z ss s d.1 in_rest)
    ∙ sym (ap (λ x. up_to (y ∷ z ∷ ss) x ++ s ∷ []) b ∙ ap (λ l. l ++ s ∷ []) (up_to-past y (z ∷ ss) (before z ss s) away)))

-- the slots up to one are those up to the next more recent, and itself
pub through-more : (ss : List ℕ) (s : ℕ) → IsDistinct ss → has ss s ≡ true → up_to ss s ≡ through ss (more_recent ss s) ++ s ∷ []
through-more [] s d h = absurd (let k = h in cc)
through-more (y ∷ ss) s d h =
    by_eq y s
    (λ e. rw (more_absent y ss s (ap (has ss) (sym e) ∙ d.0), eq-eqb y s e) (ap (λ x. x ∷ []) e))
    (λ ne. let k : has ss s ≡ true = sym (has_past y ss s ne) ∙ h in rw (more_behind y ss s k) (up_to-before y ss s d k))

-- the next more recent slot is in use
pub more_has : (ss : List ℕ) (s t : ℕ) → more_recent ss s ≡ Some t → has ss t ≡ true
more_has [] s t is = absurd (let k = is in cc)
more_has (y ∷ []) s t is = absurd (let k = is in cc)
more_has (y ∷ z ∷ ss) s t is =
    by_eq z s
    (λ e. (let k : Some y ≡ Some t = sym (ap (λ b. if b then Some y else more_recent (z ∷ ss) s) (eq-eqb z s e)) ∙ is in let same : y ≡ t = cc in has_front y (z ∷ ss) t same))
    (λ ne. (let k = more_has (z ∷ ss) s t (sym (ap (λ b. if b then Some y else more_recent (z ∷ ss) s) (ne_eqb z s ne)) ∙ is) in by_eq y t (λ e. has_front y (z ∷ ss) t e) (λ apart. has_past y (z ∷ ss) t apart ∙ k)))

entries-more : (tags : List Tag) (bytes : List (List ℕ)) (ss : List ℕ) (s : ℕ) → entries_of tags bytes (ss ++ s ∷ []) ≡ entries_of tags bytes ss ++ entry_at tags bytes s ∷ []
entries-more tags bytes [] s = refl
entries-more tags bytes (y ∷ ss) s = ap (λ l. entry_at tags bytes y ∷ l) (entries-more tags bytes ss s)

dirty_at : (tags : List Tag) (bytes : List (List ℕ)) (ss : List ℕ) (s : ℕ) → IsDistinct ss → has ss s ≡ true
    → last_dirty (entries_of tags bytes (up_to ss s)) ≡ (if (tag_at tags s).dirty then Some (entry_at tags bytes s) else last_dirty (entries_of tags bytes (through ss (more_recent ss s))))
dirty_at tags bytes ss s d h =
    ap (λ l. last_dirty (entries_of tags bytes l)) (through-more ss s d h) ∙ ap last_dirty (entries-more tags bytes (through ss (more_recent ss s)) s)
    ∙ last_dirty-more None (entries_of tags bytes (through ss (more_recent ss s))) (entry_at tags bytes s)

-- the slot that was reached is dirty
pub dirty_found : (tags : List Tag) (bytes : List (List ℕ)) (ss : List ℕ) (s : ℕ) → IsDistinct ss → has ss s ≡ true → (tag_at tags s).dirty ≡ true → last_dirty (entries_of tags bytes (up_to ss s)) ≡ Some (entry_at tags bytes s)
dirty_found tags bytes ss s d h t =
    dirty_at tags bytes ss s d h ∙ ap (λ b. if b then Some (entry_at tags bytes s) else last_dirty (entries_of tags bytes (through ss (more_recent ss s)))) t

-- it is clean, and the next more recent one is looked at
pub dirty_passed : (tags : List Tag) (bytes : List (List ℕ)) (ss : List ℕ) (s : ℕ) → IsDistinct ss → has ss s ≡ true → (tag_at tags s).dirty ≡ false
    → last_dirty (entries_of tags bytes (up_to ss s)) ≡ last_dirty (entries_of tags bytes (through ss (more_recent ss s)))
dirty_passed tags bytes ss s d h f =
    dirty_at tags bytes ss s d h ∙ ap (λ b. if b then Some (entry_at tags bytes s) else last_dirty (entries_of tags bytes (through ss (more_recent ss s)))) f

length-more : (ss : List ℕ) (s : ℕ) → length (ss ++ s ∷ []) ≡ length ss + 1
length-more [] s = refl
length-more (y ∷ ss) s = let r = length-more ss s in omega arith

pub through_falls : (ss : List ℕ) (s : ℕ) → IsDistinct ss → has ss s ≡ true → length (through ss (more_recent ss s)) < length (up_to ss s)
through_falls ss s d h = let e = ap length (through-more ss s d h) in let n = length-more (through ss (more_recent ss s)) s in omega arith

-- a list with no last slot is empty
pub last_none_empty : (ss : List ℕ) → last_of ss ≡ None → length ss ≡ 0
last_none_empty [] is = refl
last_none_empty (y ∷ []) is = absurd (let k = is in cc)
last_none_empty (y ∷ z ∷ ss) is = absurd (let k : length (z ∷ ss) ≡ 0 = last_none_empty (z ∷ ss) is in omega arith)

pub last_used : (ss : List ℕ) → IfSome (last_of ss) (λ s. has ss s ≡ true)
last_used ss = elim (last_of ss) as (λ o. last_of ss ≡ o → IfSome o (λ s. has ss s ≡ true)) [ None ↦ λ is. tt | Some s ↦ λ is. last_has ss s is ] refl

pub more_used : (ss : List ℕ) (s : ℕ) → IfSome (more_recent ss s) (λ t. has ss t ≡ true)
more_used ss s = elim (more_recent ss s) as (λ o. more_recent ss s ≡ o → IfSome o (λ t. has ss t ≡ true)) [ None ↦ λ is. tt | Some t ↦ λ is. more_has ss s t is ] refl
