-- What a change of one set, or of the layer below, does to the whole.
use Rattle.std.proofs.Common.{◌≡◌, ◌≢◌, ◌<◌, ◌+◌, ◌%◌, ℕ, zero, suc, Bool, true, false, List, [], ◌∷◌, Option, Some, None, length, length-set, set, refl, sym, ap, ◌∙◌, subst, arith, get_or, nat_lt, ◌≤◌, ◌-◌, ◌^◌, if◌then◌else◌, bit_and, replicate}
use Rattle.std.specs.List.{slice_get}
use Rattle.std.specs.Option.{option_map, is_some, MatchOption}
use Rattle.std.proofs.lemmas.Bool.{ltb-false}
use Rattle.std.proofs.lemmas.Option.{slice_get-get_or, slice_get_within, get_or_from_slice_get}
use Rattle.recency.proofs.ListLemmas.{slice_get-set, slice_get-set_other, set_there, same_lists}
use Rattle.recency.specs.declared.entry.Entry.{Entry}
use Rattle.recency.specs.Uses.{last_of, but_last}
use Rattle.recency.specs.Kept.{Kept, with_lines, entry_of, touched, clean_last, cleaned, put_in, dirty_victim, if_dirty, clean_entry}
use Rattle.recency.specs.Levels.{set_at, set_of, with_set, kept_of, bytes_or, overlay_from, overlay, IsGood, IsSound, KeepsUnder, IsMasked}
use Rattle.hier_types.specs.Lines.{AreLines}
use Rattle.hier_types.specs.Settings.{IsPowerOfTwo}
use Rattle.std.proofs.lemmas.Nat.{and_mask, pow_pos}
use Rattle.std.proofs.lemmas.List.{length-replicate}
use Rattle.recency.proofs.UseLemmas.{by_eq}
use Rattle.recency.proofs.EntryLemmas.{at_front, past_front, good_entry, good_touched, entry_of-touched, last_entry, entry_of-but_last_other, entry_of-but_last_last, good_but_last, entry_of-clean_other, entry_of-clean_last, entry_of-but_last_none}

pub slice_get-overlay_from : (kept : ℕ → Option Entry) (i : ℕ) (lines : List (List ℕ)) (j : ℕ) → slice_get (overlay_from kept i lines) j ≡ option_map (bytes_or (kept (i + j))) (slice_get lines j)
slice_get-overlay_from kept i [] j = refl
slice_get-overlay_from kept i (b ∷ lines) zero = let k : i + 0 ≡ i = omega arith in rw k refl
slice_get-overlay_from kept i (b ∷ lines) (suc j) = let k : i + suc j ≡ suc i + j = omega arith in rw k (slice_get-overlay_from kept (suc i) lines j)

pub slice_get-overlay : (lines : List (List ℕ)) (sets : List Kept) (j : ℕ) → slice_get (overlay lines sets) j ≡ option_map (bytes_or (kept_of sets j)) (slice_get lines j)
slice_get-overlay lines sets j = slice_get-overlay_from (kept_of sets) 0 lines j ∙ (let k : 0 + j ≡ j = omega arith in rw k refl)

pub length-overlay_from : (kept : ℕ → Option Entry) (i : ℕ) (lines : List (List ℕ)) → length (overlay_from kept i lines) ≡ length lines
length-overlay_from kept i [] = refl
length-overlay_from kept i (b ∷ lines) = ap suc (length-overlay_from kept (suc i) lines)

pub length-overlay : (lines : List (List ℕ)) (sets : List Kept) → length (overlay lines sets) ≡ length lines
length-overlay lines sets = length-overlay_from (kept_of sets) 0 lines

pub set_at-same : (sets : List Kept) (i : ℕ) (k : Kept) → i < length sets → set_at (set sets i k) i ≡ k
set_at-same sets i k h = rw (slice_get-set sets i k h) refl

pub set_at-other : (sets : List Kept) (i j : ℕ) (k : Kept) → i ≢ j → set_at (set sets i k) j ≡ set_at sets j
set_at-other sets i j k ne = rw (slice_get-set_other sets i j k ne) refl

-- one set and the lines of that set below have changed
pub sound_step : (lines new : List (List ℕ)) (sets : List Kept) (i : ℕ) (k : Kept) → IsSound lines sets → AreLines new → i < length sets → 0 < k.ways
    → ((j : ℕ) → i ≢ j → IsGood new (length sets) j (set_at sets j).lines) → IsGood new (length sets) i k.lines → IsSound new (set sets i k)
sound_step lines new sets i k sound whole inside ways others here = record {
  whole = whole;
  some = rw length-set sound.some;
  ways = λ j h. by_eq i j
      (λ y. subst (λ x. 0 < (set_at (set sets i k) x).ways) y (rw (set_at-same sets i k inside) ways))
      (λ apart. rw (set_at-other sets i j k apart) (sound.ways j (rw length-set at h)));
  good = λ j. rw length-set (by_eq i j
      (λ y. subst (λ x. IsGood new (length sets) x (set_at (set sets i k) x).lines) y (rw (set_at-same sets i k inside) here))
      (λ apart. rw (set_at-other sets i j k apart) (others j apart)));
}

-- what is shown of a line, by its set
abbrev pub shown : List (List ℕ) → List Entry → ℕ → Option (List ℕ)
shown lines es line = option_map (bytes_or (entry_of es line)) (slice_get lines line)

pub overlay_step : (lines new : List (List ℕ)) (sets : List Kept) (i : ℕ) (k : Kept) → i < length sets
    → ((line : ℕ) → line % length sets ≡ i → shown new k.lines line ≡ shown lines (set_at sets i).lines line)
    → ((line : ℕ) → line % length sets ≢ i → slice_get new line ≡ slice_get lines line)
    → overlay new (set sets i k) ≡ overlay lines sets
overlay_step lines new sets i k inside here others = same_lists _ _ (λ line.
    slice_get-overlay new (set sets i k) line
    ∙ rw length-set (by_eq (line % length sets) i
    (λ y. rw (y, set_at-same sets i k inside) (here line y))
    (λ apart. rw (set_at-other sets i (line % length sets) k (λ y. apart (sym y)), others line apart) refl))
    ∙ sym (slice_get-overlay lines sets line))

-- an entry below, as an option
inside_some : (lines : List (List ℕ)) (l : ℕ) → l < length lines → (b : List ℕ) × (slice_get lines l ≡ Some b)
inside_some lines l h = (get_or lines l [], slice_get-get_or lines l [] h)

pub shown_kept : (lines : List (List ℕ)) (es : List Entry) (e : Entry) (l : ℕ) → l < length lines → entry_of es l ≡ Some e → shown lines es l ≡ Some e.bytes
shown_kept lines es e l h is = let b = inside_some lines l h in rw (is, b.1) refl

pub shown_touched : (lines : List (List ℕ)) (es : List Entry) (line : ℕ) (e : Entry) → entry_of es line ≡ Some e → (x : ℕ) → shown lines (touched es line) x ≡ shown lines es x
shown_touched lines es line e is x = ap (λ k. option_map (bytes_or k) (slice_get lines x)) (entry_of-touched es line x e is)

pub shown_clean_last : (lines : List (List ℕ)) (n i : ℕ) (es : List Entry) (e : Entry) → IsGood lines n i es → last_of es ≡ Some e → (x : ℕ) → shown (set lines e.line e.bytes) (clean_last es) x ≡ shown lines es x
shown_clean_last lines n i es e good is x =
    let kept = last_entry lines n i es e good is in
    let inside = (good_entry lines n i es e.line e good kept).inside in
    by_eq e.line x
    (λ y. subst (λ z. shown (set lines e.line e.bytes) (clean_last es) z ≡ shown lines es z) y
    (shown_kept (set lines e.line e.bytes) (clean_last es) (cleaned e) e.line (rw length-set inside) (entry_of-clean_last lines n i es e good is)
    ∙ sym (shown_kept lines es e e.line inside kept)))
    (λ apart. rw (entry_of-clean_other lines n i es e x is apart, slice_get-set_other lines e.line x e.bytes apart) refl)

pub shown_put : (lines : List (List ℕ)) (es : List Entry) (line : ℕ) (bytes : List ℕ) → slice_get lines line ≡ Some bytes → entry_of es line ≡ None → (x : ℕ) → shown lines (clean_entry line bytes ∷ es) x ≡ shown lines es x
shown_put lines es line bytes below none x =
    by_eq line x
    (λ y. subst (λ z. shown lines (clean_entry line bytes ∷ es) z ≡ shown lines es z) y (rw (at_front (clean_entry line bytes) es line refl, none, below) refl))
    (λ apart. ap (λ k. option_map (bytes_or k) (slice_get lines x)) (past_front (clean_entry line bytes) es x apart))

pub shown_but_last : (lines : List (List ℕ)) (n i : ℕ) (es : List Entry) (e : Entry) → IsGood lines n i es → last_of es ≡ Some e → e.dirty ≡ false → (x : ℕ) → shown lines (but_last es) x ≡ shown lines es x
shown_but_last lines n i es e good is clean x =
    let kept = last_entry lines n i es e good is in
    by_eq e.line x
    (λ y. subst (λ z. shown lines (but_last es) z ≡ shown lines es z) y
    (rw (entry_of-but_last_last lines n i es e good is, kept, (good_entry lines n i es e.line e good kept).clean clean) refl))
    (λ apart. ap (λ k. option_map (bytes_or k) (slice_get lines x)) (entry_of-but_last_other lines n i es e x is apart))

pub good_put : (lines : List (List ℕ)) (n i : ℕ) (es : List Entry) (line : ℕ) (bytes : List ℕ) → IsGood lines n i es → length bytes ≡ 64 → slice_get lines line ≡ Some bytes → line % n ≡ i → entry_of es line ≡ None
    → IsGood lines n i (clean_entry line bytes ∷ es)
good_put lines n i es line bytes good full below home none = (record { inside = slice_get_within lines line bytes below; home = home; full = full; clean = λ _. below }, none, good)

pub room_cases : (b : Bool) (P : Type 0) → (b ≡ true → P) → (b ≡ false → P) → P
room_cases b P t f = elim b as (λ v. (b ≡ v) → P) [ true ↦ t | false ↦ f ] refl

last_some : (es : List Entry) → 0 < length es → (e : Entry) × (last_of es ≡ Some e)
last_some [] h = absurd (omega arith)
last_some (e ∷ []) h = (e, refl)
last_some (e ∷ f ∷ es) h = last_some (f ∷ es) (omega arith)

pub good_put_in : (lines : List (List ℕ)) (n i : ℕ) (k : Kept) (line : ℕ) (bytes : List ℕ) → IsGood lines n i k.lines → length bytes ≡ 64 → slice_get lines line ≡ Some bytes → line % n ≡ i → entry_of k.lines line ≡ None
    → IsGood lines n i (put_in k (clean_entry line bytes))
good_put_in lines n i k line bytes good full below home none =
    room_cases (nat_lt (length k.lines) k.ways) _
    (λ t. rw t (good_put lines n i k.lines line bytes good full below home none))
    (λ f. rw f (good_put lines n i (but_last k.lines) line bytes (good_but_last lines n i k.lines good) full below home (entry_of-but_last_none lines n i k.lines line none)))

-- an entry that is nothing to write is clean
not_dirty : (e : Entry) → if_dirty (Some e) ≡ None → e.dirty ≡ false
not_dirty e is = room_cases e.dirty _ (λ t. (let k : Some e ≡ None = sym (ap (λ b. if b then Some e else None) t) ∙ is in absurd (let q = k in cc))) (λ f. f)

pub shown_put_in : (lines : List (List ℕ)) (n i : ℕ) (k : Kept) (line : ℕ) (bytes : List ℕ) → 0 < k.ways → dirty_victim k ≡ None → IsGood lines n i k.lines → slice_get lines line ≡ Some bytes → entry_of k.lines line ≡ None
    → (x : ℕ) → shown lines (put_in k (clean_entry line bytes)) x ≡ shown lines k.lines x
shown_put_in lines n i k line bytes ways ready good below none x =
    room_cases (nat_lt (length k.lines) k.ways) _
    (λ t. rw t (shown_put lines k.lines line bytes below none x))
    (λ f.
    let full : k.ways ≤ length k.lines = ltb-false (length k.lines) k.ways f in
    let last : (e : Entry) × (last_of k.lines ≡ Some e) = last_some k.lines (omega arith) in
    let clean : last.0.dirty ≡ false = not_dirty last.0 (sym (ap if_dirty last.1) ∙ sym (ap (λ b. if b then None else if_dirty (last_of k.lines)) f) ∙ ready) in
    rw f (shown_put lines (but_last k.lines) line bytes below (entry_of-but_last_none lines n i k.lines line none) x ∙ shown_but_last lines n i k.lines last.0 good last.1 clean x))

-- a set that stays
pub unchanged : (sets : List Kept) (line : ℕ) → line % length sets < length sets → sets ≡ with_set sets line (set_of sets line).lines
unchanged sets line h = sym (set_there sets (line % length sets) (set_of sets line) (rw (slice_get-get_or sets (line % length sets) (record { ways = 0; lines = [] }) h) refl))

-- the lines of a level are lines
pub whole_overlay : (lines : List (List ℕ)) (sets : List Kept) → IsSound lines sets → AreLines (overlay lines sets)
whole_overlay lines sets sound k d lt =
    let inside : k < length lines = omega (arith, length-overlay lines sets) in
    let below : slice_get lines k ≡ Some (get_or lines k d) = slice_get-get_or lines k d inside in
    let here : slice_get (overlay lines sets) k ≡ Some (bytes_or (kept_of sets k) (get_or lines k d)) = slice_get-overlay lines sets k ∙ ap (option_map (bytes_or (kept_of sets k))) below in
    let is : get_or (overlay lines sets) k d ≡ bytes_or (kept_of sets k) (get_or lines k d) = get_or_from_slice_get (overlay lines sets) k (bytes_or (kept_of sets k) (get_or lines k d)) d here in
    ap length is ∙ full (kept_of sets k) refl
  where
    full : (kept : Option Entry) → kept_of sets k ≡ kept → length (bytes_or (kept_of sets k) (get_or lines k d)) ≡ 64
    full None is = ap (λ e. length (bytes_or e (get_or lines k d))) is ∙ sound.whole k d (omega (arith, length-overlay lines sets))
    full (Some e) is = ap (λ e. length (bytes_or e (get_or lines k d))) is ∙ (good_entry lines (length sets) (k % length sets) (set_of sets k).lines k e (sound.good (k % length sets)) is).full

good_under : (lines new : List (List ℕ)) (n i : ℕ) (es : List Entry) → length new ≡ length lines
    → ((line : ℕ) → line % n ≡ i → is_some (entry_of es line) ≡ true → slice_get new line ≡ slice_get lines line) → IsGood lines n i es → IsGood new n i es
good_under lines new n i [] len same good = tt
good_under lines new n i (f ∷ es) len same good = (
  record {
    inside = rw len good.0.inside;
    home = good.0.home;
    full = good.0.full;
    clean = λ c. same f.line good.0.home (ap is_some (at_front f es f.line refl)) ∙ good.0.clean c;
  },
  good.1,
  good_under lines new n i es len (λ line home k. same line home (by_eq f.line line (λ y. ap is_some (at_front f es line y)) (λ apart. ap is_some (past_front f es line apart) ∙ k))) good.2,
)

-- the layer below has changed elsewhere
pub sound_under : (lines new : List (List ℕ)) (sets : List Kept) → KeepsUnder sets lines new → AreLines new → IsSound lines sets → IsSound new sets
sound_under lines new sets keeps whole sound = record {
  whole = whole;
  some = sound.some;
  ways = sound.ways;
  good = λ i. good_under lines new (length sets) i (set_at sets i).lines keeps.len
      (λ line home k. keeps.kept line (rw home k)) (sound.good i);
}

pub in_range : (lines : List (List ℕ)) (sets : List Kept) (line : ℕ) → IsSound lines sets → line % length sets < length sets
in_range lines sets line sound = let h = sound.some in omega arith

-- the bits of the mask are the number of a line's set
pub masked : (line mask n most : ℕ) → n ≡ mask + 1 → IsPowerOfTwo most n → bit_and line mask ≡ line % n
masked line mask n most size power =
    let same : mask ≡ 2 ^ power.0 - 1 = let e = power.1 in omega arith in
    ap (bit_and line) same ∙ and_mask line power.0 ∙ ap (λ k. line % k) (sym power.1)

pub masked_sets : (made : List Kept) (sets : ℕ) (k : Kept) → made ≡ replicate sets k → IsPowerOfTwo 4096 sets → IsMasked made (sets - 1)
masked_sets made sets k is power =
    let size : length made ≡ sets = ap length is ∙ length-replicate sets k in
    let some = pow_pos power.0 in
    let e = power.1 in
    record { size = omega arith; power = rw size power }

-- a kept line is touched
pub kept_some : (kept : Option Entry) → is_some kept ≡ true → (e : Entry) × (kept ≡ Some e)
kept_some None is = absurd (let k = is in cc)
kept_some (Some e) is = (e, refl)

pub touch_sound : (lines : List (List ℕ)) (sets : List Kept) (line : ℕ) (sound : IsSound lines sets) → is_some (kept_of sets line) ≡ true → IsSound lines (with_set sets line (touched (set_of sets line).lines line))
touch_sound lines sets line sound kept =
    let e = kept_some (kept_of sets line) kept in
    sound_step lines lines sets (line % length sets) (with_lines (set_of sets line) (touched (set_of sets line).lines line)) sound sound.whole (in_range lines sets line sound) (sound.ways (line % length sets) (in_range lines sets line sound))
    (λ j apart. sound.good j) (good_touched lines (length sets) (line % length sets) (set_of sets line).lines line e.0 (sound.good (line % length sets)) e.1)

pub touch_same : (lines : List (List ℕ)) (sets : List Kept) (line : ℕ) (sound : IsSound lines sets) → is_some (kept_of sets line) ≡ true → overlay lines (with_set sets line (touched (set_of sets line).lines line)) ≡ overlay lines sets
touch_same lines sets line sound kept =
    let e = kept_some (kept_of sets line) kept in
    overlay_step lines lines sets (line % length sets) (with_lines (set_of sets line) (touched (set_of sets line).lines line)) (in_range lines sets line sound)
    (λ x at. shown_touched lines (set_of sets line).lines line e.0 e.1 x) (λ x apart. refl)

-- what is copied from a kept line, and from below
pub viewed : (lines : List (List ℕ)) (sets : List Kept) (line : ℕ) → line < length lines → (found : Bool) (old bytes : List ℕ)
    → MatchOption (kept_of sets line) ((found ≡ false) × (bytes ≡ old)) (λ e. (found ≡ true) × (bytes ≡ e.bytes)) → found ≡ true → slice_get (overlay lines sets) line ≡ Some bytes
viewed lines sets line inside found old bytes copied t = slice_get-overlay lines sets line ∙ go (kept_of sets line) refl copied
  where
    go : (kept : Option Entry) → kept_of sets line ≡ kept → MatchOption kept ((found ≡ false) × (bytes ≡ old)) (λ e. (found ≡ true) × (bytes ≡ e.bytes)) → option_map (bytes_or (kept_of sets line)) (slice_get lines line) ≡ Some bytes
    go None is copied = absurd (let k : true ≡ false = sym t ∙ copied.0 in cc)
    go (Some e) is copied = ap (λ k. option_map (bytes_or k) (slice_get lines line)) is ∙ ap (option_map (bytes_or (Some e))) (slice_get-get_or lines line [] inside) ∙ ap Some (sym copied.1)

pub viewed_below : (lines : List (List ℕ)) (sets : List Kept) (line : ℕ) (found : Bool) (old bytes below : List ℕ)
    → MatchOption (kept_of sets line) ((found ≡ false) × (bytes ≡ old)) (λ e. (found ≡ true) × (bytes ≡ e.bytes)) → found ≡ false → slice_get lines line ≡ Some below → slice_get (overlay lines sets) line ≡ Some below
viewed_below lines sets line found old bytes below copied f there = slice_get-overlay lines sets line ∙ go (kept_of sets line) refl copied
  where
    go : (kept : Option Entry) → kept_of sets line ≡ kept → MatchOption kept ((found ≡ false) × (bytes ≡ old)) (λ e. (found ≡ true) × (bytes ≡ e.bytes)) → option_map (bytes_or (kept_of sets line)) (slice_get lines line) ≡ Some below
    go None is copied = ap (λ k. option_map (bytes_or k) (slice_get lines line)) is ∙ ap (option_map (bytes_or None)) there
    go (Some e) is copied = absurd (let k : true ≡ false = sym copied.0 ∙ f in cc)

-- what was copied is kept
pub copied_kept : (sets : List Kept) (line : ℕ) (found : Bool) (old bytes : List ℕ) → MatchOption (kept_of sets line) ((found ≡ false) × (bytes ≡ old)) (λ e. (found ≡ true) × (bytes ≡ e.bytes)) → found ≡ true → is_some (kept_of sets line) ≡ true
copied_kept sets line found old bytes copied t = go (kept_of sets line) refl copied
  where
    go : (kept : Option Entry) → kept_of sets line ≡ kept → MatchOption kept ((found ≡ false) × (bytes ≡ old)) (λ e. (found ≡ true) × (bytes ≡ e.bytes)) → is_some (kept_of sets line) ≡ true
    go None is copied = absurd (let k : true ≡ false = sym t ∙ copied.0 in cc)
    go (Some e) is copied = ap is_some is
