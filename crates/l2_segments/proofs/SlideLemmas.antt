-- Strings that stay while bytes apart from them change, and one that is moved down.
use Rattle.std.proofs.Common.{◌≡◌, ◌<◌, ◌≤◌, ◌+◌, ◌*◌, ◌⊎◌, ℕ, List, [], ◌∷◌, ◌++◌, length, take, drop, refl, sym, ap, ◌∙◌, subst, inl, inr, arith, add-one}
use Rattle.std.proofs.Math.ListN.{set}
use Rattle.std.proofs.Math.Seq.{drop-cons}
use Rattle.std.proofs.lemmas.List.{map-append, take-append-drop, take_all, drop_all, take_more_set, drop-set-lt, set_split}
use Rattle.l2_segments.specs.declared.held.Held.{Held}
use Rattle.byte_parts.specs.Parts.{part, ChangesWithin}
use Rattle.l2_segments.specs.Strings.{Text, segments_of}
use Rattle.l2_segments.specs.Held.{text_at, texts_of, held_at, segments_in, IsLaid}
use Rattle.byte_parts.proofs.PartLemmas.{part_stays}
use Rattle.l2_segments.proofs.LaidLemmas.{segments_in-cons, laid_lower, laid_fits, laid_more}

-- they stay where all of them stand in front of what changes, or behind it
pub texts_stay : (at n from size : ℕ) (old new : List ℕ) (hs : List Held) → ChangesWithin at n old new → IsLaid from size hs → size ≤ length old → (size ≤ at) ⊎ (at + n ≤ 8 * from) → texts_of new hs ≡ texts_of old hs
texts_stay at n from size old new [] change laid within apart = refl
texts_stay at n from size old new (h ∷ hs) change laid within apart =
    let first = laid.0 in
    let fits = laid_fits (h.start + segments_of h.len) size hs laid.1 in
    let same : part (8 * h.start) h.len new ≡ part (8 * h.start) h.len old =
    part_stays at n (8 * h.start) h.len old new change (omega arith) (elim apart [ inl a ↦ inl (omega arith) | inr b ↦ inr (omega arith) ]) in
    let rest = texts_stay at n (h.start + segments_of h.len) size old new hs change laid.1 within (elim apart [ inl a ↦ inl a | inr b ↦ inr (omega arith) ]) in
    ap (λ (bytes : List ℕ). (let t : Text = record { tag = h.tag; bytes = bytes } in t) ∷ texts_of new hs) same ∙ ap (λ ts. text_at old h ∷ ts) rest

-- the place of a string that was moved
abbrev pub moved : Held → ℕ → Held
moved h to = record h { start = to }

pub texts_moved : (to : ℕ) (old new : List ℕ) (front rest : List Held) (h : Held) → IsLaid 0 (8 * to) front → IsLaid to (length old) (h ∷ rest)
    → ChangesWithin (8 * to) h.len old new → part (8 * to) h.len new ≡ part (8 * h.start) h.len old
    → texts_of new (front ++ moved h to ∷ rest) ≡ texts_of old (front ++ h ∷ rest)
texts_moved to old new front rest h low high change there =
    let first = high.0 in
    let fits = laid_fits (h.start + segments_of h.len) (length old) rest high.1 in
    let below = texts_stay (8 * to) h.len 0 (8 * to) old new front change low (omega arith) (inl (omega arith)) in
    let above = texts_stay (8 * to) h.len (h.start + segments_of h.len) (length old) old new rest change high.1 (omega arith) (inr (omega arith)) in
    let here : text_at new (moved h to) ≡ text_at old h = ap (λ (bytes : List ℕ). let t : Text = record { tag = h.tag; bytes = bytes } in t) there in
    map-append (text_at new) front (moved h to ∷ rest)
    ∙ ap (λ ts. ts ++ texts_of new (moved h to ∷ rest)) below
    ∙ ap (λ t. texts_of old front ++ t ∷ texts_of new rest) here
    ∙ ap (λ ts. texts_of old front ++ text_at old h ∷ ts) above
    ∙ sym (map-append (text_at old) front (h ∷ rest))

-- the strings in front of the index stand without gaps, and all are what they were
pub record IsSlid (old_store : List ℕ) (old : List Held) (store : List ℕ) (held : List Held) (index end : ℕ) : Type 0 where
  pub texts : texts_of store held ≡ texts_of old_store old
  pub packed : IsLaid 0 (8 * end) (take index held)
  pub rest : IsLaid end (length store) (drop index held)
  pub sum : end + segments_in (drop index held) ≡ segments_in old

drop_here : (held : List Held) (index : ℕ) → index < length held → drop index held ≡ held_at held index ∷ drop (index + 1) held
drop_here held index within = drop-cons held index (record { tag = 0; start = 0; len = 0 }) within ∙ ap (λ n. held_at held index ∷ drop n held) (sym (add-one index))

split_here : (held : List Held) (index : ℕ) → index < length held → take index held ++ held_at held index ∷ drop (index + 1) held ≡ held
split_here held index within = ap (λ l. take index held ++ l) (sym (drop_here held index within)) ∙ take-append-drop index held

pub slid_here : (old_store : List ℕ) (old : List Held) (store : List ℕ) (held : List Held) (index end : ℕ) → IsSlid old_store old store held index end → index < length held
    → IsLaid end (length store) (held_at held index ∷ drop (index + 1) held)
slid_here old_store old store held index end is within = subst (IsLaid end (length store)) (drop_here held index within) is.rest

pub slid_fits : (old_store : List ℕ) (old : List Held) (store : List ℕ) (held : List Held) (index end : ℕ) → IsSlid old_store old store held index end → index < length held
    → (end ≤ (held_at held index).start) × (8 * ((held_at held index).start + segments_of (held_at held index).len) ≤ length store)
slid_fits old_store old store held index end is within =
    let here = slid_here old_store old store held index end is within in
    let fits = laid_fits ((held_at held index).start + segments_of (held_at held index).len) (length store) (drop (index + 1) held) here.1 in
    (here.0, omega arith)

pub slid_more : (old_store : List ℕ) (old : List Held) (store new : List ℕ) (held : List Held) (index end : ℕ) → IsSlid old_store old store held index end → index < length held
    → ChangesWithin (8 * end) (held_at held index).len store new
    → part (8 * end) (held_at held index).len new ≡ part (8 * (held_at held index).start) (held_at held index).len store
    → IsSlid old_store old new (set held index (moved (held_at held index) end)) (index + 1) (end + segments_of (held_at held index).len)
slid_more old_store old store new held index end is within change there =
    let h : Held = held_at held index in
    let here = slid_here old_store old store held index end is within in
    let cut : set held index (moved h end) ≡ take index held ++ moved h end ∷ drop (index + 1) held =
    set_split held index (moved h end) within ∙ ap (λ n. take index held ++ moved h end ∷ drop n held) (sym (add-one index)) in
    let front : take (index + 1) (set held index (moved h end)) ≡ take index held ++ moved h end ∷ [] = take_more_set held index (moved h end) within in
    let back : drop (index + 1) (set held index (moved h end)) ≡ drop (index + 1) held = drop-set-lt (index + 1) held index (moved h end) (omega arith) in
    let fits = laid_fits (h.start + segments_of h.len) (length store) (drop (index + 1) held) here.1 in
    let first = here.0 in
    record {
      texts = ap (texts_of new) cut ∙ texts_moved end store new (take index held) (drop (index + 1) held) h is.packed here change there
          ∙ ap (texts_of store) (split_here held index within) ∙ is.texts;
      packed = subst (IsLaid 0 (8 * (end + segments_of h.len))) (sym front)
          (laid_more 0 end (8 * (end + segments_of h.len)) (take index held) (moved h end) is.packed (omega arith) (omega arith));
      rest = rw (back, change.same_length) (laid_lower (end + segments_of h.len) (h.start + segments_of h.len) (length store) (drop (index + 1) held) (omega arith) here.1);
      sum = ap (λ l. end + segments_of h.len + segments_in l) back
          ∙ (let e : segments_in (drop index held) ≡ segments_of h.len + segments_in (drop (index + 1) held) = ap segments_in (drop_here held index within) ∙ segments_in-cons h (drop (index + 1) held) in omega (arith, is.sum));
    }

pub slid_all : (old_store : List ℕ) (old : List Held) (store : List ℕ) (held : List Held) (index end : ℕ) → IsSlid old_store old store held index end → length held ≤ index
    → IsLaid 0 (8 * end) held × (end ≡ segments_in old)
slid_all old_store old store held index end is all =
    let rest : end + segments_in (drop index held) ≡ end = ap (λ l. end + segments_in l) (drop_all index held all) ∙ omega arith in
    (subst (IsLaid 0 (8 * end)) (take_all index held all) is.packed, omega (arith, is.sum))
