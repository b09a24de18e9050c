-- Writes to a part of a list.
use Rattle.std.proofs.Common.{rules, ◌≡◌, ℕ, ◌+◌, ◌-◌, ◌<◌, ◌≤◌, ◌⊎◌, List, length, take, drop, get_or, ◌∙◌, ap, sym, subst, arith, inl, inr}
use Rattle.std.proofs.lemmas.Bool.{cases_lt}
use Rattle.std.proofs.lemmas.List.{get_or-take, get_or-drop, length-take, length-drop, length-append, same_lists, places}
use borrow.Rule.Slice.PartMut.{put_mid}
use Rattle.std.proofs.lemmas.Slice.{between-put_mid}
use Rattle.byte_parts.specs.Parts.{part, written, ChangesWithin}

pub length-part : (at n : ℕ) (bytes : List ℕ) → at + n ≤ length bytes → length (part at n bytes) ≡ n
unfolding part
length-part at n bytes within = simp (length-take, length-drop) (omega arith)

pub get_or-part : (at n : ℕ) (bytes : List ℕ) (k d : ℕ) → k < n → get_or (part at n bytes) k d ≡ get_or bytes (at + k) d
unfolding part
get_or-part at n bytes k d within = get_or-take n (drop at bytes) k d within ∙ get_or-drop at bytes k d

-- two parts are the same where their elements are
pub parts_same : (i j n : ℕ) (new old : List ℕ) → i + n ≤ length new → j + n ≤ length old → ((k d : ℕ) → k < n → get_or new (i + k) d ≡ get_or old (j + k) d) → part i n new ≡ part j n old
parts_same i j n new old high low same =
    same_lists _ _ (length-part i n new high ∙ sym (length-part j n old low))
    (λ k d within. let below : k < n = omega (arith, length-part i n new high) in get_or-part i n new k d below ∙ same k d below ∙ sym (get_or-part j n old k d below))

-- a part apart from what changes stays
pub part_stays : (at n i m : ℕ) (old new : List ℕ) → ChangesWithin at n old new → i + m ≤ length old → (i + m ≤ at) ⊎ (at + n ≤ i) → part i m new ≡ part i m old
part_stays at n i m old new change within apart =
    parts_same i i m new old (omega (arith, change.same_length)) within
    (λ k d below. change.others (i + k) d (elim apart [ inl a ↦ inl (omega arith) | inr b ↦ inr (omega arith) ]))

length-written : (at : ℕ) (bytes old : List ℕ) → at + length bytes ≤ length old → length (written at bytes old) ≡ length old
length-written at bytes old within = simp (length-append, length-take, length-drop) (omega arith)

written-below : (at : ℕ) (bytes old : List ℕ) (k d : ℕ) → at ≤ length old → k < at → get_or (written at bytes old) k d ≡ get_or old k d
written-below at bytes old k d within low = grind (arith, places)

written-inside : (at : ℕ) (bytes old : List ℕ) (k d : ℕ) → at ≤ length old → at ≤ k → k < at + length bytes → get_or (written at bytes old) k d ≡ get_or bytes (k - at) d
written-inside at bytes old k d within high low = grind (arith, places)

written-above : (at : ℕ) (bytes old : List ℕ) (k d : ℕ) → at + length bytes ≤ length old → at + length bytes ≤ k → get_or (written at bytes old) k d ≡ get_or old k d
written-above at bytes old k d within high = grind (arith, places)

-- a write to a part, as the list that it leaves
pub written_is : (at n : ℕ) (bytes old new : List ℕ) → length bytes ≡ n → at + n ≤ length old → ChangesWithin at n old new → part at n new ≡ bytes → new ≡ written at bytes old
written_is at n bytes old new long within change there =
    same_lists new (written at bytes old) (change.same_length ∙ sym (length-written at bytes old (omega arith)))
    (λ k d k_in. elim (cases_lt k at) [
      | inl low ↦ change.others k d (inl low) ∙ sym (written-below at bytes old k d (omega arith) low)
      | inr high ↦ elim (cases_lt k (at + n)) [
        | inl inside ↦
            let e : at + (k - at) ≡ k = omega arith in
            subst (λ (j : ℕ). get_or new j d ≡ get_or (written at bytes old) k d) e
            (sym (get_or-part at n new (k - at) d (omega arith)) ∙ ap (λ (b : List ℕ). get_or b (k - at) d) there ∙ sym (written-inside at bytes old k d (omega arith) (omega arith) (omega arith)))
        | inr past ↦ change.others k d (inr (omega arith)) ∙ sym (written-above at bytes old k d (omega arith) (omega arith))
      ]
    ])

put_mid-below : (at k : ℕ) (xs ys : List ℕ) (i d : ℕ) → at ≤ length xs → i < at → get_or (put_mid at k xs ys) i d ≡ get_or xs i d
put_mid-below at k xs ys i d within low = search (rules, places)

put_mid-above : (at k : ℕ) (xs ys : List ℕ) (i d : ℕ) → at ≤ length xs → length ys ≡ k → at + k ≤ i → get_or (put_mid at k xs ys) i d ≡ get_or xs i d
put_mid-above at k xs ys i d within same high = grind (arith, places)

-- a write to `bytes[at..at + n]`
pub put_mid_changes : (at k n : ℕ) (xs ys : List ℕ) → at + n ≤ length xs → k ≡ n → length ys ≡ n → ChangesWithin at n xs (put_mid at k xs ys)
put_mid_changes at k n xs ys within ek same = record {
  same_length = simp (length-append, length-take, length-drop) (omega arith);
  others = λ i d apart. elim apart [
    | inl a ↦ put_mid-below at k xs ys i d (omega arith) (omega arith)
    | inr b ↦ put_mid-above at k xs ys i d (omega arith) (omega arith) (omega arith)
  ];
}

pub put_mid_there : (at k n : ℕ) (xs ys : List ℕ) → at + n ≤ length xs → k ≡ n → length ys ≡ n → part at n (put_mid at k xs ys) ≡ ys
unfolding part
put_mid_there at k n xs ys within ek same =
    let e : at + n - at ≡ n = omega arith in
    subst (λ (m : ℕ). take m (drop at (put_mid at k xs ys)) ≡ ys) e (between-put_mid at k xs ys (at + n) (omega arith) (omega arith))

pub ruleset writes = (put_mid_changes, put_mid_there)
