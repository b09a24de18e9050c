-- A set's lines, by what its slots keep.
use Rattle.std.proofs.Common.{◌≡◌, ◌≢◌, ◌<◌, ◌≤◌, ℕ, Bool, true, false, List, [], ◌∷◌, Some, None, length, length-set, set, get_or, refl, sym, ap, ◌∙◌, arith, if◌then◌else◌, nat_lt, get_or-set_same, get_or-set_other}
use Rattle.std.specs.List.{slice_get}
use Rattle.std.specs.Option.{option_map, is_some}
use Rattle.std.proofs.lemmas.Bool.{eq-eqb, ne_eqb, le-ltb}
use Rattle.std.proofs.lemmas.List.{length-map}
use Rattle.recency.specs.declared.entry.Entry.{Entry}
use Rattle.recency.specs.declared.entry.Tag.{Tag}
use Rattle.recency.specs.Uses.{Used, has, removed, last_of, but_last, more_recent, IsDistinct}
use Rattle.recency.specs.Kept.{entry_of, without, touched, dirty_entry, cleaned, clean_last, clean_in, put_in, dirty_victim, if_dirty, overwritten, poked, renewed}
use Rattle.recency.specs.Slots.{tag_at, entry_at, entries_of, IsStored, IsSlotOf}
use Rattle.recency.proofs.EntryLemmas.{without_absent, renewed_absent}
use Rattle.recency.proofs.UseLemmas.{by_eq, has_front, has_past, not_both, has_apart, has_below, has-removed, has-removed_other, distinct-removed, below-removed}
use Rattle.recency.proofs.SlotLemmas.{entries_same, slot_entry, slot_none, none_slot, last_of-map, but_last-map, last_has, last_none_empty, removed_last}

-- the first slot is in use
pub first_has : (ss : List ℕ) (s : ℕ) → slice_get ss 0 ≡ Some s → has ss s ≡ true
first_has [] s is = absurd (let k = is in cc)
first_has (y ∷ ss) s is = let same : y ≡ s = cc in has_front y ss s same

pub first_touched : (tags : List Tag) (bytes : List (List ℕ)) (ss : List ℕ) (s line : ℕ) → slice_get ss 0 ≡ Some s → (tag_at tags s).line ≡ line
    → (touched (entries_of tags bytes ss) line ≡ entries_of tags bytes ss) × (is_some (entry_of (entries_of tags bytes ss) line) ≡ true)
first_touched tags bytes [] s line is at = absurd (let k = is in cc)
first_touched tags bytes (y ∷ ss) s line is at =
    let same : y ≡ s = cc in
    let here : (tag_at tags y).line ≡ line = ap (λ x. (tag_at tags x).line) same ∙ at in
    (rw (eq-eqb (tag_at tags y).line line here) (rw (eq-eqb (tag_at tags y).line line here) refl), rw (eq-eqb (tag_at tags y).line line here) refl)

-- a slot after its tag, or its tag and its bytes, were changed
pub entry_tag : (tags : List Tag) (bytes : List (List ℕ)) (s : ℕ) (t : Tag) → s < length tags → entry_at (set tags s t) bytes s ≡ record { line = t.line; bytes = get_or bytes s []; dirty = t.dirty }
entry_tag tags bytes s t lt = ap (λ (u : Tag). record { line = u.line; bytes = get_or bytes s []; dirty = u.dirty }) (get_or-set_same tags s t (record { line = 0; dirty = false }) lt)

pub entry_tag_other : (tags : List Tag) (bytes : List (List ℕ)) (s x : ℕ) (t : Tag) → x ≢ s → entry_at (set tags s t) bytes x ≡ entry_at tags bytes x
entry_tag_other tags bytes s x t ne = ap (λ (u : Tag). record { line = u.line; bytes = get_or bytes x []; dirty = u.dirty }) (get_or-set_other tags s x t (record { line = 0; dirty = false }) ne)

pub entry_both : (tags : List Tag) (bytes : List (List ℕ)) (s : ℕ) (t : Tag) (b : List ℕ) → s < length tags → s < length bytes → entry_at (set tags s t) (set bytes s b) s ≡ record { line = t.line; bytes = b; dirty = t.dirty }
entry_both tags bytes s t b lt lt2 = entry_tag tags (set bytes s b) s t lt ∙ ap (λ (c : List ℕ). record { line = t.line; bytes = c; dirty = t.dirty }) (get_or-set_same bytes s b [] lt2)

pub entry_both_other : (tags : List Tag) (bytes : List (List ℕ)) (s x : ℕ) (t : Tag) (b : List ℕ) → x ≢ s → entry_at (set tags s t) (set bytes s b) x ≡ entry_at tags bytes x
entry_both_other tags bytes s x t b ne =
    entry_tag_other tags (set bytes s b) s x t ne ∙ ap (λ (c : List ℕ). record { line = (tag_at tags x).line; bytes = c; dirty = (tag_at tags x).dirty }) (get_or-set_other bytes s x b [] ne)

-- a slot's line is made clean
abbrev pub clean_tag : List Tag → ℕ → Tag
clean_tag tags s = record { line = (tag_at tags s).line; dirty = false }

pub clean_none_in : (tags : List Tag) (bytes : List (List ℕ)) (ss : List ℕ) (line : ℕ) → ((x : ℕ) → has ss x ≡ true → (tag_at tags x).line ≡ line → ⊥) → clean_in (entries_of tags bytes ss) line ≡ entries_of tags bytes ss
clean_none_in tags bytes [] line none = refl
clean_none_in tags bytes (z ∷ ss) line none =
    rw (ne_eqb (tag_at tags z).line line (none z (has_front z ss z refl)))
    (ap (λ l. entry_at tags bytes z ∷ l) (clean_none_in tags bytes ss line (λ x k. none x (by_eq z x (λ q. has_front z ss x q) (λ ne. has_past z ss x ne ∙ k)))))

clean_at_slot : (tags : List Tag) (bytes : List (List ℕ)) (ss : List ℕ) (s line : ℕ) → IsDistinct ss → has ss s ≡ true → s < length tags → (tag_at tags s).line ≡ line
    → ((x : ℕ) → has ss x ≡ true → (tag_at tags x).line ≡ line → x ≡ s)
    → entries_of (set tags s (clean_tag tags s)) bytes ss ≡ clean_in (entries_of tags bytes ss) line
clean_at_slot tags bytes [] s line d h lt at only = refl
clean_at_slot tags bytes (y ∷ ss) s line d h lt at only =
    by_eq y s
    (λ e.
    let here : (tag_at tags y).line ≡ line = ap (λ x. (tag_at tags x).line) e ∙ at in
    let out : has ss s ≡ false = ap (has ss) (sym e) ∙ d.0 in
    let front : entry_at (set tags s (clean_tag tags s)) bytes y ≡ cleaned (entry_at tags bytes y) =
    ap (entry_at (set tags s (clean_tag tags s)) bytes) e ∙ entry_tag tags bytes s (clean_tag tags s) lt ∙ sym (ap (λ x. cleaned (entry_at tags bytes x)) e) in
    let rest : entries_of (set tags s (clean_tag tags s)) bytes ss ≡ clean_in (entries_of tags bytes ss) line =
    entries_same tags (set tags s (clean_tag tags s)) bytes bytes ss (λ x k. entry_tag_other tags bytes s x (clean_tag tags s) (has_apart ss x s k out))
    ∙ sym (clean_none_in tags bytes ss line (λ x k at2. not_both (has ss x) k (ap (has ss) (only x (by_eq y x (λ q. has_front y ss x q) (λ ne. has_past y ss x ne ∙ k)) at2) ∙ out))) in
    rw (eq-eqb (tag_at tags y).line line here) (ap (λ z. z ∷ entries_of (set tags s (clean_tag tags s)) bytes ss) front ∙ ap (λ l. cleaned (entry_at tags bytes y) ∷ l) rest))
    (λ apart.
    let other : (tag_at tags y).line ≢ line = λ k. apart (only y (has_front y ss y refl) k) in
    rw (ne_eqb (tag_at tags y).line line other)
    (ap (λ z. z ∷ entries_of (set tags s (clean_tag tags s)) bytes ss) (entry_tag_other tags bytes s y (clean_tag tags s) apart)
    ∙ ap (λ l. entry_at tags bytes y ∷ l) (clean_at_slot tags bytes ss s line d.1 (sym (has_past y ss s apart) ∙ h) lt at (λ x k. only x (by_eq y x (λ q. has_front y ss x q) (λ ne. has_past y ss x ne ∙ k))))))

clean_last_slot : (tags : List Tag) (bytes : List (List ℕ)) (ss : List ℕ) (s : ℕ) → IsDistinct ss → last_of ss ≡ Some s → s < length tags
    → entries_of (set tags s (clean_tag tags s)) bytes ss ≡ clean_last (entries_of tags bytes ss)
clean_last_slot tags bytes [] s d is lt = refl
clean_last_slot tags bytes (y ∷ []) s d is lt =
    let e : y ≡ s = cc in
    ap (λ z. z ∷ []) (ap (entry_at (set tags s (clean_tag tags s)) bytes) e ∙ entry_tag tags bytes s (clean_tag tags s) lt ∙ sym (ap (λ x. cleaned (entry_at tags bytes x)) e))
clean_last_slot tags bytes (y ∷ z ∷ ss) s d is lt =
    let other : y ≢ s = λ e. not_both (has (z ∷ ss) y) (ap (has (z ∷ ss)) e ∙ last_has (z ∷ ss) s is) d.0 in
    ap (λ x. x ∷ entries_of (set tags s (clean_tag tags s)) bytes (z ∷ ss)) (entry_tag_other tags bytes s y (clean_tag tags s) other)
    ∙ ap (λ l. entry_at tags bytes y ∷ l) (clean_last_slot tags bytes (z ∷ ss) s d.1 is lt)

first_changed : (tags : List Tag) (bytes : List (List ℕ)) (ss : List ℕ) (s : ℕ) (b : List ℕ) → IsDistinct ss → slice_get ss 0 ≡ Some s → s < length tags → s < length bytes
    → entries_of (set tags s (record { line = (tag_at tags s).line; dirty = true })) (set bytes s b) ss ≡ overwritten (entries_of tags bytes ss) (tag_at tags s).line b
first_changed tags bytes [] s b d is lt lt2 = refl
first_changed tags bytes (y ∷ ss) s b d is lt lt2 =
    let e : y ≡ s = cc in
    let out : has ss s ≡ false = ap (has ss) (sym e) ∙ d.0 in
    let t : Tag = record { line = (tag_at tags s).line; dirty = true } in
    rw (eq-eqb (tag_at tags y).line (tag_at tags s).line (ap (λ x. (tag_at tags x).line) e))
    (ap (λ z. z ∷ entries_of (set tags s t) (set bytes s b) ss) (ap (entry_at (set tags s t) (set bytes s b)) e ∙ entry_both tags bytes s t b lt lt2)
    ∙ ap (λ l. dirty_entry (tag_at tags s).line b ∷ l) (entries_same tags (set tags s t) bytes (set bytes s b) ss (λ x k. entry_both_other tags bytes s x t b (has_apart ss x s k out))))

-- a slot after its bytes were changed
entry_bytes : (tags : List Tag) (bytes : List (List ℕ)) (s : ℕ) (b : List ℕ) → s < length bytes → entry_at tags (set bytes s b) s ≡ record { line = (tag_at tags s).line; bytes = b; dirty = (tag_at tags s).dirty }
entry_bytes tags bytes s b lt = ap (λ (c : List ℕ). record { line = (tag_at tags s).line; bytes = c; dirty = (tag_at tags s).dirty }) (get_or-set_same bytes s b [] lt)

entry_bytes_other : (tags : List Tag) (bytes : List (List ℕ)) (s x : ℕ) (b : List ℕ) → x ≢ s → entry_at tags (set bytes s b) x ≡ entry_at tags bytes x
entry_bytes_other tags bytes s x b ne = ap (λ (c : List ℕ). record { line = (tag_at tags x).line; bytes = c; dirty = (tag_at tags x).dirty }) (get_or-set_other bytes s x b [] ne)

renewed_at : (tags : List Tag) (bytes : List (List ℕ)) (ss : List ℕ) (s line : ℕ) (b : List ℕ) → IsDistinct ss → has ss s ≡ true → s < length bytes → (tag_at tags s).line ≡ line
    → ((x : ℕ) → has ss x ≡ true → (tag_at tags x).line ≡ line → x ≡ s)
    → entries_of tags (set bytes s b) ss ≡ renewed (entries_of tags bytes ss) line b
renewed_at tags bytes [] s line b d h lt at only = refl
renewed_at tags bytes (y ∷ ss) s line b d h lt at only =
    by_eq y s
    (λ e.
    let here : (tag_at tags y).line ≡ line = ap (λ x. (tag_at tags x).line) e ∙ at in
    let out : has ss s ≡ false = ap (has ss) (sym e) ∙ d.0 in
    let front : entry_at tags (set bytes s b) y ≡ record { line = (tag_at tags y).line; bytes = b; dirty = (tag_at tags y).dirty } =
    ap (entry_at tags (set bytes s b)) e ∙ entry_bytes tags bytes s b lt ∙ sym (ap (λ x. record { line = (tag_at tags x).line; bytes = b; dirty = (tag_at tags x).dirty }) e) in
    rw (eq-eqb (tag_at tags y).line line here)
    (ap (λ z. z ∷ entries_of tags (set bytes s b) ss) front
    ∙ ap (λ l. record { line = (tag_at tags y).line; bytes = b; dirty = (tag_at tags y).dirty } ∷ l) (entries_same tags tags bytes (set bytes s b) ss (λ x k. entry_bytes_other tags bytes s x b (has_apart ss x s k out)))))
    (λ apart.
    let other : (tag_at tags y).line ≢ line = λ k. apart (only y (has_front y ss y refl) k) in
    rw (ne_eqb (tag_at tags y).line line other)
    (ap (λ z. z ∷ entries_of tags (set bytes s b) ss) (entry_bytes_other tags bytes s y b apart)
    ∙ ap (λ l. entry_at tags bytes y ∷ l) (renewed_at tags bytes ss s line b d.1 (sym (has_past y ss s apart) ∙ h) lt at (λ x k. only x (by_eq y x (λ q. has_front y ss x q) (λ ne. has_past y ss x ne ∙ k))))))

-- the slots in use after one was used
has_used : (ss : List ℕ) (s x : ℕ) → has (s ∷ removed ss s) x ≡ true → (x ≢ s) → has ss x ≡ true
has_used ss s x h ne = sym (has-removed_other ss s x (λ e. ne (sym e))) ∙ sym (has_past s (removed ss s) x (λ e. ne (sym e))) ∙ h

-- the order after a slot was used
abbrev pub after_use : Used → ℕ → Used
after_use order s = record { ways = order.ways; slots = s ∷ removed order.slots s }

module _ {ways : ℕ} {order : Used} {tags : List Tag} {bytes : List (List ℕ)} (stored : IsStored ways order tags bytes) where
  pub slot_below : (s : ℕ) → has order.slots s ≡ true → s < ways
  slot_below s h = let lt = has_below order.slots order.ways s stored.tagged.below h in let w = stored.ways_are in omega arith

  pub tag_within : (s : ℕ) → has order.slots s ≡ true → s < length tags
  tag_within s h = let lt = slot_below s h in let w = stored.ways_are in let n = stored.tagged.len in omega arith

  pub bytes_within : (s : ℕ) → has order.slots s ≡ true → s < length bytes
  bytes_within s h = let lt = slot_below s h in let n = stored.full in omega arith

  pub used_below : (s : ℕ) → has order.slots s ≡ true → s < order.ways
  used_below s h = has_below order.slots order.ways s stored.tagged.below h

  pub only_slot : (s line : ℕ) → has order.slots s ≡ true → (tag_at tags s).line ≡ line → (x : ℕ) → has order.slots x ≡ true → (tag_at tags x).line ≡ line → x ≡ s
  only_slot s line h at x k is = stored.tagged.unique x s k h (is ∙ sym at)

  pub found_entry : (s line : ℕ) → has order.slots s ≡ true → (tag_at tags s).line ≡ line → entry_of (entries_of tags bytes order.slots) line ≡ Some (entry_at tags bytes s)
  found_entry s line h at = (slot_entry tags bytes order.slots s line stored.tagged.distinct h at (only_slot s line h at)).0

  pub found_touched : (s line : ℕ) → has order.slots s ≡ true → (tag_at tags s).line ≡ line → entries_of tags bytes (s ∷ removed order.slots s) ≡ touched (entries_of tags bytes order.slots) line
  found_touched s line h at =
      let both = slot_entry tags bytes order.slots s line stored.tagged.distinct h at (only_slot s line h at) in
      rw both.0 (ap (λ l. entry_at tags bytes s ∷ l) (sym both.1))

  pub none_touched : (line : ℕ) → IsSlotOf order.slots tags line None → entries_of tags bytes order.slots ≡ touched (entries_of tags bytes order.slots) line
  none_touched line none = rw (slot_none tags bytes order.slots line none) refl

  pub stored_used : (s : ℕ) → has order.slots s ≡ true → IsStored ways (after_use order s) tags bytes
  stored_used s h = record {
    some = stored.some;
    ways_are = stored.ways_are;
    tagged = record {
      len = stored.tagged.len;
      distinct = (has-removed order.slots s stored.tagged.distinct, distinct-removed order.slots s stored.tagged.distinct);
      below = (used_below s h, below-removed order.slots s order.ways stored.tagged.below);
      unique = λ x y hx hy same. stored.tagged.unique x y (was s h x hx) (was s h y hy) same;
    };
    full = stored.full;
  }
    where
      was : (s : ℕ) → has order.slots s ≡ true → (x : ℕ) → has (s ∷ removed order.slots s) x ≡ true → has order.slots x ≡ true
      was s h x k = by_eq x s (λ e. ap (has order.slots) e ∙ h) (λ ne. has_used order.slots s x k ne)

  pub cleaned_slot : (s line : ℕ) → has order.slots s ≡ true → (tag_at tags s).line ≡ line → entries_of (set tags s (clean_tag tags s)) bytes order.slots ≡ clean_in (entries_of tags bytes order.slots) line
  cleaned_slot s line h at = clean_at_slot tags bytes order.slots s line stored.tagged.distinct h (tag_within s h) at (only_slot s line h at)

  pub cleaned_last : (s : ℕ) → last_of order.slots ≡ Some s → entries_of (set tags s (clean_tag tags s)) bytes order.slots ≡ clean_last (entries_of tags bytes order.slots)
  cleaned_last s is = clean_last_slot tags bytes order.slots s stored.tagged.distinct is (tag_within s (last_has order.slots s is))

  pub changed_first : (s : ℕ) (b : List ℕ) → slice_get order.slots 0 ≡ Some s
      → entries_of (set tags s (record { line = (tag_at tags s).line; dirty = true })) (set bytes s b) order.slots ≡ overwritten (entries_of tags bytes order.slots) (tag_at tags s).line b
  changed_first s b is =
      let h = first_has order.slots s is in
      first_changed tags bytes order.slots s b stored.tagged.distinct is (tag_within s h) (bytes_within s h)

  pub poked_first : (s offset byte : ℕ) → slice_get order.slots 0 ≡ Some s
      → entries_of (set tags s (record { line = (tag_at tags s).line; dirty = true })) (set bytes s (set (get_or bytes s []) offset byte)) order.slots ≡ poked (entries_of tags bytes order.slots) (tag_at tags s).line offset byte
  poked_first s offset byte is = changed_first s (set (get_or bytes s []) offset byte) is ∙ over order.slots is
    where
      over : (ss : List ℕ) → slice_get ss 0 ≡ Some s → overwritten (entries_of tags bytes ss) (tag_at tags s).line (set (get_or bytes s []) offset byte) ≡ poked (entries_of tags bytes ss) (tag_at tags s).line offset byte
      over [] is = refl
      over (y ∷ ss) is =
          let e : y ≡ s = cc in
          rw (eq-eqb (tag_at tags y).line (tag_at tags s).line (ap (λ x. (tag_at tags x).line) e))
          (ap (λ x. dirty_entry (tag_at tags s).line (set (get_or bytes x []) offset byte) ∷ entries_of tags bytes ss) (sym e))

  pub renewed_slot : (s line : ℕ) (b : List ℕ) → has order.slots s ≡ true → (tag_at tags s).line ≡ line → entries_of tags (set bytes s b) order.slots ≡ renewed (entries_of tags bytes order.slots) line b
  renewed_slot s line b h at = renewed_at tags bytes order.slots s line b stored.tagged.distinct h (bytes_within s h) at (only_slot s line h at)

  pub none_renewed : (line : ℕ) (b : List ℕ) → IsSlotOf order.slots tags line None → entries_of tags bytes order.slots ≡ renewed (entries_of tags bytes order.slots) line b
  none_renewed line b none = sym (renewed_absent (entries_of tags bytes order.slots) line b (slot_none tags bytes order.slots line none))

  full_test : ways ≤ length order.slots → nat_lt (length (entries_of tags bytes order.slots)) ways ≡ false
  full_test full = rw length-map (le-ltb (length order.slots) ways full)

  victim_of_full : ways ≤ length order.slots → dirty_victim (record { ways = ways; lines = entries_of tags bytes order.slots }) ≡ if_dirty (last_of (entries_of tags bytes order.slots))
  victim_of_full full = ap (λ b. if b then None else if_dirty (last_of (entries_of tags bytes order.slots))) (full_test full)

  victim_is : (s : ℕ) → ways ≤ length order.slots → last_of order.slots ≡ Some s → dirty_victim (record { ways = ways; lines = entries_of tags bytes order.slots }) ≡ if_dirty (Some (entry_at tags bytes s))
  victim_is s full is = victim_of_full full ∙ ap if_dirty (last_of-map (entry_at tags bytes) order.slots ∙ ap (option_map (entry_at tags bytes)) is)

  pub victim_dirty : (s : ℕ) → ways ≤ length order.slots → last_of order.slots ≡ Some s → (tag_at tags s).dirty ≡ true → dirty_victim (record { ways = ways; lines = entries_of tags bytes order.slots }) ≡ Some (entry_at tags bytes s)
  victim_dirty s full is t = victim_is s full is ∙ ap (λ b. if b then Some (entry_at tags bytes s) else None) t

  pub victim_clean : (s : ℕ) → ways ≤ length order.slots → last_of order.slots ≡ Some s → (tag_at tags s).dirty ≡ false → dirty_victim (record { ways = ways; lines = entries_of tags bytes order.slots }) ≡ None
  victim_clean s full is f = victim_is s full is ∙ ap (λ b. if b then Some (entry_at tags bytes s) else None) f

  pub victim_empty : last_of order.slots ≡ None → dirty_victim (record { ways = ways; lines = entries_of tags bytes order.slots }) ≡ None
  victim_empty is =
      let none : last_of (entries_of tags bytes order.slots) ≡ None = last_of-map (entry_at tags bytes) order.slots ∙ ap (option_map (entry_at tags bytes)) is in
      either (nat_lt (length (entries_of tags bytes order.slots)) ways) none
    where
      either : (b : Bool) → last_of (entries_of tags bytes order.slots) ≡ None → (if b then None else if_dirty (last_of (entries_of tags bytes order.slots))) ≡ None
      either true none = refl
      either false none = ap if_dirty none

  pub none_cleaned : last_of order.slots ≡ None → clean_last (entries_of tags bytes order.slots) ≡ entries_of tags bytes order.slots
  none_cleaned is = empty order.slots is
    where
      empty : (ss : List ℕ) → last_of ss ≡ None → clean_last (entries_of tags bytes ss) ≡ entries_of tags bytes ss
      empty [] is = refl
      empty (y ∷ ss) is = let n : length (y ∷ ss) ≡ 0 = last_none_empty (y ∷ ss) is in absurd (omega arith)

  pub first_entry : (s : ℕ) → slice_get order.slots 0 ≡ Some s → slice_get (entries_of tags bytes order.slots) 0 ≡ Some (entry_at tags bytes s)
  first_entry s is = here order.slots is
    where
      here : (ss : List ℕ) → slice_get ss 0 ≡ Some s → slice_get (entries_of tags bytes ss) 0 ≡ Some (entry_at tags bytes s)
      here [] is = absurd (let k = is in cc)
      here (y ∷ ss) is = let same : y ≡ s = cc in ap (λ x. Some (entry_at tags bytes x)) same

pub entries_count : (tags : List Tag) (bytes : List (List ℕ)) (ss : List ℕ) → length (entries_of tags bytes ss) ≡ length ss
entries_count tags bytes ss = length-map ss (entry_at tags bytes)

-- what is in use after a slot was dropped was in use before
has_dropped : (ss : List ℕ) (s x : ℕ) → IsDistinct ss → has (removed ss s) x ≡ true → has ss x ≡ true
has_dropped ss s x d h = sym (has-removed_other ss s x (λ e. not_both (has (removed ss s) s) (ap (has (removed ss s)) e ∙ h) (has-removed ss s d))) ∙ h

last_of-cons : (x e : Entry) (es : List Entry) → last_of es ≡ Some e → last_of (x ∷ es) ≡ Some e
last_of-cons x e [] is = absurd (let k = is in cc)
last_of-cons x e (y ∷ es) is = is

-- the last entry of another line stays the last
last_without : (es : List Entry) (e : Entry) (line : ℕ) → last_of es ≡ Some e → e.line ≢ line → last_of (without es line) ≡ Some e
last_without [] e line is ne = absurd (let k = is in cc)
last_without (x ∷ []) e line is ne = let same : x ≡ e = cc in let other : x.line ≢ line = λ y. ne (sym (ap (λ z. z.line) same) ∙ y) in rw (ne_eqb x.line line other) is
last_without (x ∷ y ∷ es) e line is ne =
    by_eq x.line line (λ h. rw (eq-eqb x.line line h) is)
    (λ apart. rw (ne_eqb x.line line apart) (last_of-cons x e (without (y ∷ es) line) (last_without (y ∷ es) e line is ne)))

-- without the last slot the next more recent one is the last
last_but_last : (ss : List ℕ) (s : ℕ) → IsDistinct ss → last_of ss ≡ Some s → last_of (but_last ss) ≡ more_recent ss s
last_but_last [] s d is = absurd (let k = is in cc)
last_but_last (y ∷ []) s d is = refl
last_but_last (y ∷ z ∷ []) s d is = let same : z ≡ s = cc in rw (eq-eqb z s same) refl
last_but_last (y ∷ z ∷ w ∷ ss) s d is =
    let other : z ≢ s = λ e. not_both (has (w ∷ ss) z) (ap (has (w ∷ ss)) e ∙ last_has (w ∷ ss) s is) d.1.0 in
    rw (ne_eqb z s other) (last_but_last (z ∷ w ∷ ss) s d.1 is)

module _ {ways : ℕ} {order : Used} {tags : List Tag} {bytes : List (List ℕ)} (stored : IsStored ways order tags bytes) where
  pub stored_dropped : (s : ℕ) → IsStored ways (record { ways = order.ways; slots = removed order.slots s }) tags bytes
  stored_dropped s = record {
    some = stored.some;
    ways_are = stored.ways_are;
    tagged = record {
      len = stored.tagged.len;
      distinct = distinct-removed order.slots s stored.tagged.distinct;
      below = below-removed order.slots s order.ways stored.tagged.below;
      unique = λ x y hx hy same. stored.tagged.unique x y (has_dropped order.slots s x stored.tagged.distinct hx) (has_dropped order.slots s y stored.tagged.distinct hy) same;
    };
    full = stored.full;
  }

  pub none_left : (s line : ℕ) → has order.slots s ≡ true → (tag_at tags s).line ≡ line → entry_of (entries_of tags bytes (removed order.slots s)) line ≡ None
  none_left s line h at = slot_none tags bytes (removed order.slots s) line (λ x k is.
      not_both (has (removed order.slots s) s) (ap (has (removed order.slots s)) (sym (only_slot stored s line h at x (has_dropped order.slots s x stored.tagged.distinct k) is)) ∙ k) (has-removed order.slots s stored.tagged.distinct))

  pub found_without : (s line : ℕ) → has order.slots s ≡ true → (tag_at tags s).line ≡ line → entries_of tags bytes (removed order.slots s) ≡ without (entries_of tags bytes order.slots) line
  found_without s line h at = sym (slot_entry tags bytes order.slots s line stored.tagged.distinct h at (only_slot stored s line h at)).1

  pub none_without : (line : ℕ) → IsSlotOf order.slots tags line None → entries_of tags bytes order.slots ≡ without (entries_of tags bytes order.slots) line
  none_without line none = sym (without_absent (entries_of tags bytes order.slots) line (slot_none tags bytes order.slots line none))

  pub oldest_none : (line : ℕ) → last_of order.slots ≡ None → last_of (without (entries_of tags bytes order.slots) line) ≡ None
  oldest_none line is = empty order.slots is
    where
      empty : (ss : List ℕ) → last_of ss ≡ None → last_of (without (entries_of tags bytes ss) line) ≡ None
      empty [] is = refl
      empty (y ∷ ss) is = let n : length (y ∷ ss) ≡ 0 = last_none_empty (y ∷ ss) is in absurd (omega arith)

  pub oldest_is_last : (s line : ℕ) → last_of order.slots ≡ Some s → (tag_at tags s).line ≢ line → last_of (without (entries_of tags bytes order.slots) line) ≡ Some (entry_at tags bytes s)
  oldest_is_last s line is ne =
      last_without (entries_of tags bytes order.slots) (entry_at tags bytes s) line (last_of-map (entry_at tags bytes) order.slots ∙ ap (option_map (entry_at tags bytes)) is) ne

  pub oldest_is_next : (s line : ℕ) → last_of order.slots ≡ Some s → (tag_at tags s).line ≡ line → last_of (without (entries_of tags bytes order.slots) line) ≡ option_map (entry_at tags bytes) (more_recent order.slots s)
  oldest_is_next s line is at =
      ap last_of (sym (found_without s line (last_has order.slots s is) at) ∙ ap (entries_of tags bytes) (removed_last order.slots s stored.tagged.distinct is))
      ∙ last_of-map (entry_at tags bytes) (but_last order.slots) ∙ ap (option_map (entry_at tags bytes)) (last_but_last order.slots s stored.tagged.distinct is)

-- a line is put into a slot
module _ {ways : ℕ} {order : Used} {tags : List Tag} {bytes : List (List ℕ)} (stored : IsStored ways order tags bytes) (s line : ℕ) (b : List ℕ) (dirty : Bool) (inside : s < ways) where
  abbrev filled : List Tag
  filled = set tags s (record { line = line; dirty = dirty })

  filled_tag : (x : ℕ) → x ≢ s → tag_at filled x ≡ tag_at tags x
  filled_tag x ne = get_or-set_other tags s x (record { line = line; dirty = dirty }) (record { line = 0; dirty = false }) ne

  filled_here : tag_at filled s ≡ record { line = line; dirty = dirty }
  filled_here = let n = stored.tagged.len in let w = stored.ways_are in get_or-set_same tags s (record { line = line; dirty = dirty }) (record { line = 0; dirty = false }) (omega arith)

  pub stored_filled : entry_of (entries_of tags bytes order.slots) line ≡ None → IsStored ways (after_use order s) (set tags s (record { line = line; dirty = dirty })) (set bytes s b)
  stored_filled none =
      let w = stored.ways_are in
      record {
        some = stored.some;
        ways_are = w;
        tagged = record {
          len = rw length-set stored.tagged.len;
          distinct = (has-removed order.slots s stored.tagged.distinct, distinct-removed order.slots s stored.tagged.distinct);
          below = (omega arith, below-removed order.slots s order.ways stored.tagged.below);
          unique = λ x y hx hy same. by_eq x s
              (λ ex. by_eq y s (λ ey. ex ∙ sym ey)
              (λ ney. absurd (none_slot tags bytes order.slots line none y (has_used order.slots s y hy ney)
              (sym (ap (λ (t : Tag). t.line) (filled_tag y ney)) ∙ sym same ∙ ap (λ z. (tag_at filled z).line) ex ∙ ap (λ (t : Tag). t.line) filled_here))))
              (λ nex. by_eq y s
              (λ ey. absurd (none_slot tags bytes order.slots line none x (has_used order.slots s x hx nex)
              (sym (ap (λ (t : Tag). t.line) (filled_tag x nex)) ∙ same ∙ ap (λ z. (tag_at filled z).line) ey ∙ ap (λ (t : Tag). t.line) filled_here)))
              (λ ney. stored.tagged.unique x y (has_used order.slots s x hx nex) (has_used order.slots s y hy ney)
              (sym (ap (λ (t : Tag). t.line) (filled_tag x nex)) ∙ same ∙ ap (λ (t : Tag). t.line) (filled_tag y ney))));
        };
        full = rw length-set stored.full;
      }

  pub filled_is : removed order.slots s ≡ (if nat_lt (length order.slots) ways then order.slots else but_last order.slots)
      → entries_of (set tags s (record { line = line; dirty = dirty })) (set bytes s b) (s ∷ removed order.slots s) ≡ put_in (record { ways = ways; lines = entries_of tags bytes order.slots }) (record { line = line; bytes = b; dirty = dirty })
  filled_is others =
      let n = stored.tagged.len in let w = stored.ways_are in let m = stored.full in
      let out : has (removed order.slots s) s ≡ false = has-removed order.slots s stored.tagged.distinct in
      let front : entry_at filled (set bytes s b) s ≡ record { line = line; bytes = b; dirty = dirty } = entry_both tags bytes s (record { line = line; dirty = dirty }) b (omega arith) (omega arith) in
      let rest : entries_of filled (set bytes s b) (removed order.slots s) ≡ entries_of tags bytes (removed order.slots s)
      = entries_same tags filled bytes (set bytes s b) (removed order.slots s) (λ x k. entry_both_other tags bytes s x (record { line = line; dirty = dirty }) b (has_apart (removed order.slots s) x s k out)) in
      ap (λ z. z ∷ entries_of filled (set bytes s b) (removed order.slots s)) front
      ∙ ap (λ l. record { line = line; bytes = b; dirty = dirty } ∷ l) (rest ∙ ap (entries_of tags bytes) others ∙ kept (nat_lt (length order.slots) ways) refl)
    where
      kept : (r : Bool) → nat_lt (length order.slots) ways ≡ r → entries_of tags bytes (if r then order.slots else but_last order.slots)
          ≡ (if nat_lt (length (entries_of tags bytes order.slots)) ways then entries_of tags bytes order.slots else but_last (entries_of tags bytes order.slots))
      kept true t = rw (length-map, t) refl
      kept false t = rw (length-map, t) (sym (but_last-map (entry_at tags bytes) order.slots))
