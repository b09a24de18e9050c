-- Sets that keep no dirty line show the lines below.
use Rattle.std.proofs.Common.{◌≡◌, ◌%◌, ℕ, zero, suc, false, List, [], ◌∷◌, Option, Some, None, length, refl, sym, ap, ◌∙◌, arith, if◌then◌else◌}
use Rattle.std.proofs.lemmas.Bool.Decides.{nat_tests}
use Rattle.std.specs.List.{slice_get}
use Rattle.std.specs.Option.{option_map}
use Rattle.recency.specs.declared.entry.Entry.{Entry}
use Rattle.recency.specs.Kept.{Kept, entry_of, last_dirty, last_dirty_from}
use Rattle.recency.specs.Levels.{set_at, kept_of, bytes_or, overlay, IsSound}
use Rattle.recency.specs.Steps.{next_dirty, next_dirty_or}
use Rattle.recency.proofs.ListLemmas.{same_lists}
use Rattle.recency.proofs.EntryLemmas.{entry_of-is, good_entry}
use Rattle.recency.proofs.LevelLemmas.{slice_get-overlay}

-- where no dirty entry is found, none was given, and what is kept is clean
none_given : (es : List Entry) (found : Option Entry) → last_dirty_from found es ≡ None → found ≡ None
none_given [] found none = none
none_given (e ∷ es) found none = grind (arith, nat_tests, none_given es (Some e), none_given es found)

kept_clean : (es : List Entry) (found : Option Entry) (line : ℕ) (e : Entry) → last_dirty_from found es ≡ None → entry_of es line ≡ Some e → e.dirty ≡ false
kept_clean [] found line e none is = absurd (let k = is in cc)
kept_clean (f ∷ es) found line e none is = grind (arith, nat_tests, none_given es (if f.dirty then Some f else found) none, kept_clean es (if f.dirty then Some f else found) line e none)

-- no set keeps a dirty line, where none is found
none_found : (sets : List Kept) (found : Option Entry) → next_dirty_or found sets ≡ None → found ≡ None
none_found [] None none = refl
none_found [] (Some e) none = none
none_found (k ∷ ks) None none = refl
none_found (k ∷ ks) (Some e) none = none

no_dirty : (sets : List Kept) (i : ℕ) → next_dirty sets ≡ None → last_dirty (set_at sets i).lines ≡ None
no_dirty [] i none = refl
no_dirty (k ∷ ks) zero none = none_found ks (last_dirty k.lines) none
no_dirty (k ∷ ks) (suc i) none = no_dirty ks i (sym (ap (λ found. next_dirty_or found ks) (none_found ks (last_dirty k.lines) none)) ∙ none)

-- sets that keep no dirty line show the lines below
pub overlay_clean : (lines : List (List ℕ)) (sets : List Kept) → IsSound lines sets → next_dirty sets ≡ None → overlay lines sets ≡ lines
overlay_clean lines sets sound none = same_lists _ _ (λ line. slice_get-overlay lines sets line ∙ same line (kept_of sets line) refl)
  where
    same : (line : ℕ) (kept : Option Entry) → kept_of sets line ≡ kept → option_map (bytes_or kept) (slice_get lines line) ≡ slice_get lines line
    same line None is = elim (slice_get lines line) as (λ found. option_map (bytes_or None) found ≡ found) [ None ↦ refl | Some bytes ↦ refl ]
    same line (Some e) is =
        let i = line % length sets in
        let clean : e.dirty ≡ false = kept_clean (set_at sets i).lines None line e (no_dirty sets i none) is in
        let below : slice_get lines line ≡ Some e.bytes =
        ap (slice_get lines) (sym (entry_of-is (set_at sets i).lines line e is)) ∙ (good_entry lines (length sets) i (set_at sets i).lines line e (sound.good i) is).clean clean in
        rw below refl
