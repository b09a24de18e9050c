-- What a step does to the lines of a set is the same but for the dirty marks.
use Rattle.std.proofs.Common.{◌≡◌, ◌%◌, ℕ, zero, suc, List, [], ◌∷◌, Option, Some, None, length, set, refl, sym, ap, ◌∙◌}
use Rattle.std.specs.Option.{option_map}
use Rattle.std.proofs.lemmas.Bool.{eq-eqb, ne_eqb}
use Rattle.recency.specs.declared.entry.Entry.{Entry}
use Rattle.recency.specs.Uses.{last_of}
use Rattle.recency.specs.Kept.{Kept, with_lines, entry_of, without, touched, touched_by, cleaned, clean_in}
use Rattle.recency.specs.Levels.{set_at, set_of, with_set}
use Rattle.recency.specs.Marks.{undirtied, undirtied_set, undirtied_sets}
use Rattle.recency.specs.Steps.{with_clean}
use Rattle.recency.proofs.UseLemmas.{by_eq}
use Rattle.recency.proofs.EntryLemmas.{at_front, past_front}

-- what is kept of a line
pub entry_of-undirtied : (es : List Entry) (line : ℕ) → entry_of (undirtied es) line ≡ option_map cleaned (entry_of es line)
entry_of-undirtied [] line = refl
entry_of-undirtied (e ∷ es) line =
    by_eq e.line line
    (λ y. at_front (cleaned e) (undirtied es) line y ∙ sym (ap (option_map cleaned) (at_front e es line y)))
    (λ apart. past_front (cleaned e) (undirtied es) line apart ∙ entry_of-undirtied es line ∙ sym (ap (option_map cleaned) (past_front e es line apart)))

-- the others
pub undirtied-without : (es : List Entry) (line : ℕ) → undirtied (without es line) ≡ without (undirtied es) line
undirtied-without [] line = refl
undirtied-without (e ∷ es) line =
    by_eq e.line line
    (λ y. rw (eq-eqb e.line line y) refl)
    (λ apart. rw (ne_eqb e.line line apart) (ap (λ l. cleaned e ∷ l) (undirtied-without es line)))

-- a line that becomes the most recent
pub undirtied-touched : (es : List Entry) (line : ℕ) → undirtied (touched es line) ≡ touched (undirtied es) line
undirtied-touched es line = by_entry (entry_of es line) ∙ sym (ap (λ o. touched_by o (undirtied es) line) (entry_of-undirtied es line))
  where
    by_entry : (o : Option Entry) → undirtied (touched_by o es line) ≡ touched_by (option_map cleaned o) (undirtied es) line
    by_entry None = refl
    by_entry (Some e) = ap (λ l. cleaned e ∷ l) (undirtied-without es line)

-- a line that is made clean
pub undirtied-clean_in : (es : List Entry) (line : ℕ) → undirtied (clean_in es line) ≡ undirtied es
undirtied-clean_in [] line = refl
undirtied-clean_in (e ∷ es) line =
    by_eq e.line line
    (λ y. rw (eq-eqb e.line line y) (ap (λ l. cleaned e ∷ l) (undirtied-clean_in es line)))
    (λ apart. rw (ne_eqb e.line line apart) (ap (λ l. cleaned e ∷ l) (undirtied-clean_in es line)))

-- how many there are, and the last of them
pub length-undirtied : (es : List Entry) → length (undirtied es) ≡ length es
length-undirtied [] = refl
length-undirtied (e ∷ es) = ap suc (length-undirtied es)

pub last_of-undirtied : (es : List Entry) → last_of (undirtied es) ≡ option_map cleaned (last_of es)
last_of-undirtied [] = refl
last_of-undirtied (e ∷ []) = refl
last_of-undirtied (e ∷ f ∷ es) = last_of-undirtied (f ∷ es)

-- one set among the others
pub length-undirtied_sets : (sets : List Kept) → length (undirtied_sets sets) ≡ length sets
length-undirtied_sets [] = refl
length-undirtied_sets (k ∷ ks) = ap suc (length-undirtied_sets ks)

pub set_at-undirtied : (sets : List Kept) (i : ℕ) → set_at (undirtied_sets sets) i ≡ undirtied_set (set_at sets i)
set_at-undirtied [] i = refl
set_at-undirtied (k ∷ ks) zero = refl
set_at-undirtied (k ∷ ks) (suc i) = set_at-undirtied ks i

pub undirtied-set : (sets : List Kept) (i : ℕ) (k : Kept) → undirtied_sets (set sets i k) ≡ set (undirtied_sets sets) i (undirtied_set k)
undirtied-set [] i k = refl
undirtied-set (x ∷ xs) zero k = refl
undirtied-set (x ∷ xs) (suc i) k = ap (λ l. undirtied_set x ∷ l) (undirtied-set xs i k)

pub set_of-undirtied : (sets : List Kept) (line : ℕ) → set_of (undirtied_sets sets) line ≡ undirtied_set (set_of sets line)
set_of-undirtied sets line = ap (λ n. set_at (undirtied_sets sets) (line % n)) (length-undirtied_sets sets) ∙ set_at-undirtied sets (line % length sets)

pub undirtied-with_set : (sets : List Kept) (line : ℕ) (lines : List Entry) → undirtied_sets (with_set sets line lines) ≡ with_set (undirtied_sets sets) line (undirtied lines)
undirtied-with_set sets line lines =
    undirtied-set sets (line % length sets) (with_lines (set_of sets line) lines)
    ∙ ap (λ n. set (undirtied_sets sets) (line % n) (with_lines (set_of sets line) (undirtied lines))) (sym (length-undirtied_sets sets))
    ∙ ap (λ (k : Kept). set (undirtied_sets sets) (line % length (undirtied_sets sets)) (with_lines k (undirtied lines))) (sym (set_of-undirtied sets line))

-- a set that is put where it stands
set_stays : (ks : List Kept) (i : ℕ) → set ks i (set_at ks i) ≡ ks
set_stays [] i = refl
set_stays (k ∷ ks) zero = refl
set_stays (k ∷ ks) (suc i) = ap (λ l. k ∷ l) (set_stays ks i)

-- a line that is made clean changes nothing but its mark
pub undirtied-with_clean : (sets : List Kept) (line : ℕ) → undirtied_sets (with_clean sets line) ≡ undirtied_sets sets
undirtied-with_clean sets line =
    undirtied-set sets (line % length sets) (with_lines (set_of sets line) (clean_in (set_of sets line).lines line))
    ∙ ap (λ l. set (undirtied_sets sets) (line % length sets) (with_lines (set_of sets line) l)) (undirtied-clean_in (set_of sets line).lines line)
    ∙ ap (λ (k : Kept). set (undirtied_sets sets) (line % length sets) k) (sym (set_at-undirtied sets (line % length sets)))
    ∙ set_stays (undirtied_sets sets) (line % length sets)
