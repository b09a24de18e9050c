-- The steps of a touch, over all sets.
use Rattle.std.proofs.Common.{◌≡◌, ◌<◌, ◌%◌, ℕ, true, false, List, [], ◌∷◌, Option, Some, None, Ok, Err, length, length-set, set, refl, sym, ap, ◌∙◌, subst, nat_lt, eqb, if◌then◌else◌}
use Rattle.std.specs.List.{slice_get}
use Rattle.std.specs.Option.{is_some, option_eq}
use Rattle.std.proofs.lemmas.Bool.{eq-eqb, eqb-true}
use Rattle.hier_types.specs.declared.counts.L1Counts.{L1Counts}
use Rattle.hier_types.specs.declared.faults.NoSpace.{NoSpace}
use Rattle.hier_types.specs.Calls.{Answer, Call, Read, Write}
use Rattle.hier_types.specs.Causes.{raised}
use Rattle.hier_types.proofs.LineLemmas.{lines-set, line_of_lines}
use Rattle.hier_types.specs.PortCalls.{IsHeld}
use Rattle.hier_types.specs.Span.{Span}
use Rattle.recency.specs.declared.entry.Entry.{Entry}
use Rattle.recency.specs.Uses.{last_of}
use Rattle.recency.specs.Kept.{Kept, with_lines, has_room, entry_of, touched, touched_by, clean_last, put_in, dirty_victim, if_dirty, clean_entry}
use Rattle.recency.specs.Levels.{set_at, set_of, with_set, kept_of, overlay, IsGoodEntry, IsSound, IsFirst}
use Rattle.recency.specs.Steps.{with_clean}
use Rattle.recency.proofs.FlushLemmas.{back_sound, clean_keeps_first}
use Rattle.recency.proofs.ListLemmas.{slice_get-set_other, set-set}
use Rattle.recency.proofs.EntryLemmas.{at_front, entry_of-is, good_entry, last_entry, good_clean_last, good_elsewhere, entry_of-clean_none, last_of-clean_last}
use Rattle.recency.proofs.LevelLemmas.{set_at-same, sound_step, overlay_step, kept_some, touch_sound, shown_clean_last, shown_put_in, good_put_in, room_cases, unchanged, in_range}
use Rattle.l1_cache.specs.FirstLevel.{IsFirstLevel}
use Rattle.l1_cache.specs.Touches.{Brings, Misses, TouchesSet, CountedStep}

-- no other line is held
pub only_held : {sets : List Kept} (held : Option ℕ) (line : ℕ) → IsHeld held line → IsFirst sets line → (l : ℕ) → IsHeld held l → IsFirst sets l
only_held {sets} held line is first l other = let k : Some line ≡ Some l = sym is ∙ other in let same : line ≡ l = cc in subst (IsFirst sets) same first

-- the most recent line is touched again
pub touched_first : (sets : List Kept) (line : ℕ) → line % length sets < length sets → IsFirst sets line → sets ≡ with_set sets line (touched (set_of sets line).lines line)
touched_first sets line inside first =
    unchanged sets line inside ∙ ap (with_set sets line) (sym (again (set_of sets line).lines first.first first.here first.line_is))
  where
    again : (es : List Entry) (e : Entry) → slice_get es 0 ≡ Some e → e.line ≡ line → touched es line ≡ es
    again [] e is at = refl
    again (f ∷ es) e is at =
        let same : f ≡ e = cc in
        let here : f.line ≡ line = ap (λ z. z.line) same ∙ at in
        rw (at_front f es line here) (without_front f es here)
      where
        without_front : (f : Entry) (es : List Entry) → f.line ≡ line → touched_by (Some f) (f ∷ es) line ≡ f ∷ es
        without_front f es h = rw (eq-eqb f.line line h) refl

pub first_kept : (sets : List Kept) (line : ℕ) → IsFirst sets line → is_some (kept_of sets line) ≡ true
first_kept sets line first = kept (set_of sets line).lines first.first first.here first.line_is
  where
    kept : (es : List Entry) (e : Entry) → slice_get es 0 ≡ Some e → e.line ≡ line → is_some (entry_of es line) ≡ true
    kept [] e is at = absurd (let k = is in cc)
    kept (f ∷ es) e is at = let same : f ≡ e = cc in ap is_some (at_front f es line (ap (λ z. z.line) same ∙ at))

-- a touch that finds nothing changes nothing
pub touched_none : (sets : List Kept) (line : ℕ) → line % length sets < length sets → is_some (kept_of sets line) ≡ false → with_set sets line (touched (set_of sets line).lines line) ≡ sets
touched_none sets line inside none = ap (with_set sets line) (same (kept_of sets line) none) ∙ sym (unchanged sets line inside)
  where
    same : (kept : Option Entry) → is_some kept ≡ false → touched_by kept (set_of sets line).lines line ≡ (set_of sets line).lines
    same None is = refl
    same (Some e) is = absurd (let k = is in cc)

touched_front : (es : List Entry) (line : ℕ) (e : Entry) → entry_of es line ≡ Some e → slice_get (touched es line) 0 ≡ Some e
touched_front es line e is = rw is refl

-- a touch that finds its line
pub touch_hit : (sets : List Kept) (counts : L1Counts) (line : ℕ) → is_some (kept_of sets line) ≡ true
    → CountedStep TouchesSet sets counts line (Ok tt) (with_set sets line (touched (set_of sets line).lines line)) (record { hits = raised counts.hits; misses = counts.misses; write_backs = counts.write_backs }) []
touch_hit sets counts line kept =
    let e = kept_some (kept_of sets line) kept in
    record { change = record { after = touched (set_of sets line).lines line; step = rw e.1 (refl, refl, refl); only = refl }; counts_are = refl }

module _ (lines : List (List ℕ)) (sets : List Kept) (line : ℕ) (sound : IsSound lines sets) where
  range : line % length sets < length sets
  range = in_range lines sets line sound

  pub touch_first : is_some (kept_of sets line) ≡ true → IsFirst (with_set sets line (touched (set_of sets line).lines line)) line
  touch_first kept =
      let e = kept_some (kept_of sets line) kept in
      record {
        first = e.0;
        here = rw (length-set, set_at-same sets (line % length sets) (with_lines (set_of sets line) (touched (set_of sets line).lines line)) range) (touched_front (set_of sets line).lines line e.0 e.1);
        line_is = entry_of-is (set_of sets line).lines line e.0 e.1;
      }

  pub victim_last : (e : Entry) → dirty_victim (set_of sets line) ≡ Some e → last_of (set_of sets line).lines ≡ Some e
  victim_last e is =
      room_cases (has_room (set_of sets line)) _
      (λ t. (let none : None ≡ Some e = sym (ap (λ b. if b then None else if_dirty (last_of (set_of sets line).lines)) t) ∙ is in absurd (let k = none in cc)))
      (λ f. dirty (last_of (set_of sets line).lines) (sym (ap (λ b. if b then None else if_dirty (last_of (set_of sets line).lines)) f) ∙ is))
    where
      dirty : (last : Option Entry) → if_dirty last ≡ Some e → last ≡ Some e
      dirty None is = absurd (let k = is in cc)
      dirty (Some f) is = room_cases f.dirty _
          (λ t. sym (ap (λ b. if b then Some f else None) t) ∙ is)
          (λ f2. (let none : None ≡ Some e = sym (ap (λ b. if b then Some f else None) f2) ∙ is in absurd (let k = none in cc)))

  pub victim_good : (e : Entry) → dirty_victim (set_of sets line) ≡ Some e → IsGoodEntry lines (length sets) (line % length sets) e
  victim_good e is =
      let good = sound.good (line % length sets) in
      good_entry lines (length sets) (line % length sets) (set_of sets line).lines e.line e good
      (last_entry lines (length sets) (line % length sets) (set_of sets line).lines e good (victim_last e is))

  pub clean_sound : (e : Entry) → dirty_victim (set_of sets line) ≡ Some e → IsSound (set lines e.line e.bytes) (with_set sets line (clean_last (set_of sets line).lines))
  clean_sound e is =
      sound_step lines (set lines e.line e.bytes) sets (line % length sets) (with_lines (set_of sets line) (clean_last (set_of sets line).lines)) sound
      (lines-set lines e.line e.bytes sound.whole (victim_good e is).full) range (sound.ways (line % length sets) range)
      (λ j apart. good_elsewhere lines (length sets) j (set_at sets j).lines e.line e.bytes (λ y. apart (sym ((victim_good e is).home) ∙ y)) (sound.good j))
      (good_clean_last lines (length sets) (line % length sets) (set_of sets line).lines e (sound.good (line % length sets)) (victim_last e is))

  pub clean_same : (e : Entry) → dirty_victim (set_of sets line) ≡ Some e → overlay (set lines e.line e.bytes) (with_set sets line (clean_last (set_of sets line).lines)) ≡ overlay lines sets
  clean_same e is =
      overlay_step lines (set lines e.line e.bytes) sets (line % length sets) (with_lines (set_of sets line) (clean_last (set_of sets line).lines)) range
      (λ x at. shown_clean_last lines (length sets) (line % length sets) (set_of sets line).lines e (sound.good (line % length sets)) (victim_last e is) x)
      (λ x apart. slice_get-set_other lines e.line x e.bytes (λ y. apart (ap (λ z. z % length sets) (sym y) ∙ (victim_good e is).home)))

  pub put_sound : (bytes : List ℕ) → slice_get lines line ≡ Some bytes → kept_of sets line ≡ None → IsSound lines (with_set sets line (put_in (set_of sets line) (clean_entry line bytes)))
  put_sound bytes below none =
      sound_step lines lines sets (line % length sets) (with_lines (set_of sets line) (put_in (set_of sets line) (clean_entry line bytes))) sound sound.whole range (sound.ways (line % length sets) range)
      (λ j apart. sound.good j)
      (good_put_in lines (length sets) (line % length sets) (set_of sets line) line bytes (sound.good (line % length sets)) (line_of_lines lines line bytes sound.whole below) below refl none)

  pub put_same : (bytes : List ℕ) → slice_get lines line ≡ Some bytes → kept_of sets line ≡ None → dirty_victim (set_of sets line) ≡ None
      → overlay lines (with_set sets line (put_in (set_of sets line) (clean_entry line bytes))) ≡ overlay lines sets
  put_same bytes below none ready =
      overlay_step lines lines sets (line % length sets) (with_lines (set_of sets line) (put_in (set_of sets line) (clean_entry line bytes))) range
      (λ x at. shown_put_in lines (length sets) (line % length sets) (set_of sets line) line bytes (sound.ways (line % length sets) range) ready (sound.good (line % length sets)) below none x)
      (λ x apart. refl)

  pub put_first : (bytes : List ℕ) → IsFirst (with_set sets line (put_in (set_of sets line) (clean_entry line bytes))) line
  put_first bytes = record {
    first = clean_entry line bytes;
    here = rw (length-set, set_at-same sets (line % length sets) (with_lines (set_of sets line) (put_in (set_of sets line) (clean_entry line bytes))) range) refl;
    line_is = refl;
  }

-- a set that was made ready has nothing to write
cleaned_ready : (k : Kept) → dirty_victim (with_lines k (clean_last k.lines)) ≡ None
cleaned_ready k =
    room_cases (nat_lt (length (clean_last k.lines)) k.ways) _
    (λ t. ap (λ b. if b then None else if_dirty (last_of (clean_last k.lines))) t)
    (λ f. ap (λ b. if b then None else if_dirty (last_of (clean_last k.lines))) f ∙ nothing (last_of (clean_last k.lines)) refl)
  where
    nothing : (last : Option Entry) → last_of (clean_last k.lines) ≡ last → if_dirty (last_of (clean_last k.lines)) ≡ None
    nothing None is = ap if_dirty is
    nothing (Some e) is = ap if_dirty is ∙ ap (λ b. if b then Some e else None) (last_of-clean_last k.lines e is)

-- the write of the victim was refused
pub miss_refused : (sets : List Kept) (counts : L1Counts) (line : ℕ) (e : Entry) (n : NoSpace) → line % length sets < length sets
    → dirty_victim (set_of sets line) ≡ Some e → CountedStep Misses sets counts line (Err n) sets counts (Write e.line e.bytes (Err n) ∷ [])
miss_refused sets counts line e n inside is = record {
  change = record { after = (set_of sets line).lines; step = rw is (refl, refl, refl, refl); only = unchanged sets line inside };
  counts_are = refl;
}

-- it was answered, and the line is brought
pub miss_written : (sets : List Kept) (counts : L1Counts) (line : ℕ) (result : Answer) (new : List Kept) (now : L1Counts) (calls : List Call) (e : Entry) → line % length sets < length sets
    → dirty_victim (set_of sets line) ≡ Some e
    → CountedStep Brings (with_set sets line (clean_last (set_of sets line).lines)) (record { hits = counts.hits; misses = counts.misses; write_backs = raised counts.write_backs }) line result new now calls
    → CountedStep Misses sets counts line result new now (Write e.line e.bytes (Ok tt) ∷ calls)
miss_written sets counts line result new now calls e inside is s =
    let k : set_of (with_set sets line (clean_last (set_of sets line).lines)) line ≡ with_lines (set_of sets line) (clean_last (set_of sets line).lines)
    = rw length-set (set_at-same sets (line % length sets) (with_lines (set_of sets line) (clean_last (set_of sets line).lines)) inside) in
    record {
      change = record {
        after = s.change.after;
        step = rw is (refl, refl, subst (λ (set : Kept). Brings set line calls result s.change.after) k s.change.step);
        only = rw (length-set, set_at-same sets (line % length sets) (with_lines (set_of sets line) (clean_last (set_of sets line).lines)) inside, set-set) at s.change.only;
      };
      counts_are = s.counts_are;
    }

pub absent_cleaned : (sets : List Kept) (line : ℕ) → line % length sets < length sets → kept_of sets line ≡ None
    → kept_of (with_set sets line (clean_last (set_of sets line).lines)) line ≡ None
absent_cleaned sets line inside none = rw (length-set, set_at-same sets (line % length sets) (with_lines (set_of sets line) (clean_last (set_of sets line).lines)) inside) (entry_of-clean_none (set_of sets line).lines line none)

pub ready_cleaned : (sets : List Kept) (line : ℕ) → line % length sets < length sets → dirty_victim (set_of (with_set sets line (clean_last (set_of sets line).lines)) line) ≡ None
ready_cleaned sets line inside = rw (length-set, set_at-same sets (line % length sets) (with_lines (set_of sets line) (clean_last (set_of sets line).lines)) inside) (cleaned_ready (set_of sets line))

-- the whole level after a victim was written below, with nothing held
pub clean_level : {lines : List (List ℕ)} {sets : List Kept} {held : Option ℕ} {span : Span} (level : IsFirstLevel lines sets held span) (line : ℕ) (e : Entry) → dirty_victim (set_of sets line) ≡ Some e → held ≡ None
    → IsFirstLevel (set lines e.line e.bytes) (with_set sets line (clean_last (set_of sets line).lines)) held span
clean_level {lines} {sets} level line e is none = record {
  sound = clean_sound lines sets line level.sound e is;
  first = λ l is. (let k : None ≡ Some l = sym none ∙ is in absurd (let k2 = k in cc));
  size = rw length-set level.size;
}

-- and after a line was written by a flush
pub flush_level : {lines : List (List ℕ)} {sets : List Kept} {held : Option ℕ} {span : Span} (level : IsFirstLevel lines sets held span) (e : Entry) → kept_of sets e.line ≡ Some e
    → IsFirstLevel (set lines e.line e.bytes) (with_clean sets e.line) held span
flush_level {lines} {sets} {held} level e kept = record {
  sound = back_sound lines sets level.sound e kept;
  first = λ line is. clean_keeps_first sets e.line line (in_range lines sets e.line level.sound) (level.first line is);
  size = rw length-set level.size;
}

-- after a line was put in, and is held
pub put_level : {lines : List (List ℕ)} {sets : List Kept} {held : Option ℕ} {span : Span} (level : IsFirstLevel lines sets held span) (line : ℕ) (bytes : List ℕ) → slice_get lines line ≡ Some bytes → kept_of sets line ≡ None
    → IsFirstLevel lines (with_set sets line (put_in (set_of sets line) (clean_entry line bytes))) (Some line) span
put_level {lines} {sets} level line bytes below none = record {
  sound = put_sound lines sets line level.sound bytes below none;
  first = only_held (Some line) line refl (put_first lines sets line level.sound bytes);
  size = level.size;
}

-- after a kept line was touched, and is held
pub touch_level : {lines : List (List ℕ)} {sets : List Kept} {held : Option ℕ} {span : Span} (level : IsFirstLevel lines sets held span) (line : ℕ) → is_some (kept_of sets line) ≡ true
    → IsFirstLevel lines (with_set sets line (touched (set_of sets line).lines line)) (Some line) span
touch_level {lines} {sets} level line kept = record {
  sound = touch_sound lines sets line level.sound kept;
  first = only_held (Some line) line refl (touch_first lines sets line level.sound kept);
  size = level.size;
}

pub held_is : (held : Option ℕ) (line : ℕ) → option_eq eqb held (Some line) ≡ true → IsHeld held line
held_is None line is = absurd (let k = is in cc)
held_is (Some l) line is = ap Some (eqb-true l line is)

-- the held line is touched again
pub hit_again : {lines : List (List ℕ)} {sets : List Kept} {held : Option ℕ} {span : Span} (level : IsFirstLevel lines sets held span) (counts : L1Counts) (line : ℕ) → IsHeld held line
    → CountedStep TouchesSet sets counts line (Ok tt) sets (record { hits = raised counts.hits; misses = counts.misses; write_backs = counts.write_backs }) []
hit_again {lines} {sets} level counts line is =
    let first : IsFirst sets line = level.first line is in
    subst (λ new. CountedStep TouchesSet sets counts line (Ok tt) new (record { hits = raised counts.hits; misses = counts.misses; write_backs = counts.write_backs }) [])
    (sym (touched_first sets line (in_range lines sets line level.sound) first)) (touch_hit sets counts line (first_kept sets line first))

-- a line was read from below, or its read was refused
pub bring_refused : (sets : List Kept) (counts : L1Counts) (line : ℕ) (n : NoSpace) → line % length sets < length sets → CountedStep Brings sets counts line (Err n) sets counts (Read line (Err n) ∷ [])
bring_refused sets counts line n inside = record {
  change = record { after = (set_of sets line).lines; step = (refl, refl, refl); only = unchanged sets line inside };
  counts_are = refl;
}

pub bring_read : (sets : List Kept) (counts : L1Counts) (line : ℕ) (bytes : List ℕ)
    → CountedStep Brings sets counts line (Ok tt) (with_set sets line (put_in (set_of sets line) (clean_entry line bytes))) (record { hits = counts.hits; misses = raised counts.misses; write_backs = counts.write_backs }) (Read line (Ok bytes) ∷ [])
bring_read sets counts line bytes = record {
  change = record { after = put_in (set_of sets line) (clean_entry line bytes); step = (refl, refl); only = refl };
  counts_are = refl;
}
