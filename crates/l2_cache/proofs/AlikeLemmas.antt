-- Second levels that keep the same but for the dirty marks, over layers that have the same once the dirty lines are written.
use Rattle.std.proofs.Common.{◌≡◌, ◌≢◌, ◌<◌, ◌+◌, ◌%◌, ◌&&◌, ◌*◌, ℕ, Bool, true, false, List, [], ◌∷◌, ◌++◌, Option, Some, None, Result, Ok, Err, length, length-set, set, nat_lt, nat_le, refl, sym, ap, ◌∙◌, subst, arith, if◌then◌else◌}
use Rattle.std.specs.List.{slice_get}
use Rattle.std.specs.Option.{option_map, is_some, MatchOption}
use Rattle.std.specs.Prelude.{MatchResult}
use Rattle.std.proofs.lemmas.Bool.{ne_eqb}
use Rattle.hier_types.specs.declared.faults.NoSpace.{NoSpace}
use Rattle.hier_types.specs.Calls.{Answer, Call, Read, Write, Made}
use Rattle.line_codec.specs.Slots.{size_under}
use Rattle.recency.specs.declared.entry.Entry.{Entry}
use Rattle.recency.specs.Uses.{last_of}
use Rattle.recency.specs.Kept.{Kept, with_lines, entry_of, without, touched, cleaned, clean_entry, dirty_entry, last_dirty}
use Rattle.recency.specs.Levels.{set_at, set_of, with_set, kept_of}
use Rattle.recency.specs.Marks.{undirtied, undirtied_set, undirtied_sets}
use Rattle.recency.specs.Placed.{ArePlaced, IsPlaced}
use Rattle.recency.specs.Steps.{Changes, with_clean}
use Rattle.recency.proofs.UseLemmas.{by_eq}
use Rattle.recency.proofs.EntryLemmas.{entry_of-without_other}
use Rattle.recency.proofs.LevelLemmas.{set_at-same, room_cases}
use Rattle.recency.proofs.MarkLemmas.{entry_of-undirtied, undirtied-without, undirtied-touched, length-undirtied, last_of-undirtied, length-undirtied_sets, set_of-undirtied, undirtied-with_set, undirtied-with_clean}
use Rattle.recency.proofs.DueLemmas.{due, due_of, put_due, placed_gone, placed_without, placed_touched, placed_last, due_none, due_left_written, due_left_clean, due_front_clean, due_front_dirty, due_touched, placed_step, due_step, turn_placed, clean_placed, clean_due}
use Rattle.l2_cache.specs.declared.clean.Clean.{Clean}
use Rattle.l2_cache.specs.declared.clean.Clean.TheVariants.{Done, Nothing, PutOff}
use Rattle.l2_cache.specs.Room.{segments, segments_sum, has_space, leaver}
use Rattle.l2_cache.specs.SecondLevel.{SecondLevel}
use Rattle.l2_cache.specs.SecondCalls.{SecondRead, SecondWrite, SecondCleans}
use Rattle.l2_cache.specs.Turns.{Leave, written, MakesRoom, PutsInFront, in_front, ReadMisses, ReadsSecond, Cleans, read_counted, write_counted}
use Rattle.l2_cache.proofs.LeaveLemmas.{without_none}

-- a line that is kept of the one set is kept of the other
kept_of-undirtied : (sets : List Kept) (line : ℕ) → kept_of (undirtied_sets sets) line ≡ option_map cleaned (kept_of sets line)
kept_of-undirtied sets line = ap (λ (k : Kept). entry_of k.lines line) (set_of-undirtied sets line) ∙ entry_of-undirtied (set_of sets line).lines line

kept_both : (sets others : List Kept) (line : ℕ) → undirtied_sets sets ≡ undirtied_sets others → option_map cleaned (kept_of sets line) ≡ option_map cleaned (kept_of others line)
kept_both sets others line same = sym (kept_of-undirtied sets line) ∙ ap (λ l. kept_of l line) same ∙ kept_of-undirtied others line

is_some-map : (o : Option Entry) → is_some (option_map cleaned o) ≡ is_some o
is_some-map None = refl
is_some-map (Some e) = refl

pub hits_both : (sets others : List Kept) (line : ℕ) → undirtied_sets sets ≡ undirtied_sets others → is_some (kept_of sets line) ≡ is_some (kept_of others line)
hits_both sets others line same = sym (is_some-map (kept_of sets line)) ∙ ap is_some (kept_both sets others line same) ∙ is_some-map (kept_of others line)

module _ (size : List ℕ → ℕ) where
  -- the marks take no room
  sum-undirtied : (es : List Entry) → segments_sum size (undirtied es) ≡ segments_sum size es
  sum-undirtied [] = refl
  sum-undirtied (e ∷ es) = ap (λ n. segments size e.bytes + n) (sum-undirtied es)

  space-undirtied : (tags : ℕ) (bytes : List ℕ) (es : List Entry) → has_space size tags bytes (undirtied es) ≡ has_space size tags bytes es
  space-undirtied tags bytes es =
      ap (λ n. nat_lt n tags && nat_le (segments size bytes + segments_sum size (undirtied es)) (4 * tags)) (length-undirtied es)
      ∙ ap (λ n. nat_lt (length es) tags && nat_le (segments size bytes + n) (4 * tags)) (sum-undirtied es)

  if_map : (b : Bool) (o : Option Entry) → (if b then None else option_map cleaned o) ≡ option_map cleaned (if b then None else o)
  if_map true o = refl
  if_map false o = refl

  -- the next to leave is the same but for its mark
  leaver-undirtied : (set : Kept) (line : ℕ) (bytes : List ℕ) → leaver size (undirtied_set set) line bytes ≡ option_map cleaned (leaver size set line bytes)
  leaver-undirtied set line bytes =
      let others = without set.lines line in
      ap (λ l. if has_space size set.ways bytes l then None else last_of l) (sym (undirtied-without set.lines line))
      ∙ ap (λ b. if b then None else last_of (undirtied others)) (space-undirtied set.ways bytes others)
      ∙ ap (λ o. if has_space size set.ways bytes others then None else o) (last_of-undirtied others)
      ∙ if_map (has_space size set.ways bytes others) (last_of others)

  leaver_both : (set other : Kept) (line : ℕ) (bytes : List ℕ) → undirtied_set set ≡ undirtied_set other → option_map cleaned (leaver size set line bytes) ≡ option_map cleaned (leaver size other line bytes)
  leaver_both set other line bytes same = sym (leaver-undirtied set line bytes) ∙ ap (λ k. leaver size k line bytes) same ∙ leaver-undirtied other line bytes

  leaver_last : (set : Kept) (line : ℕ) (bytes : List ℕ) (e : Entry) → leaver size set line bytes ≡ Some e → last_of (without set.lines line) ≡ Some e
  leaver_last set line bytes e is =
      room_cases (has_space size set.ways bytes (without set.lines line)) _
      (λ t. (let none : None ≡ Some e = sym (ap (λ b. if b then None else last_of (without set.lines line)) t) ∙ is in absurd (let k = none in cc)))
      (λ f. sym (ap (λ b. if b then None else last_of (without set.lines line)) f) ∙ is)

  leaver_kept : (n i : ℕ) (set : Kept) (line : ℕ) (bytes : List ℕ) (e : Entry) → ArePlaced n i set.lines → leaver size set line bytes ≡ Some e → entry_of set.lines e.line ≡ Some e
  leaver_kept n i set line bytes e p is =
      let here : entry_of (without set.lines line) e.line ≡ Some e = placed_last n i (without set.lines line) e (placed_without n i set.lines line p) (leaver_last set line bytes e is) in
      by_eq e.line line
      (λ y. let k : Some e ≡ None = sym here ∙ ap (entry_of (without set.lines line)) y ∙ placed_gone n i set.lines line p in absurd (let k2 = k in cc))
      (λ apart. sym (entry_of-without_other set.lines line e.line apart) ∙ here)

  module _ (bytes : List ℕ) (line : ℕ) where
    -- those that leave two sets until there is room
    leave_both : (gone left : List Entry) (set other : Kept) (after rest : List Entry) → undirtied_set set ≡ undirtied_set other → Leave size bytes set line gone after → Leave size bytes other line left rest
        → leaver size (with_lines set after) line bytes ≡ None → leaver size (with_lines other rest) line bytes ≡ None → undirtied after ≡ undirtied rest
    leave_both [] [] set other after rest same h k none none' = ap undirtied h ∙ ap (λ (q : Kept). q.lines) same ∙ sym (ap undirtied k)
    leave_both [] (f ∷ left) set other after rest same h k none none' =
        let both = leaver_both set other line bytes same in
        let first : leaver size set line bytes ≡ None = subst (λ l. leaver size (with_lines set l) line bytes ≡ None) h none in
        let no : None ≡ Some (cleaned f) = sym (ap (option_map cleaned) first) ∙ both ∙ ap (option_map cleaned) k.0 in
        absurd (let q = no in cc)
    leave_both (e ∷ gone) [] set other after rest same h k none none' =
        let both = leaver_both set other line bytes same in
        let first : leaver size other line bytes ≡ None = subst (λ l. leaver size (with_lines other l) line bytes ≡ None) k none' in
        let no : None ≡ Some (cleaned e) = sym (ap (option_map cleaned) first) ∙ sym both ∙ ap (option_map cleaned) h.0 in
        absurd (let q = no in cc)
    leave_both (e ∷ gone) (f ∷ left) set other after rest same h k none none' =
        let both : Some (cleaned e) ≡ Some (cleaned f) = sym (ap (option_map cleaned) h.0) ∙ leaver_both set other line bytes same ∙ ap (option_map cleaned) k.0 in
        let one : cleaned e ≡ cleaned f = (let q = both in cc) in
        let at : e.line ≡ f.line = ap (λ (z : Entry). z.line) one in
        let next : undirtied_set (with_lines set (without set.lines e.line)) ≡ undirtied_set (with_lines other (without other.lines f.line)) =
        ap (with_lines set) (undirtied-without set.lines e.line) ∙ ap (λ (q : Kept). with_lines q (without q.lines e.line)) same
        ∙ ap (λ l. with_lines other (without (undirtied other.lines) l)) at ∙ sym (ap (with_lines other) (undirtied-without other.lines f.line)) in
        leave_both gone left (with_lines set (without set.lines e.line)) (with_lines other (without other.lines f.line)) after rest next h.1 k.1 none none'

    -- a line that is not kept is not kept after others leave
    leave_absent : (gone : List Entry) (set : Kept) (after : List Entry) (x : ℕ) → Leave size bytes set line gone after → entry_of set.lines x ≡ None → entry_of after x ≡ None
    leave_absent [] set after x leave none = ap (λ l. entry_of l x) leave ∙ none
    leave_absent (e ∷ gone) set after x leave none = leave_absent gone (with_lines set (without set.lines e.line)) after x leave.1 (without_none set.lines e.line x none)

  -- room is made in two sets
  room_both : (bytes : List ℕ) (sets others : List Kept) (line : ℕ) (new old : List Kept) (calls made : List Call) → undirtied_sets sets ≡ undirtied_sets others → Changes (MakesRoom size bytes) sets line (Ok tt) new calls
      → Changes (MakesRoom size bytes) others line (Ok tt) old made → undirtied_sets new ≡ undirtied_sets old
  room_both bytes sets others line new old calls made same h k =
      let set : undirtied_set (set_of sets line) ≡ undirtied_set (set_of others line) = sym (set_of-undirtied sets line) ∙ ap (λ l. set_of l line) same ∙ set_of-undirtied others line in
      let after : undirtied h.after ≡ undirtied k.after =
      leave_both bytes line h.step.gone k.step.gone (set_of sets line) (set_of others line) h.after k.after set h.step.leave k.step.leave h.step.end.0 k.step.end.0 in
      ap undirtied_sets h.only ∙ undirtied-with_set sets line h.after ∙ ap (λ l. with_set l line (undirtied h.after)) same ∙ ap (with_set (undirtied_sets others) line) after
      ∙ sym (ap undirtied_sets k.only ∙ undirtied-with_set others line k.after)

  front-undirtied : (sets : List Kept) (e : Entry) → undirtied_sets (in_front sets e) ≡ in_front (undirtied_sets sets) (cleaned e)
  front-undirtied sets e =
      undirtied-with_set sets e.line (e ∷ without (set_of sets e.line).lines e.line)
      ∙ ap (λ l. with_set (undirtied_sets sets) e.line (cleaned e ∷ l)) (undirtied-without (set_of sets e.line).lines e.line)
      ∙ ap (λ (k : Kept). with_set (undirtied_sets sets) e.line (cleaned e ∷ without k.lines e.line)) (sym (set_of-undirtied sets e.line))

  -- an entry is put in front of two
  puts_both : (sets others : List Kept) (e : Entry) (new old : List Kept) (calls made : List Call) → undirtied_sets sets ≡ undirtied_sets others → PutsInFront size sets e (Ok tt) new calls → PutsInFront size others e (Ok tt) old made
      → undirtied_sets new ≡ undirtied_sets old
  puts_both sets others e new old calls made same h k =
      ap undirtied_sets h.put ∙ front-undirtied h.mid e ∙ ap (λ l. in_front l (cleaned e)) (room_both e.bytes sets others e.line h.mid k.mid calls made same h.room k.room)
      ∙ sym (ap undirtied_sets k.put ∙ front-undirtied k.mid e)

-- the set of a line after it was changed
set_after : (sets : List Kept) (line : ℕ) (lines : List Entry) → line % length sets < length sets → set_of (with_set sets line lines) line ≡ with_lines (set_of sets line) lines
set_after sets line lines inside = rw (length-set, set_at-same sets (line % length sets) (with_lines (set_of sets line) lines) inside) refl

at_home : (sets : List Kept) (line : ℕ) → IsPlaced sets → line % length sets < length sets
at_home sets line p = let some = p.some in omega arith

-- A layer has lines: a read that is answered gives one, a write that is answered changes one, and one that is refused none.
pub record HasLines {B : Type 0} (did_read : B → ℕ → Result (List ℕ) NoSpace → B → Type 0) (did_write : B → ℕ → List ℕ → Answer → B → Type 0) (content : B → List (List ℕ)) : Type 0 where
  pub reads : (s : B) (line : ℕ) (bytes : List ℕ) (t : B) → did_read s line (Ok bytes) t → (slice_get (content s) line ≡ Some bytes) × (content t ≡ content s)
  pub writes : (s : B) (line : ℕ) (bytes : List ℕ) (t : B) → did_write s line bytes (Ok tt) t → content t ≡ set (content s) line bytes
  pub refuses : (s : B) (line : ℕ) (bytes : List ℕ) (refusal : NoSpace) (t : B) → did_write s line bytes (Err refusal) t → content t ≡ content s

-- Two second levels are alike: they keep the same lines in the same order, whatever their marks and cursors, and have
-- counted the same; and the layers below have the same lines once the dirty ones are written there.
pub record AreAlike {B : Type 0} (content : B → List (List ℕ)) (s u : SecondLevel B) : Type 0 where
  pub codec : s.codec ≡ u.codec
  pub counts : s.counts ≡ u.counts
  pub sets : undirtied_sets s.sets ≡ undirtied_sets u.sets
  pub dues : (x : ℕ) → due_of (content s.below) s.sets x ≡ due_of (content u.below) u.sets x
  pub first_placed : IsPlaced s.sets
  pub second_placed : IsPlaced u.sets

module _ {B : Type 0} (did_read : B → ℕ → Result (List ℕ) NoSpace → B → Type 0) (did_write : B → ℕ → List ℕ → Answer → B → Type 0) (content : B → List (List ℕ)) (has : HasLines did_read did_write content) where
  module _ (size : List ℕ → ℕ) where
    -- those that leave one set are written below where they are dirty
    leave_due : (bytes : List ℕ) (line n i : ℕ) (gone : List Entry) (set : Kept) (after : List Entry) (s t : B) → ArePlaced n i set.lines → Leave size bytes set line gone after → Made did_read did_write s (written gone) t
        → ArePlaced n i after × ((x : ℕ) → due (content t) after x ≡ due (content s) set.lines x)
    leave_due bytes line n i [] set after s t p leave made =
        (subst (ArePlaced n i) (sym leave) p, λ x. ap (λ l. due (content t) l x) leave ∙ ap (λ b. due (content b) set.lines x) made)
    leave_due bytes line n i (e ∷ gone) set after s t p leave made =
        let kept = leaver_kept size n i set line bytes e p leave.0 in
        let next = with_lines set (without set.lines e.line) in
        let fewer = placed_without n i set.lines e.line p in
        room_cases e.dirty _
        (λ d.
        let both : Made did_read did_write s (Write e.line e.bytes (Ok tt) ∷ written gone) t = subst (λ b. Made did_read did_write s (if b then Write e.line e.bytes (Ok tt) ∷ written gone else written gone) t) d made in
        let rest = leave_due bytes line n i gone next after both.0 t fewer leave.1 both.2 in
        (rest.0, λ x. rest.1 x ∙ ap (λ c. due c (without set.lines e.line) x) (has.writes s e.line e.bytes both.0 both.1) ∙ due_left_written n i (content s) set.lines e p kept d x))
        (λ d.
        let both : Made did_read did_write s (written gone) t = subst (λ b. Made did_read did_write s (if b then Write e.line e.bytes (Ok tt) ∷ written gone else written gone) t) d made in
        let rest = leave_due bytes line n i gone next after s t fewer leave.1 both in
        (rest.0, λ x. rest.1 x ∙ due_left_clean n i (content s) set.lines e p kept d x))

    -- room is made in one of the sets
    room_due : (bytes : List ℕ) (sets : List Kept) (line : ℕ) (new : List Kept) (calls : List Call) (s t : B) → IsPlaced sets → Changes (MakesRoom size bytes) sets line (Ok tt) new calls → Made did_read did_write s calls t
        → IsPlaced new × ((x : ℕ) → due_of (content t) new x ≡ due_of (content s) sets x) × (kept_of sets line ≡ None → kept_of new line ≡ None)
    room_due bytes sets line new calls s t p ch made =
        let i = line % length sets in
        let inside = at_home sets line p in
        let all = leave_due bytes line (length sets) i ch.step.gone (set_of sets line) ch.after s t (p.placed i) ch.step.leave (subst (λ c. Made did_read did_write s c t) ch.step.end.1 made) in (
          subst IsPlaced (sym ch.only) (placed_step (content s) (content t) sets p i inside ch.after all.0),
          λ x. ap (λ l. due_of (content t) l x) ch.only ∙ due_step (content s) (content t) sets p i inside ch.after all.0 (λ y o. o) all.1 (λ y o away. refl) x,
          λ none. ap (λ l. kept_of l line) ch.only ∙ ap (λ (k : Kept). entry_of k.lines line) (set_after sets line ch.after inside) ∙ leave_absent size bytes line ch.step.gone (set_of sets line) ch.after line ch.step.leave none,
        )

    front_placed : (sets : List Kept) (e : Entry) → IsPlaced sets → ArePlaced (length sets) (e.line % length sets) (e ∷ without (set_of sets e.line).lines e.line)
    front_placed sets e p =
        let i = e.line % length sets in
        (refl, placed_gone (length sets) i (set_of sets e.line).lines e.line (p.placed i), placed_without (length sets) i (set_of sets e.line).lines e.line (p.placed i))

    -- an entry is put in front that stands below
    puts_clean : (sets : List Kept) (line : ℕ) (bytes : List ℕ) (new : List Kept) (calls : List Call) (s t : B) → IsPlaced sets → kept_of sets line ≡ None → PutsInFront size sets (clean_entry line bytes) (Ok tt) new calls
        → Made did_read did_write s calls t → IsPlaced new × ((x : ℕ) → due_of (content t) new x ≡ due_of (content s) sets x)
    puts_clean sets line bytes new calls s t p none puts made =
        let room = room_due bytes sets line puts.mid calls s t p puts.room made in
        let e = clean_entry line bytes in
        let i = line % length puts.mid in
        let inside = at_home puts.mid line room.0 in
        let front = front_placed puts.mid e room.0 in
        let after = e ∷ without (set_of puts.mid line).lines line in (
          subst IsPlaced (sym puts.put) (placed_step (content t) (content t) puts.mid room.0 i inside after front),
          λ x. ap (λ l. due_of (content t) l x) puts.put
              ∙ due_step (content t) (content t) puts.mid room.0 i inside after front (λ y o. o) (due_front_clean (content t) (set_of puts.mid line).lines line bytes (room.2 none)) (λ y o away. refl) x
              ∙ room.1 x,
        )

    -- or one of other bytes
    puts_dirty : (sets : List Kept) (line : ℕ) (bytes : List ℕ) (new : List Kept) (calls : List Call) (s t : B) → IsPlaced sets → PutsInFront size sets (dirty_entry line bytes) (Ok tt) new calls
        → Made did_read did_write s calls t → IsPlaced new × ((x : ℕ) → due_of (content t) new x ≡ put_due line bytes x (due_of (content s) sets x))
    puts_dirty sets line bytes new calls s t p puts made =
        let room = room_due bytes sets line puts.mid calls s t p puts.room made in
        let e = dirty_entry line bytes in
        let i = line % length puts.mid in
        let inside = at_home puts.mid line room.0 in
        let front = front_placed puts.mid e room.0 in
        let after = e ∷ without (set_of puts.mid line).lines line in (
          subst IsPlaced (sym puts.put) (placed_step (content t) (content t) puts.mid room.0 i inside after front),
          λ x. ap (λ l. due_of (content t) l x) puts.put
              ∙ due_step (content t) (content t) puts.mid room.0 i inside after front (put_due line bytes) (due_front_dirty (content t) (set_of puts.mid line).lines line bytes)
              (λ y o away. ap (λ b. if b then option_map (λ _. bytes) o else o) (ne_eqb line y (λ same. away (ap (λ z. z % length puts.mid) (sym same))))) x
              ∙ ap (put_due line bytes x) (room.1 x),
        )

    -- What a read that was answered does to one of the levels.
    record ReadSide (sets : List Kept) (line : ℕ) (bytes : List ℕ) (new : List Kept) (s t : B) : Type 0 where
      placed : IsPlaced new
      dues : (x : ℕ) → due_of (content t) new x ≡ due_of (content s) sets x
      below : kept_of sets line ≡ None → due_of (content s) sets line ≡ Some bytes
      missed : kept_of sets line ≡ None → (calls : List Call) × PutsInFront size sets (clean_entry line bytes) (Ok tt) new calls
      copied : (e : Entry) → kept_of sets line ≡ Some e → (e.bytes ≡ bytes) × (new ≡ with_set sets line (touched (set_of sets line).lines line))

    misses_side : (sets : List Kept) (line : ℕ) (bytes : List ℕ) (new : List Kept) (calls : List Call) (s t : B) → IsPlaced sets → kept_of sets line ≡ None → ReadMisses size sets line (Ok bytes) new calls → Made did_read did_write s calls t
        → ReadSide sets line bytes new s t
    misses_side sets line bytes new (Read l (Ok b) ∷ calls) s t p none is made =
        let did : did_read s line (Ok bytes) made.0 = subst (λ z. did_read s z (Ok bytes) made.0) is.0 (subst (λ z. did_read s l (Ok z) made.0) is.1 made.1) in
        let gave = has.reads s line bytes made.0 did in
        let puts : PutsInFront size sets (clean_entry line bytes) (Ok tt) new calls = subst (λ z. PutsInFront size sets (clean_entry line z) (Ok tt) new calls) is.1 is.2 in
        let all = puts_clean sets line bytes new calls made.0 t p none puts made.2 in
        record {
          placed = all.0;
          dues = λ x. all.1 x ∙ ap (λ c. due_of c sets x) gave.1;
          below = λ n. due_none (content s) (set_of sets line).lines line none ∙ gave.0;
          missed = λ n. (calls, puts);
          copied = λ e kept. absurd (let k : None ≡ Some e = sym none ∙ kept in let k2 = k in cc);
        }
    misses_side sets line bytes new (Read l (Err refusal) ∷ calls) s t p none is made = absurd is
    misses_side sets line bytes new (Write l b a ∷ calls) s t p none is made = absurd is
    misses_side sets line bytes new [] s t p none is made = absurd is

    hits_side : (sets : List Kept) (line : ℕ) (bytes : List ℕ) (new : List Kept) (calls : List Call) (s t : B) (e : Entry) → IsPlaced sets → kept_of sets line ≡ Some e
        → (calls ≡ []) × (◌≡◌ {A = Result (List ℕ) NoSpace} (Ok bytes) (Ok e.bytes)) × (new ≡ with_set sets line (touched (set_of sets line).lines line)) → Made did_read did_write s calls t → ReadSide sets line bytes new s t
    hits_side sets line bytes new calls s t e p kept is made =
        let i = line % length sets in
        let inside = at_home sets line p in
        let es = (set_of sets line).lines in
        let quiet : t ≡ s = subst (λ c. Made did_read did_write s c t) is.0 made in
        let same : bytes ≡ e.bytes = (let k = is.1 in cc) in
        let placed = placed_touched (length sets) i es line (p.placed i) in
        record {
          placed = subst IsPlaced (sym is.2) (placed_step (content s) (content s) sets p i inside (touched es line) placed);
          dues = λ x. ap (λ b. due_of (content b) new x) quiet ∙ ap (λ l. due_of (content s) l x) is.2
              ∙ due_step (content s) (content s) sets p i inside (touched es line) placed (λ y o. o) (due_touched (content s) es line) (λ y o away. refl) x;
          below = λ none. absurd (let k : None ≡ Some e = sym none ∙ kept in let k2 = k in cc);
          missed = λ none. absurd (let k : None ≡ Some e = sym none ∙ kept in let k2 = k in cc);
          copied = λ f has_f. (let k : Some f ≡ Some e = sym has_f ∙ kept in let one : f ≡ e = (let k2 = k in cc) in (ap (λ (z : Entry). z.bytes) one ∙ sym same, is.2));
        }

    read_side : (sets : List Kept) (line : ℕ) (bytes : List ℕ) (new : List Kept) (calls : List Call) (s t : B) → IsPlaced sets → ReadsSecond size sets line (Ok bytes) new calls → Made did_read did_write s calls t → ReadSide sets line bytes new s t
    read_side sets line bytes new calls s t p is made = by_kept (kept_of sets line) refl is
      where
        by_kept : (kept : Option Entry) → kept_of sets line ≡ kept
            → MatchOption kept (ReadMisses size sets line (Ok bytes) new calls) (λ e. (calls ≡ []) × (◌≡◌ {A = Result (List ℕ) NoSpace} (Ok bytes) (Ok e.bytes)) × (new ≡ with_set sets line (touched (set_of sets line).lines line))) → ReadSide sets line bytes new s t
        by_kept None none is = misses_side sets line bytes new calls s t p none is made
        by_kept (Some e) kept is = hits_side sets line bytes new calls s t e p kept is made

    -- reads of two levels that are alike
    read_both : (sets others : List Kept) (line : ℕ) (b c : List ℕ) (new old : List Kept) (s t u v : B) → undirtied_sets sets ≡ undirtied_sets others → ((x : ℕ) → due_of (content s) sets x ≡ due_of (content u) others x)
        → ReadSide sets line b new s t → ReadSide others line c old u v → (b ≡ c) × (undirtied_sets new ≡ undirtied_sets old)
    read_both sets others line b c new old s t u v same dues h k = by_kept (kept_of sets line) (kept_of others line) refl refl (kept_both sets others line same)
      where
        by_kept : (one other : Option Entry) → kept_of sets line ≡ one → kept_of others line ≡ other → option_map cleaned one ≡ option_map cleaned other → (b ≡ c) × (undirtied_sets new ≡ undirtied_sets old)
        by_kept None None none none' both =
            let shown : Some b ≡ Some c = sym (h.below none) ∙ dues line ∙ k.below none' in
            let bytes : b ≡ c = (let q = shown in cc) in
            let first = h.missed none in
            let second = k.missed none' in
            (bytes, puts_both size sets others (clean_entry line c) new old first.0 second.0 same (subst (λ z. PutsInFront size sets (clean_entry line z) (Ok tt) new first.0) bytes first.1) second.1)
        by_kept None (Some f) none kept both = absurd (let q = both in cc)
        by_kept (Some e) None kept none both = absurd (let q = both in cc)
        by_kept (Some e) (Some f) kept kept' both =
            let one : cleaned e ≡ cleaned f = (let q = both in cc) in
            let first = h.copied e kept in
            let second = k.copied f kept' in (
              sym first.0 ∙ ap (λ (z : Entry). z.bytes) one ∙ second.0,
              ap undirtied_sets first.1 ∙ touched_is sets ∙ ap (λ l. with_set l line (touched (set_of l line).lines line)) same ∙ sym (ap undirtied_sets second.1 ∙ touched_is others),
            )
          where
            touched_is : (l : List Kept) → undirtied_sets (with_set l line (touched (set_of l line).lines line)) ≡ with_set (undirtied_sets l) line (touched (set_of (undirtied_sets l) line).lines line)
            touched_is l =
                undirtied-with_set l line (touched (set_of l line).lines line) ∙ ap (with_set (undirtied_sets l) line) (undirtied-touched (set_of l line).lines line)
                ∙ ap (λ (q : Kept). with_set (undirtied_sets l) line (touched q.lines line)) (sym (set_of-undirtied l line))

  -- a read of two levels that are alike gives the same bytes, and leaves them alike
  pub read_alike : (s u : SecondLevel B) (line : ℕ) (b c : List ℕ) (t v : SecondLevel B) → AreAlike content s u → SecondRead did_read did_write s line (Ok b) t → SecondRead did_read did_write u line (Ok c) v → (b ≡ c) × AreAlike content t v
  read_alike s u line b c t v alike h k =
      let k_gives : ReadsSecond (size_under s.codec) u.sets line (Ok c) v.sets k.made.calls = subst (λ z. ReadsSecond (size_under z) u.sets line (Ok c) v.sets k.made.calls) (sym alike.codec) k.made.gives in
      let size = size_under s.codec in
      let one = read_side size s.sets line b t.sets h.made.calls s.below t.below alike.first_placed h.made.gives h.made.made in
      let other = read_side size u.sets line c v.sets k.made.calls u.below v.below alike.second_placed k_gives k.made.made in
      let both = read_both size s.sets u.sets line b c t.sets v.sets s.below t.below u.below v.below alike.sets alike.dues one other in (
        both.0,
        record {
          codec = h.codec ∙ alike.codec ∙ sym k.codec;
          counts = h.counts ∙ ap (λ d. read_counted d (Ok b) s.counts) (hits_both s.sets u.sets line alike.sets) ∙ ap (read_counted (is_some (kept_of u.sets line)) (Ok b)) alike.counts
              ∙ ap (λ z. read_counted (is_some (kept_of u.sets line)) (Ok z) u.counts) both.0 ∙ sym k.counts;
          sets = both.1;
          dues = λ x. one.dues x ∙ alike.dues x ∙ sym (other.dues x);
          first_placed = one.placed;
          second_placed = other.placed;
        },
      )

  -- and a write of the same bytes leaves them alike
  pub write_alike : (s u : SecondLevel B) (line : ℕ) (bytes : List ℕ) (t v : SecondLevel B) → AreAlike content s u → SecondWrite did_read did_write s line bytes (Ok tt) t → SecondWrite did_read did_write u line bytes (Ok tt) v → AreAlike content t v
  write_alike s u line bytes t v alike h k =
      let size = size_under s.codec in
      let puts : PutsInFront size u.sets (dirty_entry line bytes) (Ok tt) v.sets k.made.calls = subst (λ z. PutsInFront (size_under z) u.sets (dirty_entry line bytes) (Ok tt) v.sets k.made.calls) (sym alike.codec) k.made.gives in
      let one = puts_dirty size s.sets line bytes t.sets h.made.calls s.below t.below alike.first_placed h.made.gives h.made.made in
      let other = puts_dirty size u.sets line bytes v.sets k.made.calls u.below v.below alike.second_placed puts k.made.made in
      record {
        codec = h.codec ∙ alike.codec ∙ sym k.codec;
        counts = h.counts ∙ ap (λ d. write_counted d (Ok tt) s.counts) (hits_both s.sets u.sets line alike.sets) ∙ ap (write_counted (is_some (kept_of u.sets line)) (Ok tt)) alike.counts ∙ sym k.counts;
        sets = puts_both size s.sets u.sets (dirty_entry line bytes) t.sets v.sets h.made.calls k.made.calls alike.sets h.made.gives puts;
        dues = λ x. one.1 x ∙ ap (put_due line bytes x) (alike.dues x) ∙ sym (other.1 x);
        first_placed = one.0;
        second_placed = other.0;
      }

  -- what a turn of the cleaner leaves: the lists but for the marks, and what is due below
  cleans_side : (sets : List Kept) (i : ℕ) (answer : Clean) (new : List Kept) (calls : List Call) (s t : B) → IsPlaced sets → Cleans sets i answer new calls → Made did_read did_write s calls t
      → IsPlaced new × (undirtied_sets new ≡ undirtied_sets sets) × ((x : ℕ) → due_of (content t) new x ≡ due_of (content s) sets x)
  cleans_side sets i Nothing new [] s t p is made =
      (subst IsPlaced (sym is.1) p, ap undirtied_sets is.1, λ x. ap (λ b. due_of (content b) new x) made ∙ ap (λ l. due_of (content s) l x) is.1)
  cleans_side sets i Done new (Write l b (Ok z) ∷ []) s t p is made =
      let e = is.0 in
      let kept = turn_placed sets p i e is.1 in
      let did : did_write s e.line e.bytes (Ok tt) made.0 = subst (λ y. did_write s e.line y (Ok tt) made.0) is.3 (subst (λ y. did_write s y b (Ok tt) made.0) is.2 made.1) in (
        subst IsPlaced (sym is.4) (clean_placed sets e.line p),
        ap undirtied_sets is.4 ∙ undirtied-with_clean sets e.line,
        λ x. ap (λ y. due_of (content y) new x) made.2 ∙ ap (λ c. due_of c new x) (has.writes s e.line e.bytes made.0 did) ∙ ap (λ y. due_of (set (content s) e.line e.bytes) y x) is.4
            ∙ clean_due (content s) sets e p kept.0 kept.1 x,
      )
  cleans_side sets i (PutOff refusal) new (Write l b (Err cause) ∷ []) s t p is made = (
    subst IsPlaced (sym is.5) p,
    ap undirtied_sets is.5,
    λ x. ap (λ y. due_of (content y) new x) made.2 ∙ ap (λ c. due_of c new x) (has.refuses s l b cause made.0 made.1) ∙ ap (λ y. due_of (content s) y x) is.5,
  )
  cleans_side sets i answer new calls s t p is made = absurd is

  -- a turn of the cleaner leaves a level alike to itself before
  pub cleans_alike : (s : SecondLevel B) (answer : Clean) (t : SecondLevel B) → IsPlaced s.sets → SecondCleans did_read did_write s answer t → AreAlike content t s
  cleans_alike s answer t p h =
      let side = cleans_side s.sets s.cursor answer t.sets h.made.calls s.below t.below p h.made.gives h.made.made in
      record { codec = h.codec; counts = h.counts; sets = side.1; dues = side.2; first_placed = side.0; second_placed = p }

-- alike is an equivalence, where the lines are at home
pub alike_same : {B : Type 0} (content : B → List (List ℕ)) (s : SecondLevel B) → IsPlaced s.sets → AreAlike content s s
alike_same content s p = record { codec = refl; counts = refl; sets = refl; dues = λ x. refl; first_placed = p; second_placed = p }

pub alike_back : {B : Type 0} (content : B → List (List ℕ)) (s u : SecondLevel B) → AreAlike content s u → AreAlike content u s
alike_back content s u h = record { codec = sym h.codec; counts = sym h.counts; sets = sym h.sets; dues = λ x. sym (h.dues x); first_placed = h.second_placed; second_placed = h.first_placed }

pub alike_join : {B : Type 0} (content : B → List (List ℕ)) (s u w : SecondLevel B) → AreAlike content s u → AreAlike content u w → AreAlike content s w
alike_join content s u w h k = record {
  codec = h.codec ∙ k.codec;
  counts = h.counts ∙ k.counts;
  sets = h.sets ∙ k.sets;
  dues = λ x. h.dues x ∙ k.dues x;
  first_placed = h.first_placed;
  second_placed = k.second_placed;
}
