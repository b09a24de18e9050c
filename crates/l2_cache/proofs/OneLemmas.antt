-- What one call of a second level does is determined where that of the layer below is.
use Rattle.std.proofs.Common.{◌≡◌, ℕ, Bool, true, false, List, [], ◌∷◌, ◌++◌, Option, Some, None, Result, Ok, Err, refl, sym, ap, ◌∙◌, subst, if◌then◌else◌}
use Rattle.std.specs.Option.{MatchOption, is_some}
use Rattle.std.specs.Prelude.{MatchResult, MatchBool}
use Rattle.hier_types.specs.declared.faults.NoSpace.{NoSpace}
use Rattle.hier_types.specs.Calls.{Answer, Call, Read, Write, Made, read_answer}
use Rattle.line_codec.specs.Slots.{size_under}
use Rattle.recency.specs.declared.entry.Entry.{Entry}
use Rattle.recency.specs.Kept.{Kept, with_lines, without, touched, last_dirty, clean_entry, dirty_entry}
use Rattle.recency.specs.Levels.{set_at, set_of, with_set, kept_of}
use Rattle.recency.specs.Steps.{with_clean}
use Rattle.recency.proofs.OneLemmas.{IsOne, Made-one}
use Rattle.l2_cache.specs.declared.clean.Clean.{Clean}
use Rattle.l2_cache.specs.declared.clean.Clean.TheVariants.{Done, Nothing, PutOff}
use Rattle.l2_cache.specs.Room.{leaver}
use Rattle.l2_cache.specs.SecondLevel.{SecondLevel}
use Rattle.l2_cache.specs.SecondCalls.{SecondRead, SecondWrite, SecondCleans}
use Rattle.l2_cache.specs.Turns.{Leave, written, CannotLeave, MakesRoom, PutsInFront, in_front, ReadMisses, Cleans, WritesIfDirty, read_counted, write_counted}
use Rattle.l2_cache.proofs.LeaveLemmas.{one_more, written_more}

-- second levels whose parts are the same are one
same_second : {B : Type 0} (t u : SecondLevel B) → t.below ≡ u.below → t.codec ≡ u.codec → t.sets ≡ u.sets → t.cursor ≡ u.cursor → t.counts ≡ u.counts → t ≡ u
same_second {B} t u below codec sets cursor counts =
    let a : SecondLevel B = record { below = t.below; codec = t.codec; sets = t.sets; cursor = t.cursor; counts = t.counts } in
    let b : SecondLevel B = record { below = u.below; codec = u.codec; sets = u.sets; cursor = u.cursor; counts = u.counts } in
    let same : a ≡ b = cc in same

module _ {B : Type 0} (did_read : B → ℕ → Result (List ℕ) NoSpace → B → Type 0) (did_write : B → ℕ → List ℕ → Answer → B → Type 0) (one : IsOne did_read did_write) where
  written_one : (s : B) (e : Entry) (a c : Answer) (t u : B) → WritesIfDirty did_write s e a t → WritesIfDirty did_write s e c u → (a ≡ c) × (t ≡ u)
  written_one s e a c t u x y = by_mark e.dirty x y
    where
      by_mark : (d : Bool) → MatchBool d (did_write s e.line e.bytes a t) ((t ≡ s) × (a ≡ Ok tt)) → MatchBool d (did_write s e.line e.bytes c u) ((u ≡ s) × (c ≡ Ok tt)) → (a ≡ c) × (t ≡ u)
      by_mark true x y = one.writes s e.line e.bytes a c t u x y
      by_mark false x y = (x.1 ∙ sym y.1, x.0 ∙ sym y.0)

  module _ (size : List ℕ → ℕ) (bytes : List ℕ) (line : ℕ) where
    -- these entries leave one after another, each written where it is dirty, until there is room or one is refused
    abbrev Goes : List Entry → Kept → B → Answer → List Entry → B → Type 0
    Goes [] set s (Ok x) after t = (leaver size set line bytes ≡ None) × (after ≡ set.lines) × (t ≡ s)
    Goes [] set s (Err refusal) after t = (e : Entry) × (leaver size set line bytes ≡ Some e) × (after ≡ set.lines) × WritesIfDirty did_write s e (Err refusal) t
    Goes (e ∷ gone) set s result after t =
        (leaver size set line bytes ≡ Some e) × (mid : B) × WritesIfDirty did_write s e (Ok tt) mid × Goes gone (with_lines set (without set.lines e.line)) mid result after t

    -- the calls of one that leaves come first
    first_call : (e : Entry) (calls rest : List Call) (s t : B) → calls ≡ one_more e rest → Made did_read did_write s calls t → (mid : B) × WritesIfDirty did_write s e (Ok tt) mid × Made did_read did_write mid rest t
    first_call e calls rest s t is made = by_mark e.dirty (subst (λ (z : List Call). Made did_read did_write s z t) is made)
      where
        by_mark : (d : Bool) → Made did_read did_write s (if d then Write e.line e.bytes (Ok tt) ∷ rest else rest) t → (mid : B) × MatchBool d (did_write s e.line e.bytes (Ok tt) mid) ((mid ≡ s) × (◌≡◌ {A = Answer} (Ok tt) (Ok tt))) × Made did_read did_write mid rest t
        by_mark true made = made
        by_mark false made = (s, (refl, refl), made)

    goes : (gone : List Entry) (set : Kept) (calls : List Call) (result : Answer) (after : List Entry) (s t : B) → Leave size bytes set line gone after
        → MatchResult result (λ _. (leaver size (with_lines set after) line bytes ≡ None) × (calls ≡ written gone)) (λ refusal. CannotLeave size bytes (with_lines set after) line refusal gone calls)
        → Made did_read did_write s calls t → Goes gone set s result after t
    goes [] set calls (Ok x) after s t leave end made =
        (subst (λ (z : List Entry). leaver size (with_lines set z) line bytes ≡ None) leave end.0, leave, subst (λ (z : List Call). Made did_read did_write s z t) end.1 made)
    goes [] set calls (Err n) after s t leave end made =
        let e = end.entry in
        let wrote : Made did_read did_write s (Write e.line e.bytes (Err n) ∷ []) t = subst (λ (z : List Call). Made did_read did_write s z t) end.made made in
        (e, subst (λ (z : List Entry). leaver size (with_lines set z) line bytes ≡ Some e) leave end.next, leave, rw end.dirty (subst (λ (z : B). did_write s e.line e.bytes (Err n) z) (sym wrote.2) wrote.1))
    goes (e ∷ gone) set calls (Ok x) after s t leave end made =
        let first = first_call e calls (written gone) s t end.1 made in
        (leave.0, first.0, first.1, goes gone (with_lines set (without set.lines e.line)) (written gone) (Ok x) after first.0 t leave.1 (end.0, refl) first.2)
    goes (e ∷ gone) set calls (Err n) after s t leave end made =
        let last = Write end.entry.line end.entry.bytes (Err n) ∷ [] in
        let first = first_call e calls (written gone ++ last) s t (end.made ∙ written_more e gone last) made in
        (leave.0, first.0, first.1, goes gone (with_lines set (without set.lines e.line)) (written gone ++ last) (Err n) after first.0 t leave.1 (record { entry = end.entry; next = end.next; dirty = end.dirty; made = refl }) first.2)

    goes_one : (gone left : List Entry) (set : Kept) (a c : Answer) (after rest : List Entry) (s t u : B) → Goes gone set s a after t → Goes left set s c rest u → (a ≡ c) × (after ≡ rest) × (t ≡ u)
    goes_one [] [] set (Ok x) (Ok y) after rest s t u p q = (refl, p.1 ∙ sym q.1, p.2 ∙ sym q.2)
    goes_one [] [] set (Ok x) (Err n) after rest s t u p q = absurd (let k : None ≡ Some q.0 = sym p.0 ∙ q.1 in let k2 = k in cc)
    goes_one [] [] set (Err n) (Ok y) after rest s t u p q = absurd (let k : Some p.0 ≡ None = sym p.1 ∙ q.0 in let k2 = k in cc)
    goes_one [] [] set (Err n) (Err m) after rest s t u p q =
        let k : Some p.0 ≡ Some q.0 = sym p.1 ∙ q.1 in
        let same : p.0 ≡ q.0 = cc in
        let both = written_one s q.0 (Err n) (Err m) t u (subst (λ (e : Entry). WritesIfDirty did_write s e (Err n) t) same p.3) q.3 in
        (both.0, p.2 ∙ sym q.2, both.1)
    goes_one [] (f ∷ left) set (Ok x) c after rest s t u p q = absurd (let k : None ≡ Some f = sym p.0 ∙ q.0 in let k2 = k in cc)
    goes_one [] (f ∷ left) set (Err n) c after rest s t u p q =
        let k : Some p.0 ≡ Some f = sym p.1 ∙ q.0 in
        let same : p.0 ≡ f = cc in
        let both = written_one s f (Err n) (Ok tt) t q.1 (subst (λ (e : Entry). WritesIfDirty did_write s e (Err n) t) same p.3) q.2 in
        absurd (let h = both.0 in cc)
    goes_one (e ∷ gone) [] set a (Ok y) after rest s t u p q = absurd (let k : Some e ≡ None = sym p.0 ∙ q.0 in let k2 = k in cc)
    goes_one (e ∷ gone) [] set a (Err m) after rest s t u p q =
        let k : Some e ≡ Some q.0 = sym p.0 ∙ q.1 in
        let same : e ≡ q.0 = cc in
        let both = written_one s q.0 (Ok tt) (Err m) p.1 u (subst (λ (z : Entry). WritesIfDirty did_write s z (Ok tt) p.1) same p.2) q.3 in
        absurd (let h = both.0 in cc)
    goes_one (e ∷ gone) (f ∷ left) set a c after rest s t u p q =
        let k : Some e ≡ Some f = sym p.0 ∙ q.0 in
        let same : e ≡ f = cc in
        let both = written_one s f (Ok tt) (Ok tt) p.1 q.1 (subst (λ (z : Entry). WritesIfDirty did_write s z (Ok tt) p.1) same p.2) q.2 in
        goes_one gone left (with_lines set (without set.lines f.line)) a c after rest q.1 t u
        (subst (λ (z : B). Goes gone (with_lines set (without set.lines f.line)) z a after t) both.1
        (subst (λ (z : Entry). Goes gone (with_lines set (without set.lines z.line)) p.1 a after t) same p.3)) q.3

    room_one : (set : Kept) (calls made : List Call) (a c : Answer) (after rest : List Entry) (s t u : B) → Made did_read did_write s calls t → MakesRoom size bytes set line calls a after
        → Made did_read did_write s made u → MakesRoom size bytes set line made c rest → (a ≡ c) × (after ≡ rest) × (t ≡ u)
    room_one set calls made a c after rest s t u m room k other =
        goes_one room.gone other.gone set a c after rest s t u (goes room.gone set calls a after s t room.leave room.end m) (goes other.gone set made c rest s u other.leave other.end k)

  -- an entry is put in front
  puts_one : (size : List ℕ → ℕ) (sets : List Kept) (e : Entry) (a c : Answer) (new old : List Kept) (calls made : List Call) (s t u : B) → Made did_read did_write s calls t → PutsInFront size sets e a new calls
      → Made did_read did_write s made u → PutsInFront size sets e c old made → (a ≡ c) × (new ≡ old) × (t ≡ u)
  puts_one size sets e a c new old calls made s t u m puts k other =
      let all = room_one size e.bytes e.line (set_of sets e.line) calls made a c puts.room.after other.room.after s t u m puts.room.step k other.room.step in
      let mids : puts.mid ≡ other.mid = puts.room.only ∙ ap (with_set sets e.line) all.1 ∙ sym other.room.only in
      (all.0, put a c puts.mid other.mid all.0 mids puts.put other.put, all.2)
    where
      put : (a c : Answer) (mid half : List Kept) → a ≡ c → mid ≡ half → MatchResult a (λ _. new ≡ in_front mid e) (λ _. new ≡ mid) → MatchResult c (λ _. old ≡ in_front half e) (λ _. old ≡ half) → new ≡ old
      put (Ok x) (Ok y) mid half answer same p q = p ∙ ap (λ (z : List Kept). in_front z e) same ∙ sym q
      put (Ok x) (Err n) mid half answer same p q = absurd (let h = answer in cc)
      put (Err n) (Ok y) mid half answer same p q = absurd (let h = answer in cc)
      put (Err n) (Err m) mid half answer same p q = p ∙ same ∙ sym q

  module _ (size : List ℕ → ℕ) (sets : List Kept) (line : ℕ) where
    -- what comes after the read below of a line that is not kept
    abbrev AfterRead : Result (List ℕ) NoSpace → B → Result (List ℕ) NoSpace → List Kept → B → Type 0
    AfterRead (Ok bytes) mid answer new t =
        (put : Answer) × (calls : List Call) × (answer ≡ read_answer put bytes) × Made did_read did_write mid calls t × PutsInFront size sets (clean_entry line bytes) put new calls
    AfterRead (Err refusal) mid answer new t = (answer ≡ Err refusal) × (new ≡ sets) × (t ≡ mid)

    miss_is : (answer : Result (List ℕ) NoSpace) (new : List Kept) (calls : List Call) (s t : B) → Made did_read did_write s calls t → ReadMisses size sets line answer new calls
        → (r : Result (List ℕ) NoSpace) × (mid : B) × did_read s line r mid × AfterRead r mid answer new t
    miss_is (Ok bytes) new (Read l (Ok b) ∷ calls) s t made is =
        (Ok b, made.0, subst (λ (z : ℕ). did_read s z (Ok b) made.0) is.0 made.1, (Ok tt, calls, ap Ok (sym is.1), made.2, is.2))
    miss_is (Err n) new (Read l (Ok b) ∷ calls) s t made is =
        (Ok b, made.0, subst (λ (z : ℕ). did_read s z (Ok b) made.0) is.0 made.1, (Err n, calls, refl, made.2, is.1))
    miss_is (Err n) new (Read l (Err cause) ∷ []) s t made is =
        (Err cause, made.0, subst (λ (z : ℕ). did_read s z (Err cause) made.0) is.0 made.1, (ap Err (sym is.1), is.2, made.2))
    miss_is answer new calls s t made is = absurd is

    after_one : (r : Result (List ℕ) NoSpace) (mid : B) (a c : Result (List ℕ) NoSpace) (new old : List Kept) (t u : B) → AfterRead r mid a new t → AfterRead r mid c old u → (a ≡ c) × (new ≡ old) × (t ≡ u)
    after_one (Ok bytes) mid a c new old t u x y =
        let all = puts_one size sets (clean_entry line bytes) x.0 y.0 new old x.1 y.1 mid t u x.3 x.4 y.3 y.4 in
        (x.2 ∙ ap (λ (w : Answer). read_answer w bytes) all.0 ∙ sym y.2, all.1, all.2)
    after_one (Err n) mid a c new old t u x y = (x.0 ∙ sym y.0, x.1 ∙ sym y.1, x.2 ∙ sym y.2)

    miss_one : (a c : Result (List ℕ) NoSpace) (new old : List Kept) (calls made : List Call) (s t u : B) → Made did_read did_write s calls t → ReadMisses size sets line a new calls
        → Made did_read did_write s made u → ReadMisses size sets line c old made → (a ≡ c) × (new ≡ old) × (t ≡ u)
    miss_one a c new old calls made s t u m is k other =
        let x = miss_is a new calls s t m is in
        let y = miss_is c old made s u k other in
        let both = one.reads s line x.0 y.0 x.1 y.1 x.2 y.2 in
        after_one y.0 y.1 a c new old t u (subst (λ (z : B). AfterRead y.0 z a new t) both.1 (subst (λ (r : Result (List ℕ) NoSpace). AfterRead r x.1 a new t) both.0 x.3)) y.3

    read_one : (kept : Option Entry) (a c : Result (List ℕ) NoSpace) (new old : List Kept) (calls made : List Call) (s t u : B)
        → Made did_read did_write s calls t → MatchOption kept (ReadMisses size sets line a new calls) (λ e. (calls ≡ []) × (a ≡ Ok e.bytes) × (new ≡ with_set sets line (touched (set_of sets line).lines line)))
        → Made did_read did_write s made u → MatchOption kept (ReadMisses size sets line c old made) (λ e. (made ≡ []) × (c ≡ Ok e.bytes) × (old ≡ with_set sets line (touched (set_of sets line).lines line)))
        → (a ≡ c) × (new ≡ old) × (t ≡ u)
    read_one None a c new old calls made s t u m x k y = miss_one a c new old calls made s t u m x k y
    read_one (Some e) a c new old calls made s t u m x k y =
        (x.1 ∙ sym y.1, x.2 ∙ sym y.2, Made-one did_read did_write one made s t u (subst (λ (z : List Call). Made did_read did_write s z t) (x.0 ∙ sym y.0) m) k)

  -- a read and a write of the second level have one answer, and leave one state
  pub second_one : IsOne (SecondRead did_read did_write) (SecondWrite did_read did_write)
  second_one = record {
    reads = λ s line a c t u x y.
        (let all = read_one (size_under s.codec) s.sets line (kept_of s.sets line) a c t.sets u.sets x.made.calls y.made.calls s.below t.below u.below x.made.made x.made.gives y.made.made y.made.gives in (
          all.0,
          same_second t u all.2 (x.codec ∙ sym y.codec) all.1 (x.cursor ∙ sym y.cursor)
              (x.counts ∙ ap (λ (r : Result (List ℕ) NoSpace). read_counted (is_some (kept_of s.sets line)) r s.counts) all.0 ∙ sym y.counts),
        ));
    writes = λ s line bytes a c t u x y.
        (let all = puts_one (size_under s.codec) s.sets (dirty_entry line bytes) a c t.sets u.sets x.made.calls y.made.calls s.below t.below u.below x.made.made x.made.gives y.made.made y.made.gives in (
          all.0,
          same_second t u all.2 (x.codec ∙ sym y.codec) all.1 (x.cursor ∙ sym y.cursor)
              (x.counts ∙ ap (λ (r : Answer). write_counted (is_some (kept_of s.sets line)) r s.counts) all.0 ∙ sym y.counts),
        ));
  }

  -- what the cleaner answers to the answer of its write, and the sets then
  abbrev cleaned_by : Answer → Clean
  cleaned_by (Ok x) = Done
  cleaned_by (Err refusal) = PutOff refusal

  abbrev sets_by : List Kept → Entry → Answer → List Kept
  sets_by sets e (Ok x) = with_clean sets e.line
  sets_by sets e (Err refusal) = sets

  -- a turn that has this line to write, or none
  abbrev Turned : Option Entry → List Kept → B → Clean → List Kept → B → Type 0
  Turned None sets s answer new t = (answer ≡ Nothing) × (new ≡ sets) × (t ≡ s)
  Turned (Some e) sets s answer new t = (w : Answer) × did_write s e.line e.bytes w t × (answer ≡ cleaned_by w) × (new ≡ sets_by sets e w)

  wrote : (s t : B) (l : ℕ) (b : List ℕ) (w : Answer) (e : Entry) → l ≡ e.line → b ≡ e.bytes → Made did_read did_write s (Write l b w ∷ []) t → did_write s e.line e.bytes w t
  wrote s t l b w e line bytes made =
      subst (λ (z : List ℕ). did_write s e.line z w t) bytes (subst (λ (z : ℕ). did_write s z b w t) line (subst (λ (z : B). did_write s l b w z) (sym made.2) made.1))

  turn_is : (sets : List Kept) (i : ℕ) (answer : Clean) (new : List Kept) (calls : List Call) (s t : B) → Made did_read did_write s calls t → Cleans sets i answer new calls
      → Turned (last_dirty (set_at sets i).lines) sets s answer new t
  turn_is sets i Nothing new [] s t made is = rw is.0 (refl, is.1, made)
  turn_is sets i Done new (Write l b (Ok x) ∷ []) s t made is = rw is.1 (Ok tt, wrote s t l b (Ok tt) is.0 is.2 is.3 made, refl, is.4)
  turn_is sets i (PutOff n) new (Write l b (Err cause) ∷ []) s t made is = rw is.1 (Err cause, wrote s t l b (Err cause) is.0 is.2 is.3 made, ap PutOff (sym is.4), is.5)
  turn_is sets i answer new calls s t made is = absurd is

  turn_one : (last : Option Entry) (sets : List Kept) (a c : Clean) (new old : List Kept) (s t u : B) → Turned last sets s a new t → Turned last sets s c old u → (a ≡ c) × (new ≡ old) × (t ≡ u)
  turn_one None sets a c new old s t u x y = (x.0 ∙ sym y.0, x.1 ∙ sym y.1, x.2 ∙ sym y.2)
  turn_one (Some e) sets a c new old s t u x y =
      let both = one.writes s e.line e.bytes x.0 y.0 t u x.1 y.1 in
      (x.2 ∙ ap cleaned_by both.0 ∙ sym y.2, x.3 ∙ ap (sets_by sets e) both.0 ∙ sym y.3, both.1)

  -- a turn of the cleaner has one answer, and leaves one state
  pub cleans_one : (s : SecondLevel B) (a c : Clean) (t u : SecondLevel B) → SecondCleans did_read did_write s a t → SecondCleans did_read did_write s c u → (a ≡ c) × (t ≡ u)
  cleans_one s a c t u x y =
      let p = turn_is s.sets s.cursor a t.sets x.made.calls s.below t.below x.made.made x.made.gives in
      let q = turn_is s.sets s.cursor c u.sets y.made.calls s.below u.below y.made.made y.made.gives in
      let all = turn_one (last_dirty (set_at s.sets s.cursor).lines) s.sets a c t.sets u.sets s.below t.below u.below p q in
      (all.0, same_second t u all.2 (x.codec ∙ sym y.codec) all.1 (x.cursor ∙ sym y.cursor) (x.counts ∙ sym y.counts))
