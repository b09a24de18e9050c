-- A run, point by point.
use Rattle.std.proofs.Common.{◌≡◌, ◌<◌, ◌≤◌, ◌+◌, ◌*◌, ◌%◌, ℕ, zero, suc, Bool, List, length, Option, Some, None, refl, sym, ◌∙◌, ap, subst, cond, arith, inl, inr}
use Rattle.hier_types.specs.declared.beats.Beat.{Beat}
use Rattle.hier_types.specs.Causes.{raised, raised_by}
use Rattle.hier_types.specs.Streams.{FaultsStay, Meets, Streams, over}
use Rattle.hier_types.proofs.StreamLemmas.{faults_join}
use Rattle.hier_types.specs.Beats.{IsBeat, IsBeatWord, turns_among}
use Rattle.beat_runs.proofs.WordLemmas.{gap-lt, inside_word, next_place, turn_counted, work, work_falls}
use Rattle.beat_runs.specs.Points.{Passed, PassesBeat, Point, RunsBeats, point, retired_by}

-- From its start a run has come to the point now, by so many beats.
pub record RunsSoFar {S E : Type 0} (retired : S → ℕ) (stands : ℕ → S → Option (E × S)) (Does : Beat → S → Option E → S → Streams → Type 0) (word : List Beat) (budget : ℕ) (start : Point S) (count : ℕ) (now : Point S) : Type 0 where
  pub passed : Passed (PassesBeat stands Does budget) word start count now
  pub bounded : count + work word budget (retired now.state) (count % length word) ≤ work word budget (retired start.state) (0 % length word)

module _ {S E : Type 0} (retired : S → ℕ) (stands : ℕ → S → Option (E × S)) (Does : Beat → S → Option E → S → Streams → Type 0) (word : List Beat) (budget : ℕ) where
  -- a run begins
  pub runs_none : (start : Point S) → RunsSoFar retired stands Does word budget start 0 start
  runs_none start = record { passed = refl; bounded = omega arith }

  -- a beat after which the run goes on
  pub runs_on : (start a : Point S) (t : S) (count : ℕ) (beat : Beat) (second : Streams) → RunsSoFar retired stands Does word budget start count a → IsBeatWord word → IsBeat word count beat
      → stands budget a.state ≡ None → retired a.state < budget → Meets a.streams second → FaultsStay second → Does beat a.state None t second → retired t ≡ retired_by beat (retired a.state)
      → RunsSoFar retired stands Does word budget start (suc count) (point t (over a.streams second))
  runs_on start a t count beat second so is_word is free lt meets faults did counts =
      let place = next_place (count % length word) count (length word) refl in
      let falls = work_falls word budget (retired a.state) (retired t) (count % length word) beat is_word is (inside_word word count is_word) lt counts in
      let falls' : work word budget (retired t) (suc count % length word) + 1 ≤ work word budget (retired a.state) (count % length word) = rw place at falls in
      record {
        passed = (a, beat, so.passed, is, record { allowed = free; streams = second; meets = meets; joined = refl; faults = faults; does = did });
        bounded = omega (arith, so.bounded, falls');
      }

  few : (start a : Point S) (count : ℕ) → IsBeatWord word → RunsSoFar retired stands Does word budget start count a → count ≤ 64 * (budget + 1)
  few start a count is_word so = omega (arith, so.bounded, gap-lt word (0 % length word) is_word.acts, is_word.short)

  -- a beat that ends the run
  pub runs_end : (start a : Point S) (t : S) (count : ℕ) (beat : Beat) (end : E) (second : Streams) → RunsSoFar retired stands Does word budget start count a → IsBeatWord word → IsBeat word count beat
      → stands budget a.state ≡ None → Meets a.streams second → FaultsStay second → Does beat a.state (Some end) t second
      → RunsBeats stands Does word budget start end (point t (over a.streams second))
  runs_end start a t count beat end second so is_word is free meets faults did = record {
    count = count;
    few = few start a count is_word so;
    before = a;
    passed = so.passed;
    ends = inl (record { allowed = free; beat = beat; is = is; streams = second; meets = meets; joined = refl; faults = faults; does = did });
  }

  -- the end comes before the next beat
  pub runs_stop : (start a : Point S) (t : S) (count : ℕ) (end : E) → RunsSoFar retired stands Does word budget start count a → IsBeatWord word → stands budget a.state ≡ Some (end, t)
      → RunsBeats stands Does word budget start end (point t a.streams)
  runs_stop start a t count end so is_word stop = record {
    count = count;
    few = few start a count is_word so;
    before = a;
    passed = so.passed;
    ends = inr (record { stands_so = stop; quiet = refl });
  }

-- a count that each beat of a kind raises, after the passed beats
pub passed_turns : {S E : Type 0} (stands : ℕ → S → Option (E × S)) (Does : Beat → S → Option E → S → Streams → Type 0) (word : List Beat) (budget : ℕ) (kind : Beat → Bool) (turns : S → ℕ)
    → ((beat : Beat) (a b : S) (s : Streams) → Does beat a None b s → turns b ≡ cond (kind beat) (raised (turns a)) (turns a))
    → (start : Point S) (count : ℕ) (now : Point S) → Passed (PassesBeat stands Does budget) word start count now → turns now.state ≡ raised_by (turns start.state) (turns_among kind word count)
passed_turns stands Does word budget kind turns counts start zero now same = ap (λ (p : Point _). turns p.state) same
passed_turns stands Does word budget kind turns counts start (suc count) now (mid, beat, passed, is, did) =
    turn_counted kind word count beat (turns start.state) (turns mid.state) (turns now.state) is (passed_turns stands Does word budget kind turns counts start count mid passed) (counts beat mid.state now.state did.streams did.does)

-- the same at the end of a run, where no beat that ends it and no end before a beat raises the count
pub run_turns : {S E : Type 0} (stands : ℕ → S → Option (E × S)) (Does : Beat → S → Option E → S → Streams → Type 0) (word : List Beat) (budget : ℕ) (kind : Beat → Bool) (turns : S → ℕ)
    → ((beat : Beat) (a b : S) (s : Streams) → Does beat a None b s → turns b ≡ cond (kind beat) (raised (turns a)) (turns a))
    → ((beat : Beat) (a b : S) (end : E) (s : Streams) → Does beat a (Some end) b s → turns b ≡ turns a)
    → ((a b : S) (end : E) → stands budget a ≡ Some (end, b) → turns b ≡ turns a)
    → (start : Point S) (end : E) (last : Point S) → (r : RunsBeats stands Does word budget start end last) → turns last.state ≡ raised_by (turns start.state) (turns_among kind word r.count)
run_turns stands Does word budget kind turns counts ends stops start end last r =
    let passed = passed_turns stands Does word budget kind turns counts start r.count r.before r.passed in
    elim r.ends [
      | inl by ↦ ends by.beat r.before.state last.state end by.streams by.does ∙ passed
      | inr by ↦ stops r.before.state last.state end by.stands_so ∙ passed
    ]

-- what each passed beat keeps holds after all
pub passed_holds : {S E : Type 0} (stands : ℕ → S → Option (E × S)) (Does : Beat → S → Option E → S → Streams → Type 0) (word : List Beat) (budget : ℕ) (Holds : S → Type 0)
    → ((beat : Beat) (a b : S) (s : Streams) → Holds a → Does beat a None b s → Holds b)
    → (start : Point S) (count : ℕ) (now : Point S) → Holds start.state → Passed (PassesBeat stands Does budget) word start count now → Holds now.state
passed_holds stands Does word budget Holds keeps start zero now holds same = subst (λ (p : Point _). Holds p.state) (sym same) holds
passed_holds stands Does word budget Holds keeps start (suc count) now holds (mid, beat, passed, is, did) =
    keeps beat mid.state now.state did.streams (passed_holds stands Does word budget Holds keeps start count mid holds passed) did.does

-- what each passed beat keeps of a point, its streams among that, holds after all
pub points_hold : {P : Type 0} (Passes : Beat → P → P → Type 0) (word : List Beat) (Holds : P → Type 0) → ((beat : Beat) (a b : P) → Holds a → Passes beat a b → Holds b)
    → (start : P) (count : ℕ) (now : P) → Holds start → Passed Passes word start count now → Holds now
points_hold Passes word Holds keeps start zero now holds same = subst Holds (sym same) holds
points_hold Passes word Holds keeps start (suc count) now holds (mid, beat, passed, is, by) = keeps beat mid now (points_hold Passes word Holds keeps start count mid holds passed) by

-- the same of a run, where its end keeps it too
pub run_holds : {S E : Type 0} (stands : ℕ → S → Option (E × S)) (Does : Beat → S → Option E → S → Streams → Type 0) (word : List Beat) (budget : ℕ) (Holds : S → Type 0)
    → ((beat : Beat) (a b : S) (result : Option E) (s : Streams) → Holds a → Does beat a result b s → Holds b) → ((a b : S) (end : E) → Holds a → stands budget a ≡ Some (end, b) → Holds b)
    → (start : Point S) (end : E) (last : Point S) → Holds start.state → RunsBeats stands Does word budget start end last → Holds last.state
run_holds {S} {E} stands Does word budget Holds keeps stops start end last holds r =
    let before = passed_holds stands Does word budget Holds (λ beat a b s. keeps beat a b None s) start r.count r.before holds r.passed in
    elim r.ends [
      | inl by ↦ keeps by.beat r.before.state last.state (Some end) by.streams before by.does
      | inr by ↦ stops r.before.state last.state end before by.stands_so
    ]

-- no count of faults falls in a run
pub run_faults : {S E : Type 0} (stands : ℕ → S → Option (E × S)) (Does : Beat → S → Option E → S → Streams → Type 0) (word : List Beat) (budget : ℕ)
    → (start : Point S) (end : E) (last : Point S) → FaultsStay start.streams → RunsBeats stands Does word budget start end last → FaultsStay last.streams
run_faults {S} {E} stands Does word budget start end last stay r =
    let Holds : Point S → Type 0 = λ p. FaultsStay p.streams in
    let before : FaultsStay r.before.streams =
    points_hold (PassesBeat stands Does budget) word Holds (λ beat a b h by. subst FaultsStay (sym by.joined) (faults_join a.streams by.streams h by.faults by.meets)) start r.count r.before stay r.passed in
    elim r.ends [
      | inl by ↦ subst FaultsStay (sym by.joined) (faults_join r.before.streams by.streams before by.faults by.meets)
      | inr by ↦ subst FaultsStay (sym by.quiet) before
    ]

-- where each beat does the one thing it does the other, while a fact is kept, a run by the one is a run by the other
passed_as : {S E : Type 0} (stands : ℕ → S → Option (E × S)) (Does Other : Beat → S → Option E → S → Streams → Type 0) (word : List Beat) (budget : ℕ) (Holds : S → Type 0)
    → ((beat : Beat) (a b : S) (s : Streams) → Holds a → Does beat a None b s → Holds b) → ((beat : Beat) (a b : S) (result : Option E) (s : Streams) → Holds a → Does beat a result b s → Other beat a result b s)
    → (start : Point S) (count : ℕ) (now : Point S) → Holds start.state → Passed (PassesBeat stands Does budget) word start count now → Passed (PassesBeat stands Other budget) word start count now
passed_as stands Does Other word budget Holds keeps as_other start zero now holds same = same
passed_as stands Does Other word budget Holds keeps as_other start (suc count) now holds (mid, beat, passed, is, by) =
    let here = passed_holds stands Does word budget Holds keeps start count mid holds passed in (
      mid,
      beat,
      passed_as stands Does Other word budget Holds keeps as_other start count mid holds passed,
      is,
      record { allowed = by.allowed; streams = by.streams; meets = by.meets; joined = by.joined; faults = by.faults; does = as_other beat mid.state now.state None by.streams here by.does },
    )

pub run_as : {S E : Type 0} (stands : ℕ → S → Option (E × S)) (Does Other : Beat → S → Option E → S → Streams → Type 0) (word : List Beat) (budget : ℕ) (Holds : S → Type 0)
    → ((beat : Beat) (a b : S) (s : Streams) → Holds a → Does beat a None b s → Holds b) → ((beat : Beat) (a b : S) (result : Option E) (s : Streams) → Holds a → Does beat a result b s → Other beat a result b s)
    → (start : Point S) (end : E) (last : Point S) → Holds start.state → RunsBeats stands Does word budget start end last → RunsBeats stands Other word budget start end last
run_as stands Does Other word budget Holds keeps as_other start end last holds r =
    let here = passed_holds stands Does word budget Holds keeps start r.count r.before holds r.passed in
    record {
      count = r.count;
      few = r.few;
      before = r.before;
      passed = passed_as stands Does Other word budget Holds keeps as_other start r.count r.before holds r.passed;
      ends = elim r.ends [
        | inl by ↦ inl (record { allowed = by.allowed; beat = by.beat; is = by.is; streams = by.streams; meets = by.meets; joined = by.joined; faults = by.faults; does = as_other by.beat r.before.state last.state (Some end) by.streams here by.does })
        | inr by ↦ inr by
      ];
    }
