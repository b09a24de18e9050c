-- A run, beat by beat, beside the flat run.
use Rattle.std.proofs.Common.{◌≡◌, ℕ, zero, suc, ◌+◌, ◌-◌, ◌<◌, ◌≤◌, List, [], ◌++◌, take, Option, Some, None, IfSome, refl, sym, ◌∙◌, ap, subst, arith, append_assoc, inl, inr}
use Rattle.std.proofs.KnownBytes.{Appends-trans}
use Rattle.std.proofs.lemmas.List.{append-nil}
use Rattle.std.specs.Io.KnownBytes.{Appends}
use Rattle.hier_types.specs.declared.beats.Beat.{Beat}
use Rattle.hier_types.specs.declared.beats.Beat.TheVariants.{Hart, Mover, Cleaner}
use Rattle.hier_types.specs.Streams.{AreUntouched, FaultsStay, Meets, Streams, at_first, over}
use Rattle.hier_types.proofs.CauseLemmas.{rose_since}
use Rattle.hier_types.proofs.StreamLemmas.{appends_nothing, faults_first, faults_join}
use Rattle.beat_runs.proofs.PointLemmas.{passed_holds}
use Rattle.beat_runs.specs.Points.{Passed, PassesBeat, Point, Runs, point}
use Rattle.rv_guest.specs.declared.ends.MachineEnd.{MachineEnd}
use Rattle.rv_guest.specs.declared.ends.MachineEnd.TheVariants.{Exit, Trap, Budget, Space, InFault, OutFault}
use Rattle.rv_guest.specs.Beside.{Beside}
use Rattle.rv_guest.specs.FlatRun.{FlatEnd, FlatExit, FlatTrap, FlatBudget, Outcome, Next, Exits, Traps, after_by, goes_on, run_by}
use Rattle.rv_guest.specs.Steps.{DoesBeat, MakesStep}
use Rattle.rv_guest.specs.FollowsFlat.{DoesGuest, EndsBy, FollowsFlat, StandsAfter}

-- a run of so many steps begins with one step
run_step : {F : Type 0} (step : F → Outcome F) (n m : ℕ) (s : F) → n ≡ suc m → run_by step n s ≡ goes_on (step s) s (run_by step m)
unfolding run_by
run_step step n m s e = rw e refl

run_none : {F : Type 0} (step : F → Outcome F) (n : ℕ) (s : F) → n ≡ 0 → run_by step n s ≡ (FlatBudget, s)
unfolding run_by
run_none step n s e = rw e refl

-- one step more
after_step : {F : Type 0} (step : F → Outcome F) (n m : ℕ) (s t u : F) → after_by step n s ≡ Some t → step t ≡ Next u → m ≡ suc n → after_by step m s ≡ Some u
unfolding after_by
after_step step n m s t u h e k = rw (k, h, e) refl

after_none : {F : Type 0} (step : F → Outcome F) (n : ℕ) (s : F) → n ≡ 0 → after_by step n s ≡ Some s
unfolding after_by
after_none step n s k = rw k refl

-- From its start a run has come to the state now, from which the rest of the flat run goes on.
record FollowsSoFar {G F : Type 0} (m : Beside G F) (budget : ℕ) (start now : G) (streams : Streams) : Type 0 where
  bytes : List ℕ
  wrote : Appends streams.output.before streams.output.after bytes
  left : (before : List ℕ) → streams.input.before ≡ Some before → List ℕ
  told : (before : List ℕ) (e : streams.input.before ≡ Some before) → streams.input.after ≡ Some (left before e)
  flat : (before : List ℕ) (e : streams.input.before ≡ Some before) (output : List ℕ)
      → run_by m.step (budget - m.retired start) (m.told start before output) ≡ run_by m.step (budget - m.retired now) (m.told now (left before e) (output ++ bytes))
  count : (before : List ℕ) (e : streams.input.before ≡ Some before) (output : List ℕ)
      → after_by m.step (m.retired now - m.retired start) (m.told start before output) ≡ Some (m.told now (left before e) (output ++ bytes))
  within : m.retired now ≤ budget
  later : m.retired start ≤ m.retired now
  faults : FaultsStay streams

module _ {G F : Type 0} (m : Beside G F) (budget : ℕ) where
  -- a run begins
  follows_none : (start : G) (s : Streams) → m.retired start ≤ budget → FollowsSoFar m budget start start (at_first s)
  follows_none start s within = record {
    bytes = [];
    wrote = appends_nothing s.output.before s.output.before refl;
    left = λ before e. before;
    told = λ before e. e;
    flat = λ before e output. ap (λ bytes. run_by m.step (budget - m.retired start) (m.told start before bytes)) (sym (append-nil output));
    count = λ before e output. after_none m.step (m.retired start - m.retired start) (m.told start before output) (omega arith) ∙ ap (λ bytes. Some (m.told start before bytes)) (sym (append-nil output));
    within = within;
    later = omega arith;
    faults = faults_first s;
  }

  -- an instruction after which the run goes on
  follows_on : (start a b : G) (first second : Streams) → FollowsSoFar m budget start a first → Meets first second → m.retired a < budget → FaultsStay second → MakesStep m a b second → FollowsSoFar m budget start b (over first second)
  follows_on start a b first second so meets lt faults did =
      let Told : List ℕ → Type 0 = λ bytes. (did.before ≡ bytes) × (second.input.after ≡ Some did.left) in
      let Tells : Option (List ℕ) → Type 0 = λ told. IfSome told Told in
      let told : (before : List ℕ) (e : first.input.before ≡ Some before) → Told (so.left before e) = λ before e. subst Tells (meets.input ∙ so.told before e) did.told in
      let step : (before : List ℕ) (e : first.input.before ≡ Some before) (output : List ℕ) → m.step (m.told a (so.left before e) output) ≡ Next (m.told b did.left (output ++ did.bytes)) =
      λ before e output. subst (λ bytes. m.step (m.told a bytes output) ≡ Next (m.told b did.left (output ++ did.bytes))) (told before e).0 (did.step output) in
      record {
        bytes = so.bytes ++ did.bytes;
        wrote = Appends-trans first.output.before first.output.after second.output.after so.bytes did.bytes so.wrote (rw (← meets.output) did.wrote);
        left = λ before e. did.left;
        told = λ before e. (told before e).1;
        flat = λ before e output.
            let out = output ++ so.bytes in
            let rest : budget - m.retired a ≡ suc (budget - m.retired b) = omega (arith, did.retired) in
            so.flat before e output ∙ run_step m.step (budget - m.retired a) (budget - m.retired b) (m.told a (so.left before e) out) rest
            ∙ ap (λ o. goes_on o (m.told a (so.left before e) out) (run_by m.step (budget - m.retired b))) (step before e out)
            ∙ ap (λ o. run_by m.step (budget - m.retired b) (m.told b did.left o)) (append_assoc output so.bytes did.bytes);
        count = λ before e output.
            let out = output ++ so.bytes in
            let more : m.retired b - m.retired start ≡ suc (m.retired a - m.retired start) = omega (arith, did.retired, so.later) in
            after_step m.step (m.retired a - m.retired start) (m.retired b - m.retired start) (m.told start before output) (m.told a (so.left before e) out) (m.told b did.left (out ++ did.bytes)) (so.count before e output) (step before e out) more
            ∙ ap (λ o. Some (m.told b did.left o)) (append_assoc output so.bytes did.bytes);
        within = omega (arith, did.retired);
        later = omega (arith, so.later, did.retired);
        faults = faults_join first second so.faults faults meets;
      }

  -- a stretch that leaves the guest and the streams
  follows_quiet : (start a b : G) (first second : Streams) → FollowsSoFar m budget start a first → Meets first second → FaultsStay second → b ≡ a → AreUntouched second → FollowsSoFar m budget start b (over first second)
  follows_quiet start a b first second so meets faults same quiet =
      rw same (record {
        bytes = so.bytes;
        wrote = rw (quiet.1, meets.output) so.wrote;
        left = so.left;
        told = λ before e. quiet.0 ∙ meets.input ∙ so.told before e;
        flat = so.flat;
        count = so.count;
        within = so.within;
        later = so.later;
        faults = faults_join first second so.faults faults meets;
      })

  -- the flat run ends with the step that stands next
  ends_by : (start a b : G) (end : FlatEnd) (outcome : List ℕ → List ℕ → Outcome F) (first second : Streams) → FollowsSoFar m budget start a first → Meets first second → m.retired a < budget → AreUntouched second
      → ((input output : List ℕ) → m.step (m.told a input output) ≡ outcome input output)
      → ((input output : List ℕ) → goes_on (outcome input output) (m.told a input output) (run_by m.step (budget - (m.retired a + 1))) ≡ (end, m.told b input output))
      → EndsBy m budget start end b (over first second)
  ends_by start a b end outcome first second so meets lt quiet step is = record {
    bytes = so.bytes;
    wrote = rw (quiet.1, meets.output) so.wrote;
    flat = λ before e. (
      so.left before e,
      quiet.0 ∙ meets.input ∙ so.told before e,
      λ output.
          let out = output ++ so.bytes in
          let rest : budget - m.retired a ≡ suc (budget - (m.retired a + 1)) = omega arith in
          so.flat before e output ∙ run_step m.step (budget - m.retired a) (budget - (m.retired a + 1)) (m.told a (so.left before e) out) rest
          ∙ ap (λ o. goes_on o (m.told a (so.left before e) out) (run_by m.step (budget - (m.retired a + 1)))) (step (so.left before e) out) ∙ is (so.left before e) out,
    );
  }

  -- the state is that of as many steps, and further bytes went out
  stands_after : (start a : G) (further : List ℕ) (first second : Streams) → FollowsSoFar m budget start a first → Meets first second → m.retired a < budget → Appends second.output.before second.output.after further
      → ((bytes : List ℕ) → second.input.before ≡ Some bytes → second.input.after ≡ Some bytes) → StandsAfter m budget start a further (over first second)
  stands_after start a further first second so meets lt wrote kept = record {
    allowed = lt;
    bytes = so.bytes;
    wrote = Appends-trans first.output.before first.output.after second.output.after so.bytes further so.wrote (rw (← meets.output) wrote);
    flat = λ before e. (so.left before e, kept (so.left before e) (meets.input ∙ so.told before e), so.count before e);
  }

  -- an instruction that ends the run
  follows_end : (start a b : G) (end : MachineEnd) (first second : Streams) → FollowsSoFar m budget start a first → Meets first second → m.retired a < budget → DoesBeat m a (Some end) b second → FollowsFlat m budget start end b (over first second)
  follows_end start a b (Exit status) first second so meets lt did = record {
    ends = ends_by start a b (FlatExit status) (λ input output. Exits status (m.told b input output)) first second so meets lt did.quiet did.step (λ input output. refl);
    within = omega (arith, did.retired);
  }
  follows_end start a b (Trap trap) first second so meets lt did = rw did.same (record {
    ends = (ends_by start a a (FlatTrap trap.cause trap.value) (λ input output. Traps trap.cause trap.value) first second so meets lt did.quiet did.step (λ input output. refl), did.pc_is);
    within = so.within;
  })
  follows_end start a b InFault first second so meets lt did = rw did.same (record {
    ends = record {
      at = did.at;
      count = did.count;
      call = did.call;
      after = stands_after start a [] first second so meets lt (appends_nothing second.output.before second.output.after did.output) (λ bytes e. rw e at did.fails.kept);
      rose = rose_since first.input.faults_before second.input.faults_before second.input.faults_now (omega (arith, so.faults.input, meets.in_faults)) did.fails.rose;
    };
    within = so.within;
  })
  follows_end start a b OutFault first second so meets lt did = rw did.same (record {
    ends = record {
      bytes = did.bytes;
      call = did.call;
      taken = did.fails.front.0;
      after = stands_after start a (take did.fails.front.0 did.bytes) first second so meets lt did.fails.front.1 (λ bytes e. did.input ∙ e);
      rose = rose_since first.output.faults_before second.output.faults_before second.output.faults_now (omega (arith, so.faults.output, meets.out_faults)) did.fails.rose;
    };
    within = so.within;
  })
  follows_end start a b (Space refusal) first second so meets lt did = rw did.0 (record {
    ends = stands_after start a [] first second so meets lt (appends_nothing second.output.before second.output.after did.1.1) (λ bytes e. did.1.0 ∙ e);
    within = so.within;
  })
  follows_end start a b Budget first second so meets lt did = absurd did

  -- the budget is used up
  follows_budget : (start a : G) (s : Streams) → FollowsSoFar m budget start a s → budget ≤ m.retired a → FollowsFlat m budget start Budget a s
  follows_budget start a s so used = record {
    ends = (
      record {
        bytes = so.bytes;
        wrote = so.wrote;
        flat = λ before e. (so.left before e, so.told before e, λ output. so.flat before e output ∙ run_none m.step (budget - m.retired a) (m.told a (so.left before e) (output ++ so.bytes)) (omega arith));
      },
      omega (arith, so.within),
    );
    within = so.within;
  }

-- The machine carries a guest: while this holds, each of its beats does so to the guest, and its runs end before a beat
-- exactly at the used-up budget.
pub record Carries {S G F : Type 0} (m : Beside G F) (guest : S → G) (Holds : S → Type 0) (stands : ℕ → S → Option (MachineEnd × S)) (Does : Beat → S → Option MachineEnd → S → Streams → Type 0) : Type 0 where
  pub holds : (beat : Beat) (a b : S) (streams : Streams) → Holds a → Does beat a None b streams → Holds b
  pub does : (beat : Beat) (a b : S) (result : Option MachineEnd) (streams : Streams) → Holds a → Does beat a result b streams → DoesGuest m beat (guest a) result (guest b) streams
  pub free : (budget : ℕ) (a : S) → stands budget a ≡ None → m.retired (guest a) < budget
  pub used : (budget : ℕ) (a b : S) (end : MachineEnd) → stands budget a ≡ Some (end, b) → (end ≡ Budget) × (guest b ≡ guest a) × (budget ≤ m.retired (guest a))

module _ {S G F : Type 0} (m : Beside G F) (guest : S → G) (Holds : S → Type 0) (stands : ℕ → S → Option (MachineEnd × S)) (Does : Beat → S → Option MachineEnd → S → Streams → Type 0) (carries : Carries m guest Holds stands Does) (word : List Beat) (budget : ℕ) where
  more : (start : G) (a b : Point S) (beat : Beat) → FollowsSoFar m budget start (guest a.state) a.streams → (by : PassesBeat stands Does budget beat a b) → DoesGuest m beat (guest a.state) None (guest b.state) by.streams
      → FollowsSoFar m budget start (guest b.state) (over a.streams by.streams)
  more start a b Hart so by did = follows_on m budget start (guest a.state) (guest b.state) a.streams by.streams so by.meets (carries.free budget a.state by.allowed) by.faults did
  more start a b Mover so by did = follows_quiet m budget start (guest a.state) (guest b.state) a.streams by.streams so by.meets by.faults did.same did.quiet
  more start a b Cleaner so by did = follows_quiet m budget start (guest a.state) (guest b.state) a.streams by.streams so by.meets by.faults did.same did.quiet

  so_far : (old : S) (s : Streams) (count : ℕ) (now : Point S) → Holds old → m.retired (guest old) ≤ budget → Passed (PassesBeat stands Does budget) word (point old (at_first s)) count now → FollowsSoFar m budget (guest old) (guest now.state) now.streams
  so_far old s zero now holds within same = rw same (follows_none m budget (guest old) s within)
  so_far old s (suc count) now holds within (mid, beat, passed, is, by) =
      let here = passed_holds stands Does word budget Holds carries.holds (point old (at_first s)) count mid holds passed in
      rw by.joined (more (guest old) mid now beat (so_far old s count mid holds within passed) by (carries.does beat mid.state now.state None by.streams here by.does))

  ended : (start : G) (a b : Point S) (beat : Beat) (end : MachineEnd) (second : Streams) → FollowsSoFar m budget start (guest a.state) a.streams → stands budget a.state ≡ None → Meets a.streams second
      → DoesGuest m beat (guest a.state) (Some end) (guest b.state) second → FollowsFlat m budget start end (guest b.state) (over a.streams second)
  ended start a b Hart end second so allowed meets did = follows_end m budget start (guest a.state) (guest b.state) end a.streams second so meets (carries.free budget a.state allowed) did
  ended start a b Mover end second so allowed meets did = absurd (let no = did.none in cc)
  ended start a b Cleaner end second so allowed meets did = absurd (let no = did.none in cc)

  -- a run of a machine that carries a guest follows the guest's flat run
  pub follows : (old : S) (end : MachineEnd) (new : S) (s : Streams) → Holds old → m.retired (guest old) ≤ budget → Runs stands Does word budget old end new s → FollowsFlat m budget (guest old) end (guest new) s
  follows old end new s holds within runs =
      let so = so_far old s runs.count runs.before holds within runs.passed in
      let here = passed_holds stands Does word budget Holds carries.holds (point old (at_first s)) runs.count runs.before holds runs.passed in
      elim runs.ends [
        | inl by ↦ rw by.joined (ended (guest old) runs.before (point new s) by.beat end by.streams so by.allowed by.meets (carries.does by.beat runs.before.state new (Some end) by.streams here by.does))
        | inr by ↦
            (let used = carries.used budget runs.before.state new end by.stands_so in
            rw (used.0, used.1, by.quiet) (follows_budget m budget (guest old) (guest runs.before.state) runs.before.streams so used.2))
      ]
