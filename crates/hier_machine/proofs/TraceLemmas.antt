-- A run of a trace, beat by beat.
use Rattle.std.proofs.Common.{◌≡◌, ◌⊎◌, ◌<◌, ◌≤◌, ◌+◌, ◌∙◌, ℕ, zero, suc, Bool, true, false, cond, nat_lt, List, [], ◌∷◌, ◌++◌, take, drop, slice_get, Option, Some, None, Result, Ok, Err, IfErr, ltb, refl, sym, ap, subst, arith, append_assoc, inl, inr}
use Rattle.std.proofs.KnownBytes.{Appends-trans}
use Rattle.std.proofs.lemmas.Bool.{cases_Bool, cond-false, cond-true}
use Rattle.std.proofs.lemmas.List.{append-nil}
use Rattle.std.proofs.lemmas.Option.{none-some, same_Some}
use Rattle.std.specs.Io.KnownBytes.{Appends}
use Rattle.hier_types.specs.declared.access.Access.{Access}
use Rattle.hier_types.specs.declared.beats.Beat.{Beat}
use Rattle.hier_types.specs.declared.beats.Beat.TheVariants.{Hart, Mover, Cleaner}
use Rattle.hier_types.specs.declared.faults.NoSpace.{NoSpace}
use Rattle.hier_types.specs.declared.settings.Settings.{Settings}
use Rattle.hier_types.specs.Beats.{is_cleaner, is_mover}
use Rattle.hier_types.specs.Causes.{raised}
use Rattle.hier_types.specs.Span.{Span}
use Rattle.hier_types.specs.Streams.{IsUntouched, Stream, Streams, at_first, over}
use Rattle.hier_types.proofs.CauseLemmas.{rose_since}
use Rattle.hier_types.proofs.StreamLemmas.{appends_nothing}
use Rattle.beat_runs.specs.Points.{PassesBeat, Point, Runs, point, retired_by}
use Rattle.beat_runs.proofs.PointLemmas.{points_hold, run_as, run_holds, run_turns}
use Rattle.beat_runs.proofs.StandLemmas.{is_below}
use Rattle.page_store.specs.Crowds.{Crowded}
use Rattle.page_store.specs.Store as pages
use Rattle.page_store.specs.Store.{Sizing, sizing_of}
use Rattle.rv_core.specs.Accesses.{accessed, value_of}
use Rattle.rv_guest.specs.State.{GuestState}
use Rattle.hier_machine.specs.declared.ends.TraceEnd.{TraceEnd}
use Rattle.hier_machine.specs.declared.ends.TraceEnd.TheVariants.{Done, Budget, Space, OutFault}
use Rattle.hier_machine.specs.Accesses.{DoesAccess, after_access}
use Rattle.hier_machine.specs.Beats.{KeepsSettings, TurnsStay}
use Rattle.hier_machine.specs.Lists.{ShowsBytes, lists_of}
use Rattle.hier_machine.specs.Memory.{guest_bytes, store_of}
use Rattle.hier_machine.specs.Start.{StartsEmpty}
use Rattle.hier_machine.specs.State.{MachineState, mover_turns_of}
use Rattle.hier_machine.specs.Traces.{FollowsAccesses, IsCrowdedAtEnd, IsPrintedSoFar, MakesAccess, RunsTrace, TellsAccess, TraceBeats, TraceState, bytes_after, printed_by, trace_end, trace_stands, with_state, zeros}
use Rattle.hier_machine.proofs.MemoryLemmas.{start_bytes}
use Rattle.hier_machine.proofs.RunLemmas.{cleaner_on, keeps_settings, mover_on, settings_join, settings_same}

-- the next access behind so many
drop_next : (all : List Access) (made : ℕ) (access : Access) (rest : List Access) → drop made all ≡ access ∷ rest → drop (suc made) all ≡ rest
drop_next [] made access rest e = absurd (none_left made e)
  where
    none_left : (made : ℕ) → drop made [] ≡ access ∷ rest → ⊥
    none_left zero e = cc
    none_left (suc made) e = cc
drop_next (a ∷ all) zero access rest e = cc
drop_next (a ∷ all) (suc made) access rest e = drop_next all made access rest e

get_next : (all : List Access) (made : ℕ) (access : Access) (rest : List Access) → drop made all ≡ access ∷ rest → slice_get all made ≡ Some access
get_next [] zero access rest e = cc
get_next [] (suc made) access rest e = cc
get_next (a ∷ all) zero access rest e = let same : a ≡ access = cc in rw same refl
get_next (a ∷ all) (suc made) access rest e = get_next all made access rest e

-- the bytes after one access more
bytes_next : (span : Span) (all : List Access) (made : ℕ) (access : Access) (rest : List Access) (bytes : List ℕ) → drop made all ≡ access ∷ rest
    → bytes_after span (take (suc made) all) bytes ≡ accessed span access (bytes_after span (take made all) bytes)
bytes_next span [] zero access rest bytes e = cc
bytes_next span [] (suc made) access rest bytes e = cc
bytes_next span (a ∷ all) zero access rest bytes e = let same : a ≡ access = cc in rw same refl
bytes_next span (a ∷ all) (suc made) access rest bytes e = bytes_next span all made access rest (accessed span a bytes) e

-- and what is printed with it
printed_next : (printed : Access → ℕ → List ℕ) (span : Span) (all : List Access) (made : ℕ) (access : Access) (rest : List Access) (bytes : List ℕ) → drop made all ≡ access ∷ rest
    → printed_by printed span (take (suc made) all) bytes ≡ printed_by printed span (take made all) bytes ++ printed access (value_of span access (bytes_after span (take made all) bytes))
printed_next printed span [] zero access rest bytes e = cc
printed_next printed span [] (suc made) access rest bytes e = cc
printed_next printed span (a ∷ all) zero access rest bytes e = let same : a ≡ access = cc in rw same (append-nil (printed access (value_of span access bytes)))
printed_next printed span (a ∷ all) (suc made) access rest bytes e =
    let line = printed a (value_of span a bytes) in
    let more = accessed span a bytes in
    ap (λ l. line ++ l) (printed_next printed span all made access rest more e)
    ∙ sym (append_assoc line (printed_by printed span (take made all) more) (printed access (value_of span access (bytes_after span (take made all) more))))

-- a stretch that took nothing follows, or one that took more
appends_quiet : (before mid from after : Option (List ℕ)) (text : List ℕ) → Appends before mid text → from ≡ mid → after ≡ from → Appends before after text
appends_quiet before mid from after text h meets same = subst (λ s. Appends before s text) (sym (same ∙ meets)) h

appends_on : (before mid from after : Option (List ℕ)) (text more : List ℕ) → Appends before mid text → from ≡ mid → Appends from after more → Appends before after (text ++ more)
appends_on before mid from after text more h meets k = Appends-trans before mid after text more h (subst (λ s. Appends s after more) meets k)

suc_is : (n : ℕ) → n + 1 ≡ suc n
suc_is n = omega arith

-- where a beat is made, the budget is not used up
pub trace_free : (budget : ℕ) (s : TraceState) → trace_stands budget s ≡ None → s.machine.guest.retired < budget
trace_free budget s free = by_left s.left free
  where
    by_test : (test : Bool) → with_state s (cond test None (Some Budget)) ≡ None → test ≡ true
    by_test true e = refl
    by_test false e = absurd (let no = e in cc)

    by_left : (left : List Access) → with_state s (trace_end budget s.machine.guest.retired left) ≡ None → s.machine.guest.retired < budget
    by_left [] e = absurd (let no = e in cc)
    by_left (access ∷ rest) e = is_below s.machine.guest.retired budget (by_test (nat_lt s.machine.guest.retired budget) e)

-- where a trace ends before a beat, it leaves the state
pub trace_stop : (budget : ℕ) (a b : TraceState) (end : TraceEnd) → trace_stands budget a ≡ Some (end, b) → (b ≡ a) × ((end ≡ Done) ⊎ (end ≡ Budget))
trace_stop budget a b end stop = by_end (trace_end budget a.machine.guest.retired a.left) refl stop
  where
    done_or_used : (left : List Access) (found : TraceEnd) → trace_end budget a.machine.guest.retired left ≡ Some found → (found ≡ Done) ⊎ (found ≡ Budget)
    done_or_used [] found e = inl cc
    done_or_used (access ∷ rest) found e = by_test (nat_lt a.machine.guest.retired budget) e
      where
        by_test : (test : Bool) → cond {A = Option TraceEnd} test None (Some Budget) ≡ Some found → (found ≡ Done) ⊎ (found ≡ Budget)
        by_test true e = absurd (let no = e in cc)
        by_test false e = inr cc

    by_end : (found : Option TraceEnd) → trace_end budget a.machine.guest.retired a.left ≡ found → with_state a found ≡ Some (end, b) → (b ≡ a) × ((end ≡ Done) ⊎ (end ≡ Budget))
    by_end None is e = absurd (let no = e in cc)
    by_end (Some found) is e =
        let one : TraceEnd × TraceState = (found, a) in
        let other : TraceEnd × TraceState = (end, b) in
        let both : Some one ≡ Some other = e in
        let pairs : one ≡ other = cc in
        let ends : found ≡ end = ap (λ (p : TraceEnd × TraceState). p.0) pairs in
        (sym (ap (λ (p : TraceEnd × TraceState). p.1) pairs), subst (λ (x : TraceEnd). (x ≡ Done) ⊎ (x ≡ Budget)) ends (done_or_used a.left found is))

-- no beat changes the settings, and only turns are counted as such
trace_keeps : (printed : Access → ℕ → List ℕ) (sizing : Sizing) (beat : Beat) (a b : TraceState) (result : Option TraceEnd) (s : Streams) → TraceBeats printed sizing beat a result b s → KeepsSettings a.machine b.machine
trace_keeps printed sizing Hart a b result s h = h.tries.machine.stays
trace_keeps printed sizing Mover a b result s h = keeps_settings Mover a.machine b.machine None s h.machine
trace_keeps printed sizing Cleaner a b result s h = keeps_settings Cleaner a.machine b.machine None s h.machine

mover_turns_on : (printed : Access → ℕ → List ℕ) (sizing : Sizing) (beat : Beat) (a b : TraceState) (s : Streams) → TraceBeats printed sizing beat a None b s → mover_turns_of b.machine ≡ cond (is_mover beat) (raised (mover_turns_of a.machine)) (mover_turns_of a.machine)
mover_turns_on printed sizing Hart a b s h = h.tries.machine.turns.mover
mover_turns_on printed sizing Mover a b s h = mover_on Mover a.machine b.machine s h.machine
mover_turns_on printed sizing Cleaner a b s h = mover_on Cleaner a.machine b.machine s h.machine

cleaner_turns_on : (printed : Access → ℕ → List ℕ) (sizing : Sizing) (beat : Beat) (a b : TraceState) (s : Streams) → TraceBeats printed sizing beat a None b s → b.machine.cleaner_turns ≡ cond (is_cleaner beat) (raised a.machine.cleaner_turns) a.machine.cleaner_turns
cleaner_turns_on printed sizing Hart a b s h = h.tries.machine.turns.cleaner
cleaner_turns_on printed sizing Mover a b s h = cleaner_on Mover a.machine b.machine s h.machine
cleaner_turns_on printed sizing Cleaner a b s h = cleaner_on Cleaner a.machine b.machine s h.machine

-- a beat that ends a trace is the hart's
turns_end : (printed : Access → ℕ → List ℕ) (sizing : Sizing) (beat : Beat) (a b : TraceState) (end : TraceEnd) (s : Streams) → TraceBeats printed sizing beat a (Some end) b s → TurnsStay a.machine b.machine
turns_end printed sizing Hart a b end s h = h.tries.machine.turns
turns_end printed sizing Mover a b end s h = absurd (let no = h.none in cc)
turns_end printed sizing Cleaner a b end s h = absurd (let no = h.none in cc)

turns_stop : (budget : ℕ) (a b : TraceState) (end : TraceEnd) → trace_stands budget a ≡ Some (end, b) → TurnsStay a.machine b.machine
turns_stop budget a b end stop =
    let same = (trace_stop budget a b end stop).0 in
    record { mover = ap (λ (s : TraceState). mover_turns_of s.machine) same; cleaner = ap (λ (s : TraceState). s.machine.cleaner_turns) same }

-- a beat of another leaves the machine running, and one of the hart's that ends nothing is counted
pub trace_goes_on : (printed : Access → ℕ → List ℕ) (sizing : Sizing) (beat : Beat) (a b : TraceState) (s : Streams) → TraceBeats printed sizing beat a None b s → b.machine.guest.retired ≡ retired_by beat a.machine.guest.retired
trace_goes_on printed sizing Hart a b s h = counted h.answer h.tries.machine.does h.tells
  where
    counted : (answer : Result ℕ NoSpace) → DoesAccess a.machine.memory.span h.access a.machine.guest answer b.machine.guest → TellsAccess printed h.access h.rest answer None b.left s.output → b.machine.guest.retired ≡ a.machine.guest.retired + 1
    counted (Ok value) does tells = ap (λ (g : GuestState). g.retired) does.1
    counted (Err refusal) does tells = absurd tells
trace_goes_on printed sizing Mover a b s h = ap (λ (t : MachineState). t.guest.retired) h.machine.rest
trace_goes_on printed sizing Cleaner a b s h = ap (λ (t : MachineState). t.guest.retired) h.machine.rest

-- a machine of zeros shows its bytes
pub empty_shows : (settings : Settings) (s : MachineState) → StartsEmpty settings s → ShowsBytes (lists_of s)
empty_shows settings s starts = starts.bytes ∙ sym (ap guest_bytes starts.memory ∙ start_bytes settings)

module _ (printed : Access → ℕ → List ℕ) (budget : ℕ) (word : List Beat) where
  -- a run of the trace, where each beat speaks of its own store's size
  pub trace_run : (old : TraceState) (end : TraceEnd) (new : TraceState) (streams : Streams) → ShowsBytes (lists_of old.machine)
      → Runs trace_stands (λ beat a result b s. TraceBeats printed (sizing_of (store_of a.machine.memory)) beat a result b s) word budget old end new streams → RunsTrace printed budget word old end new streams
  trace_run old end new streams shows own =
      let sizing = sizing_of (store_of old.machine.memory) in
      let first = point old (at_first streams) in
      let last = point new streams in
      let r : Runs trace_stands (TraceBeats printed sizing) word budget old end new streams =
      run_as trace_stands (λ beat a result b s. TraceBeats printed (sizing_of (store_of a.machine.memory)) beat a result b s) (TraceBeats printed sizing) word budget (λ (t : TraceState). sizing_of (store_of t.machine.memory) ≡ sizing)
      (λ beat a b s is h. (trace_keeps printed (sizing_of (store_of a.machine.memory)) beat a b None s h).sizing ∙ is)
      (λ beat a b result s is h. subst (λ (k : Sizing). TraceBeats printed k beat a result b s) is h) first end last refl own in
      record {
        shows = shows;
        run = r;
        turns = record {
          mover = run_turns trace_stands (TraceBeats printed sizing) word budget is_mover (λ (t : TraceState). mover_turns_of t.machine) (mover_turns_on printed sizing) (λ beat a b e s h. (turns_end printed sizing beat a b e s h).mover)
              (λ a b e stop. (turns_stop budget a b e stop).mover) first end last r;
          cleaner = run_turns trace_stands (TraceBeats printed sizing) word budget is_cleaner (λ (t : TraceState). t.machine.cleaner_turns) (cleaner_turns_on printed sizing) (λ beat a b e s h. (turns_end printed sizing beat a b e s h).cleaner)
              (λ a b e stop. (turns_stop budget a b e stop).cleaner) first end last r;
        };
        stays = run_holds trace_stands (TraceBeats printed sizing) word budget (λ (t : TraceState). KeepsSettings old.machine t.machine) (λ beat a b result s so h. settings_join old.machine a.machine b.machine so (trace_keeps printed sizing beat a b result s h))
            (λ a b e so stop. subst (λ (t : TraceState). KeepsSettings old.machine t.machine) (sym (trace_stop budget a b e stop).0) so) first end last (settings_same old.machine) r;
      }

  module _ (sizing : Sizing) (span : Span) (all : List Access) where
    -- By the accesses alone: what a trace has come to at a point.
    record ComesTo (p : Point TraceState) : Type 0 where
      span_is : p.state.machine.memory.span ≡ span
      memory : p.state.machine.guest.hart.bytes ≡ bytes_after span (take p.state.machine.guest.retired all) (zeros span)
      rest : p.state.left ≡ drop p.state.machine.guest.retired all
      within : p.state.machine.guest.retired ≤ budget
      output : Appends p.streams.output.before p.streams.output.after (printed_by printed span (take p.state.machine.guest.retired all) (zeros span))
      input : IsUntouched p.streams.input
      faults : p.streams.output.faults_before ≤ p.streams.output.faults_now

    -- a beat that leaves the guest, the accesses and the streams
    idles : (a : Point TraceState) (b : TraceState) (second : Streams) → ComesTo a → b.machine.memory.span ≡ a.state.machine.memory.span → b.machine.guest ≡ a.state.machine.guest → b.left ≡ a.state.left
        → second.output.before ≡ a.streams.output.after → second.input.before ≡ a.streams.input.after → second.output.faults_before ≡ a.streams.output.faults_now → IsUntouched second.output → IsUntouched second.input → second.output.faults_before ≤ second.output.faults_now
        → ComesTo (point b (over a.streams second))
    idles a b second so spans guest left out_meets in_meets faults_meet output input faults =
        let retired : b.machine.guest.retired ≡ a.state.machine.guest.retired = ap (λ (g : GuestState). g.retired) guest in
        record {
          span_is = spans ∙ so.span_is;
          memory = subst (λ (g : GuestState). g.hart.bytes ≡ bytes_after span (take g.retired all) (zeros span)) (sym guest) so.memory;
          rest = left ∙ so.rest ∙ ap (λ n. drop n all) (sym retired);
          within = omega (arith, retired, so.within);
          output = subst (λ n. Appends a.streams.output.before second.output.after (printed_by printed span (take n all) (zeros span))) (sym retired)
              (appends_quiet a.streams.output.before a.streams.output.after second.output.before second.output.after (printed_by printed span (take a.state.machine.guest.retired all) (zeros span)) so.output out_meets output);
          input = input ∙ in_meets ∙ so.input;
          faults = omega (arith, so.faults, faults_meet, faults);
        }

    -- an access that was made
    module _ (a : Point TraceState) (access : Access) (rest : List Access) (so : ComesTo a) (next : a.state.left ≡ access ∷ rest) (b : GuestState) (does : b ≡ after_access a.state.machine.memory.span access a.state.machine.guest) where
      here : drop a.state.machine.guest.retired all ≡ access ∷ rest
      here = sym so.rest ∙ next

      retired_next : b.retired ≡ suc a.state.machine.guest.retired
      retired_next = ap (λ (g : GuestState). g.retired) does ∙ suc_is a.state.machine.guest.retired

      does_span : b ≡ after_access span access a.state.machine.guest
      does_span = subst (λ (s : Span). b ≡ after_access s access a.state.machine.guest) so.span_is does

      bytes_made : b.hart.bytes ≡ bytes_after span (take b.retired all) (zeros span)
      bytes_made =
          ap (λ (g : GuestState). g.hart.bytes) does_span ∙ ap (accessed span access) so.memory
          ∙ sym (bytes_next span all a.state.machine.guest.retired access rest (zeros span) here)
          ∙ ap (λ k. bytes_after span (take k all) (zeros span)) (sym retired_next)

      rest_made : rest ≡ drop b.retired all
      rest_made = sym (drop_next all a.state.machine.guest.retired access rest here) ∙ ap (λ k. drop k all) (sym retired_next)

      line_is : printed access (value_of a.state.machine.memory.span access a.state.machine.guest.hart.bytes) ≡ printed access (value_of span access (bytes_after span (take a.state.machine.guest.retired all) (zeros span)))
      line_is = ap (λ (s : Span). printed access (value_of s access a.state.machine.guest.hart.bytes)) so.span_is ∙ ap (λ (l : List ℕ). printed access (value_of span access l)) so.memory

      text_made : printed_by printed span (take a.state.machine.guest.retired all) (zeros span) ++ printed access (value_of a.state.machine.memory.span access a.state.machine.guest.hart.bytes)
          ≡ printed_by printed span (take b.retired all) (zeros span)
      text_made =
          ap (λ l. printed_by printed span (take a.state.machine.guest.retired all) (zeros span) ++ l) line_is ∙ sym (printed_next printed span all a.state.machine.guest.retired access rest (zeros span) here)
          ∙ ap (λ k. printed_by printed span (take k all) (zeros span)) (sym retired_next)

    -- the state and the streams after an access that was made and printed
    accessed_on : (a : Point TraceState) (b : TraceState) (second : Streams) (h : MakesAccess printed sizing a.state None b second) → ComesTo a → a.state.machine.guest.retired < budget
        → second.output.before ≡ a.streams.output.after → second.input.before ≡ a.streams.input.after → second.output.faults_before ≡ a.streams.output.faults_now → second.output.faults_before ≤ second.output.faults_now → ComesTo (point b (over a.streams second))
    accessed_on a b second h so lt out_meets in_meets faults_meet faults = by_answer h.answer h.tries.machine.does h.tells
      where
        by_answer : (answer : Result ℕ NoSpace) → DoesAccess a.state.machine.memory.span h.access a.state.machine.guest answer b.machine.guest → TellsAccess printed h.access h.rest answer None b.left second.output → ComesTo (point b (over a.streams second))
        by_answer (Ok value) does tells = record {
          span_is = h.tries.machine.stays.span ∙ so.span_is;
          memory = bytes_made a h.access h.rest so h.next b.machine.guest does.1;
          rest = tells.0 ∙ rest_made a h.access h.rest so h.next b.machine.guest does.1;
          within = omega (arith, retired_next a h.access h.rest so h.next b.machine.guest does.1, lt);
          output = subst (λ t. Appends a.streams.output.before second.output.after t) (text_made a h.access h.rest so h.next b.machine.guest does.1)
              (appends_on a.streams.output.before a.streams.output.after second.output.before second.output.after (printed_by printed span (take a.state.machine.guest.retired all) (zeros span)) (printed h.access (value_of a.state.machine.memory.span h.access a.state.machine.guest.hart.bytes)) so.output out_meets
              (subst (λ v. Appends second.output.before second.output.after (printed h.access v)) does.0 tells.1));
          input = h.input ∙ in_meets ∙ so.input;
          faults = omega (arith, so.faults, faults_meet, faults);
        }
        by_answer (Err refusal) does tells = absurd tells

    one_beat : (beat : Beat) (a b : Point TraceState) → ComesTo a → PassesBeat trace_stands (TraceBeats printed sizing) budget beat a b → ComesTo b
    one_beat beat a b so by = subst (λ (s : Streams). ComesTo (point b.state s)) (sym by.joined) (by_beat beat by.does)
      where
        by_beat : (beat : Beat) → TraceBeats printed sizing beat a.state None b.state by.streams → ComesTo (point b.state (over a.streams by.streams))
        by_beat Hart h = accessed_on a b.state by.streams h so (trace_free budget a.state by.allowed) by.meets.output by.meets.input by.meets.out_faults by.faults.output
        by_beat Mover h = idles a b.state by.streams so (keeps_settings Mover a.state.machine b.state.machine None by.streams h.machine).span (ap (λ (t : MachineState). t.guest) h.machine.rest) h.left
            by.meets.output by.meets.input by.meets.out_faults h.machine.quiet.1 h.machine.quiet.0 by.faults.output
        by_beat Cleaner h = idles a b.state by.streams so (keeps_settings Cleaner a.state.machine b.state.machine None by.streams h.machine).span (ap (λ (t : MachineState). t.guest) h.machine.rest) h.left
            by.meets.output by.meets.input by.meets.out_faults h.machine.quiet.1 h.machine.quiet.0 by.faults.output

    -- a point at which all was printed
    follows_at : (end : TraceEnd) (p : Point TraceState) → ComesTo p → IsPrintedSoFar printed span all p.state.machine.guest.retired p.streams.output end → FollowsAccesses printed budget span all end p.state p.streams
    follows_at end p so output = record { memory = so.memory; rest = so.rest; within = so.within; output = output; input = so.input }

    -- the last access was made, and the output failed at its line
    fails_at : (a : Point TraceState) (b : TraceState) (second : Streams) (h : MakesAccess printed sizing a.state (Some OutFault) b second) → ComesTo a → a.state.machine.guest.retired < budget
        → second.output.before ≡ a.streams.output.after → second.input.before ≡ a.streams.input.after → second.output.faults_before ≡ a.streams.output.faults_now → FollowsAccesses printed budget span all OutFault b (over a.streams second)
    fails_at a b second h so lt out_meets in_meets faults_meet = by_answer h.answer h.tries.machine.does h.tells
      where
        by_answer : (answer : Result ℕ NoSpace) → DoesAccess a.state.machine.memory.span h.access a.state.machine.guest answer b.machine.guest → TellsAccess printed h.access h.rest answer (Some OutFault) b.left second.output → FollowsAccesses printed budget span all OutFault b (over a.streams second)
        by_answer (Ok value) does tells =
            let line : printed h.access value ≡ printed h.access (value_of span h.access (bytes_after span (take a.state.machine.guest.retired all) (zeros span))) =
            ap (printed h.access) does.0 ∙ line_is a h.access h.rest so h.next b.machine.guest does.1 in
            let (taken, front) = tells.2.front in
            record {
              memory = bytes_made a h.access h.rest so h.next b.machine.guest does.1;
              rest = tells.0 ∙ rest_made a h.access h.rest so h.next b.machine.guest does.1;
              within = omega (arith, retired_next a h.access h.rest so h.next b.machine.guest does.1, lt);
              output = record {
                before = a.state.machine.guest.retired;
                last = retired_next a h.access h.rest so h.next b.machine.guest does.1;
                access = h.access;
                is = get_next all a.state.machine.guest.retired h.access h.rest (here a h.access h.rest so h.next b.machine.guest does.1);
                load = tells.1;
                taken = taken;
                wrote = appends_on a.streams.output.before a.streams.output.after second.output.before second.output.after (printed_by printed span (take a.state.machine.guest.retired all) (zeros span))
                    (take taken (printed h.access (value_of span h.access (bytes_after span (take a.state.machine.guest.retired all) (zeros span))))) so.output out_meets
                    (subst (λ l. Appends second.output.before second.output.after (take taken l)) line front);
                rose = rose_since a.streams.output.faults_before second.output.faults_before second.output.faults_now (omega (arith, so.faults, faults_meet)) tells.2.rose;
              };
              input = h.input ∙ in_meets ∙ so.input;
            }
        by_answer (Err refusal) does tells = absurd tells

    -- the next access was refused
    refused_at : (a : Point TraceState) (b : TraceState) (given : NoSpace) (second : Streams) (h : MakesAccess printed sizing a.state (Some (Space given)) b second) → ComesTo a
        → second.output.before ≡ a.streams.output.after → second.input.before ≡ a.streams.input.after → second.output.faults_before ≡ a.streams.output.faults_now → second.output.faults_before ≤ second.output.faults_now
        → FollowsAccesses printed budget span all (Space given) b (over a.streams second)
    refused_at a b given second h so out_meets in_meets faults_meet faults = by_answer h.answer h.tries.machine.does h.tells
      where
        by_answer : (answer : Result ℕ NoSpace) → DoesAccess a.state.machine.memory.span h.access a.state.machine.guest answer b.machine.guest → TellsAccess printed h.access h.rest answer (Some (Space given)) b.left second.output → FollowsAccesses printed budget span all (Space given) b (over a.streams second)
        by_answer (Ok value) does tells = absurd tells
        by_answer (Err refusal) does tells =
            let now = idles a b second so h.tries.machine.stays.span does (tells.0 ∙ sym h.next) out_meets in_meets faults_meet tells.2 h.input faults in
            follows_at (Space given) (point b (over a.streams second)) now now.output

    -- no other end comes of an access
    never_so : (a : Point TraceState) (b : TraceState) (end : TraceEnd) (second : Streams) (h : MakesAccess printed sizing a.state (Some end) b second) → (end ≡ Done) ⊎ (end ≡ Budget) → ⊥
    never_so a b end second h is = by_end h.answer end h.tells is
      where
        by_end : (answer : Result ℕ NoSpace) (end : TraceEnd) → TellsAccess printed h.access h.rest answer (Some end) b.left second.output → (end ≡ Done) ⊎ (end ≡ Budget) → ⊥
        by_end (Ok value) Done tells is = tells
        by_end (Ok value) Budget tells is = tells
        by_end (Ok value) (Space given) tells is = tells
        by_end (Ok value) OutFault tells (inl e) = cc
        by_end (Ok value) OutFault tells (inr e) = cc
        by_end (Err refusal) Done tells is = tells
        by_end (Err refusal) Budget tells is = tells
        by_end (Err refusal) (Space given) tells (inl e) = cc
        by_end (Err refusal) (Space given) tells (inr e) = cc
        by_end (Err refusal) OutFault tells is = tells

    last_beat : (a b : Point TraceState) (end : TraceEnd) (beat : Beat) (second : Streams) → ComesTo a → a.state.machine.guest.retired < budget → second.output.before ≡ a.streams.output.after → second.input.before ≡ a.streams.input.after → second.output.faults_before ≡ a.streams.output.faults_now
        → second.output.faults_before ≤ second.output.faults_now → TraceBeats printed sizing beat a.state (Some end) b.state second → FollowsAccesses printed budget span all end b.state (over a.streams second)
    last_beat a b OutFault Hart second so lt out_meets in_meets faults_meet faults h = fails_at a b.state second h so lt out_meets in_meets faults_meet
    last_beat a b (Space given) Hart second so lt out_meets in_meets faults_meet faults h = refused_at a b.state given second h so out_meets in_meets faults_meet faults
    last_beat a b Done Hart second so lt out_meets in_meets faults_meet faults h = absurd (never_so a b.state Done second h (inl refl))
    last_beat a b Budget Hart second so lt out_meets in_meets faults_meet faults h = absurd (never_so a b.state Budget second h (inr refl))
    last_beat a b end Mover second so lt out_meets in_meets faults_meet faults h = absurd (let no = h.none in cc)
    last_beat a b end Cleaner second so lt out_meets in_meets faults_meet faults h = absurd (let no = h.none in cc)

    -- an end before a beat
    stopped : (a : Point TraceState) (end : TraceEnd) → ComesTo a → (end ≡ Done) ⊎ (end ≡ Budget) → FollowsAccesses printed budget span all end a.state a.streams
    stopped a end so (inl is) = subst (λ (e : TraceEnd). FollowsAccesses printed budget span all e a.state a.streams) (sym is) (follows_at Done a so so.output)
    stopped a end so (inr is) = subst (λ (e : TraceEnd). FollowsAccesses printed budget span all e a.state a.streams) (sym is) (follows_at Budget a so so.output)

    -- a run of a trace that began over zeros follows its accesses
    pub follows_accesses : (old : TraceState) (end : TraceEnd) (new : TraceState) (streams : Streams) → old.machine.memory.span ≡ span → old.machine.guest.hart.bytes ≡ zeros span → old.machine.guest.retired ≡ 0 → old.left ≡ all
        → Runs trace_stands (TraceBeats printed sizing) word budget old end new streams → FollowsAccesses printed budget span all end new streams
    follows_accesses old end new streams spans bytes retired left r =
        let first = point old (at_first streams) in
        let begins : ComesTo first = record {
          span_is = spans;
          memory = subst (λ n. old.machine.guest.hart.bytes ≡ bytes_after span (take n all) (zeros span)) (sym retired) bytes;
          rest = left ∙ subst (λ n. all ≡ drop n all) (sym retired) refl;
          within = omega (arith, retired);
          output = subst (λ n. Appends streams.output.before streams.output.before (printed_by printed span (take n all) (zeros span))) (sym retired) (appends_nothing streams.output.before streams.output.before refl);
          input = refl;
          faults = omega arith;
        } in
        let before = points_hold (PassesBeat trace_stands (TraceBeats printed sizing) budget) word ComesTo one_beat first r.count r.before begins r.passed in
        elim r.ends [
          | inl by ↦ subst (λ (s : Streams). FollowsAccesses printed budget span all end new s) (sym by.joined)
              (last_beat r.before (point new streams) end by.beat by.streams before (trace_free budget r.before.state by.allowed) by.meets.output by.meets.input by.meets.out_faults by.faults.output by.does)
          | inr by ↦
              (let stop = trace_stop budget r.before.state new end by.stands_so in
              subst (λ (s : Streams). FollowsAccesses printed budget span all end new s) (sym by.quiet)
              (subst (λ (t : TraceState). FollowsAccesses printed budget span all end t r.before.streams) (sym stop.0) (stopped r.before end before stop.1)))
        ]

-- where a trace ends with a refusal, the store is crowded for it
access_crowded : (printed : Access → ℕ → List ℕ) (access : Access) (rest left : List Access) (answer : Result ℕ NoSpace) (end : TraceEnd) (out : Stream) (store : pages.Store)
    → IfErr answer (Crowded store) → TellsAccess printed access rest answer (Some end) left out → IsCrowdedAtEnd store end
access_crowded printed access rest left answer Done out store cause tells = tt
access_crowded printed access rest left answer Budget out store cause tells = tt
access_crowded printed access rest left answer OutFault out store cause tells = tt
access_crowded printed access rest left (Ok value) (Space given) out store cause tells = absurd tells
access_crowded printed access rest left (Err refusal) (Space given) out store cause tells = subst (Crowded store) (sym tells.1) cause

trace_beat_crowded : (printed : Access → ℕ → List ℕ) (sizing : Sizing) (beat : Beat) (a b : TraceState) (end : TraceEnd) (s : Streams) → TraceBeats printed sizing beat a (Some end) b s
    → IsCrowdedAtEnd (store_of b.machine.memory) end
trace_beat_crowded printed sizing Hart a b end s h = access_crowded printed h.access h.rest b.left h.answer end s.output (store_of b.machine.memory) h.tries.machine.cause.justified h.tells
trace_beat_crowded printed sizing Mover a b end s h = absurd (none-some end (sym h.none))
trace_beat_crowded printed sizing Cleaner a b end s h = absurd (none-some end (sym h.none))

trace_end_crowded : (budget made : ℕ) (left : List Access) (end : TraceEnd) (store : pages.Store) → trace_end budget made left ≡ Some end → IsCrowdedAtEnd store end
trace_end_crowded budget made left Done store is = tt
trace_end_crowded budget made left Budget store is = tt
trace_end_crowded budget made left OutFault store is = tt
trace_end_crowded budget made [] (Space refusal) store is = absurd (let no = is in cc)
trace_end_crowded budget made (access ∷ rest) (Space refusal) store is = elim (cases_Bool (ltb made budget)) [
  | inl e ↦ absurd (none-some (Space refusal) (sym (cond-true (ltb made budget) None (Some Budget) e) ∙ is))
  | inr e ↦ absurd (let no = sym (cond-false (ltb made budget) None (Some Budget) e) ∙ is in cc)
]

with_state_end : (s : TraceState) (o : Option TraceEnd) (end : TraceEnd) (t : TraceState) → with_state s o ≡ Some (end, t) → o ≡ Some end
with_state_end s None end t is = absurd (none-some (end, t) is)
with_state_end s (Some own) end t is = ap Some (ap (λ (p : TraceEnd × TraceState). p.0) (same_Some (own, s) (end, t) is))

pub trace_crowded : (printed : Access → ℕ → List ℕ) (budget : ℕ) (beats : List Beat) (old : TraceState) (end : TraceEnd) (new : TraceState) (streams : Streams) → RunsTrace printed budget beats old end new streams
    → IsCrowdedAtEnd (store_of new.machine.memory) end
trace_crowded printed budget beats old end new streams h = elim h.run.ends [
  | inl at ↦ trace_beat_crowded printed (sizing_of (store_of old.machine.memory)) at.beat h.run.before.state new end at.streams at.does
  | inr before ↦
      let s = h.run.before.state in
      trace_end_crowded budget s.machine.guest.retired s.left end (store_of new.machine.memory) (with_state_end s (trace_end budget s.machine.guest.retired s.left) end new before.stands_so)
]
