-- Runs from one state under different words of beats have the same lists.
use Rattle.std.proofs.Common.{◌≡◌, ◌<◌, ◌≤◌, ◌+◌, ◌⊎◌, ℕ, zero, suc, true, List, Option, Some, None, refl, sym, ◌∙◌, ap, subst, arith, inl, inr}
use Rattle.hier_types.specs.declared.beats.Beat.{Beat}
use Rattle.hier_types.specs.declared.beats.Beat.TheVariants.{Hart, Mover, Cleaner}
use Rattle.hier_types.specs.declared.faults.NoSpace.{NoSpace}
use Rattle.hier_types.specs.Beats.{IsBeat}
use Rattle.hier_types.specs.Streams.{AreUntouched, Streams, at_first}
use Rattle.beat_runs.specs.Points.{EndsAtBeat, EndsBefore, Passed, PassesBeat, Point, Runs, point}
use Rattle.beat_runs.proofs.OneRun.{TellBoth}
use Rattle.beat_runs.proofs.StandLemmas.{used_le}
use Rattle.l2_cache.proofs.AlikeLemmas.{alike_same}
use Rattle.page_store.specs.Contents.{Contents}
use Rattle.page_store.specs.Store.{Sizing, sizing_of}
use Rattle.recency.specs.Placed.{IsPlaced}
use Rattle.rv_guest.specs.declared.ends.MachineEnd.{MachineEnd}
use Rattle.rv_guest.specs.declared.ends.MachineEnd.TheVariants.{Exit, Trap, Budget, Space, InFault, OutFault}
use Rattle.rv_guest.specs.Beside.{guest_at}
use Rattle.rv_guest.specs.Lines.{stop_of_beat}
use Rattle.rv_guest.specs.State.{GuestState}
use Rattle.rv_guest.specs.Steps.{DoesBeat}
use Rattle.hier_machine.specs.Lists.{ListsBeats, ListsHart, ListsState, lists_of}
use Rattle.hier_machine.specs.Memory.{store_of}
use Rattle.hier_machine.specs.Runs.{MakesBeat, stands_at}
use Rattle.hier_machine.specs.State.{MachineState}
use Rattle.hier_machine.specs.Words.{CountsAlike, CountsAreAlike}
use Rattle.hier_machine.proofs.AlikeLemmas.{AlikeLists, cleaner_alike, hart_alike, hart_ends_alike, lists_back}

-- the end is not for want of room
abbrev Answered : MachineEnd → Type 0
Answered end = stop_of_beat (Some end) ≡ None

answered_is : (end : MachineEnd) → ((refusal : NoSpace) → end ≡ Space refusal → ⊥) → Answered end
answered_is (Exit status) has_room = refl
answered_is (Trap trap) has_room = refl
answered_is Budget has_room = refl
answered_is InFault has_room = refl
answered_is OutFault has_room = refl
answered_is (Space refusal) has_room = absurd (has_room refusal refl)

-- how many instructions retired before the beat that ended a run
retired_before : (a b c d : ListsState) (end : MachineEnd) (s t : Streams) → DoesBeat (guest_at a.memory.span a.guest) a.guest (Some end) b.guest s → DoesBeat (guest_at c.memory.span c.guest) c.guest (Some end) d.guest t
    → b.guest.retired ≡ d.guest.retired → a.guest.retired ≡ c.guest.retired
retired_before a b c d (Exit status) s t h k same = let one = h.retired in let other = k.retired in omega arith
retired_before a b c d (Trap trap) s t h k same = ap (λ (g : GuestState). g.retired) (sym h.same) ∙ same ∙ ap (λ (g : GuestState). g.retired) k.same
retired_before a b c d InFault s t h k same = ap (λ (g : GuestState). g.retired) (sym h.same) ∙ same ∙ ap (λ (g : GuestState). g.retired) k.same
retired_before a b c d OutFault s t h k same = ap (λ (g : GuestState). g.retired) (sym h.same) ∙ same ∙ ap (λ (g : GuestState). g.retired) k.same
retired_before a b c d (Space refusal) s t h k same = ap (λ (g : GuestState). g.retired) (sym h.0) ∙ same ∙ ap (λ (g : GuestState). g.retired) k.0
retired_before a b c d Budget s t h k same = absurd h

-- a run that ends before a beat leaves the lists
stands_lists : (budget : ℕ) (a b : MachineState) (end : MachineEnd) → stands_at budget a ≡ Some (end, b) → (end ≡ Budget) × (lists_of b ≡ lists_of a)
stands_lists budget a b end stop =
    let so = (used_le a.guest.retired budget (Budget, record a { ended = true }) (end, b) stop).0 in
    (ap (λ (p : MachineEnd × MachineState). p.0) so, ap (λ (p : MachineEnd × MachineState). lists_of p.1) so)

module _ (sizing : Sizing) (budget : ℕ) where
  abbrev Passes : Beat → Point MachineState → Point MachineState → Type 0
  Passes beat a b = PassesBeat stands_at (MakesBeat sizing) budget beat a b

  -- the lists at two points are alike, and as much of the input is left
  record AlikePoints (p q : Point MachineState) : Type 0 where
    lists : AlikeLists (lists_of p.state) (lists_of q.state)
    left : List ℕ
    first : p.streams.input.after ≡ Some left
    second : q.streams.input.after ≡ Some left

  points_back : (p q : Point MachineState) → AlikePoints p q → AlikePoints q p
  points_back p q h = record { lists = lists_back (lists_of p.state) (lists_of q.state) h.lists; left = h.left; first = h.second; second = h.first }

  -- a beat of the mover or the cleaner retires nothing, and leaves the lists alike
  record Idle (a b : Point MachineState) : Type 0 where
    retired : b.state.guest.retired ≡ a.state.guest.retired
    alike : (q : Point MachineState) → AlikePoints a q → AlikePoints b q

  quiet_after : (a b : Point MachineState) (beat : Beat) (by : Passes beat a b) (left : List ℕ) → AreUntouched by.streams → a.streams.input.after ≡ Some left → b.streams.input.after ≡ Some left
  quiet_after a b beat by left quiet so = ap (λ (u : Streams). u.input.after) by.joined ∙ quiet.0 ∙ by.meets.input ∙ so

  mover_idle : (a b : Point MachineState) → Passes Mover a b → Idle a b
  mover_idle a b by =
      let same : lists_of b.state ≡ lists_of a.state = by.does.lists.same in
      record {
        retired = ap (λ (l : ListsState). l.guest.retired) same;
        alike = λ q h. record {
          lists = subst (λ (l : ListsState). AlikeLists l (lists_of q.state)) (sym same) h.lists;
          left = h.left;
          first = quiet_after a b Mover by h.left by.does.lists.quiet h.first;
          second = h.second;
        };
      }

  cleaner_idle : (a b : Point MachineState) → Passes Cleaner a b → Idle a b
  cleaner_idle a b by = record {
    retired = ap (λ (l : ListsState). l.guest.retired) by.does.lists.rest;
    alike = λ q h. record {
      lists = cleaner_alike sizing (lists_of a.state) (lists_of b.state) (lists_of q.state) None by.streams h.lists by.does.lists;
      left = h.left;
      first = quiet_after a b Cleaner by h.left by.does.lists.quiet h.first;
      second = h.second;
    };
  }

  -- a beat of the hart retires one
  hart_retires : (a b : Point MachineState) → Passes Hart a b → b.state.guest.retired ≡ a.state.guest.retired + 1
  hart_retires a b by = by.does.lists.does.retired

  -- and leaves the lists alike
  hart_both : (a b c d : Point MachineState) → AlikePoints a c → Passes Hart a b → Passes Hart c d → AlikePoints b d
  hart_both a b c d h by by' =
      let all = hart_alike sizing (lists_of a.state) (lists_of b.state) (lists_of c.state) (lists_of d.state) by.streams by'.streams h.left
      (record { first = by.meets.input ∙ h.first; second = by'.meets.input ∙ h.second }) h.lists by.does.lists by'.does.lists in
      record { lists = all.0; left = all.1; first = ap (λ (u : Streams). u.input.after) by.joined ∙ all.2; second = ap (λ (u : Streams). u.input.after) by'.joined ∙ all.3 }

  passed_rises : (word : List Beat) (start : Point MachineState) (count : ℕ) (now : Point MachineState) → Passed Passes word start count now → start.state.guest.retired ≤ now.state.guest.retired
  passed_rises word start zero now h = rw h (omega arith)
  passed_rises word start (suc count) now (mid, beat, passed, is, by) =
      let before = passed_rises word start count mid passed in by_beat beat by before
    where
      by_beat : (beat : Beat) → Passes beat mid now → start.state.guest.retired ≤ mid.state.guest.retired → start.state.guest.retired ≤ now.state.guest.retired
      by_beat Hart by before = let one = hart_retires mid now by in omega arith
      by_beat Mover by before = let none = (mover_idle mid now by).retired in omega arith
      by_beat Cleaner by before = let none = (cleaner_idle mid now by).retired in omega arith

  -- the last beat of one of them is not the hart's, or it is
  first_on : (mid p q : Point MachineState) (beat : Beat) → Passes beat mid p → (mid.state.guest.retired ≡ q.state.guest.retired → AlikePoints mid q) → (Passes Hart mid p → AlikePoints p q) → p.state.guest.retired ≡ q.state.guest.retired
      → AlikePoints p q
  first_on mid p q Hart by before hart same = hart by
  first_on mid p q Mover by before hart same = let idle = mover_idle mid p by in idle.alike q (before (sym idle.retired ∙ same))
  first_on mid p q Cleaner by before hart same = let idle = cleaner_idle mid p by in idle.alike q (before (sym idle.retired ∙ same))

  second_on : (p mid q : Point MachineState) (beat : Beat) → Passes beat mid q → (p.state.guest.retired ≡ mid.state.guest.retired → AlikePoints p mid) → (Passes Hart mid q → AlikePoints p q) → p.state.guest.retired ≡ q.state.guest.retired
      → AlikePoints p q
  second_on p mid q Hart by before hart same = hart by
  second_on p mid q Mover by before hart same = let idle = mover_idle mid q by in points_back q p (idle.alike p (points_back p mid (before (same ∙ idle.retired))))
  second_on p mid q Cleaner by before hart same = let idle = cleaner_idle mid q by in points_back q p (idle.alike p (points_back p mid (before (same ∙ idle.retired))))

  module _ (word other : List Beat) (start begin : Point MachineState) (starts : AlikePoints start begin) where
    starts_retired : begin.state.guest.retired ≡ start.state.guest.retired
    starts_retired = ap (λ (g : GuestState). g.retired) starts.lists.guest

    -- no run passes a beat of the hart where another has as many retired as at its start
    none_more : (m : ℕ) (p mid q : Point MachineState) → p ≡ start → Passed Passes other begin m mid → Passes Hart mid q → p.state.guest.retired ≡ q.state.guest.retired → ⊥
    none_more m p mid q h passed by same =
        let one = hart_retires mid q by in
        let rises = passed_rises other begin m mid passed in
        let first : p.state.guest.retired ≡ start.state.guest.retired = ap (λ (x : Point MachineState). x.state.guest.retired) h in
        omega (arith, starts_retired, one, rises, first, same)

    none_less : (n : ℕ) (p mid q : Point MachineState) → q ≡ begin → Passed Passes word start n mid → Passes Hart mid p → p.state.guest.retired ≡ q.state.guest.retired → ⊥
    none_less n p mid q k passed by same =
        let one = hart_retires mid p by in
        let rises = passed_rises word start n mid passed in
        let first : q.state.guest.retired ≡ begin.state.guest.retired = ap (λ (x : Point MachineState). x.state.guest.retired) k in
        omega (arith, starts_retired, one, rises, first, same)

    -- after as many instructions retired, whatever beats of the mover and the cleaner were among them
    passed_alike : (fuel n m : ℕ) → n + m ≤ fuel → (p q : Point MachineState) → Passed Passes word start n p → Passed Passes other begin m q → p.state.guest.retired ≡ q.state.guest.retired → AlikePoints p q
    passed_alike fuel zero zero le p q h k same = rw (h, k) starts
    passed_alike zero (suc n) m le p q h k same = absurd (omega arith)
    passed_alike zero zero (suc m) le p q h k same = absurd (omega arith)
    passed_alike (suc fuel) zero (suc m) le p q h k same =
        second_on p k.0 q k.1 k.4 (λ even. passed_alike fuel zero m (omega arith) p k.0 h k.2 even) (λ hart. absurd (none_more m p k.0 q h k.2 hart same)) same
    passed_alike (suc fuel) (suc n) zero le p q h k same =
        first_on h.0 p q h.1 h.4 (λ even. passed_alike fuel n zero (omega arith) h.0 q h.2 k even) (λ hart. absurd (none_less n p h.0 q k h.2 hart same)) same
    passed_alike (suc fuel) (suc n) (suc m) le p q h k same =
        first_on h.0 p q h.1 h.4 (λ even. passed_alike fuel n (suc m) (omega arith) h.0 q h.2 k even)
        (λ hart. second_on p k.0 q k.1 k.4 (λ even. passed_alike fuel (suc n) m (omega arith) p k.0 h k.2 even)
        (λ other_hart.
        let one = hart_retires h.0 p hart in
        let two = hart_retires k.0 q other_hart in
        let before : h.0.state.guest.retired ≡ k.0.state.guest.retired = omega (arith, one, two, same) in
        hart_both h.0 p k.0 q (passed_alike fuel n m (omega arith) h.0 k.0 h.2 k.2 before) hart other_hart) same) same

    -- the beat that ends a run is the hart's
    hart_end : (beat : Beat) (a b : MachineState) (end : MachineEnd) (s : Streams) → MakesBeat sizing beat a (Some end) b s → ListsHart sizing (lists_of a) (Some end) (lists_of b) s
    hart_end Hart a b end s h = h.lists
    hart_end Mover a b end s h = absurd (let no = h.lists.none in cc)
    hart_end Cleaner a b end s h = absurd (let no = h.lists.none in cc)

    not_budget : (a b : ListsState) (end : MachineEnd) (s : Streams) → end ≡ Budget → ListsHart sizing a (Some end) b s → ⊥
    not_budget a b end s is h = subst (λ (e : MachineEnd). DoesBeat (guest_at a.memory.span a.guest) a.guest (Some e) b.guest s) is h.does

    -- and so at their ends
    ends_alike : (n m : ℕ) (p q : Point MachineState) (end : MachineEnd) (b d : Point MachineState) → Answered end → Passed Passes word start n p → Passed Passes other begin m q
        → EndsAtBeat stands_at (MakesBeat sizing) word budget n p end b ⊎ EndsBefore stands_at budget p end b → EndsAtBeat stands_at (MakesBeat sizing) other budget m q end d ⊎ EndsBefore stands_at budget q end d
        → b.state.guest.retired ≡ d.state.guest.retired → AlikeLists (lists_of b.state) (lists_of d.state)
    ends_alike n m p q end b d answered h k (inl by) (inl by') same =
        let one = hart_end by.beat p.state b.state end by.streams by.does in
        let two = hart_end by'.beat q.state d.state end by'.streams by'.does in
        let before = retired_before (lists_of p.state) (lists_of b.state) (lists_of q.state) (lists_of d.state) end by.streams by'.streams one.does two.does same in
        let alike = passed_alike (n + m) n m (omega arith) p q h k before in
        hart_ends_alike sizing (lists_of p.state) (lists_of b.state) (lists_of q.state) (lists_of d.state) end by.streams by'.streams answered alike.lists one two
    ends_alike n m p q end b d answered h k (inl by) (inr by') same =
        absurd (not_budget (lists_of p.state) (lists_of b.state) end by.streams (stands_lists budget q.state d.state end by'.stands_so).0 (hart_end by.beat p.state b.state end by.streams by.does))
    ends_alike n m p q end b d answered h k (inr by) (inl by') same =
        absurd (not_budget (lists_of q.state) (lists_of d.state) end by'.streams (stands_lists budget p.state b.state end by.stands_so).0 (hart_end by'.beat q.state d.state end by'.streams by'.does))
    ends_alike n m p q end b d answered h k (inr by) (inr by') same =
        let one = (stands_lists budget p.state b.state end by.stands_so).1 in
        let two = (stands_lists budget q.state d.state end by'.stands_so).1 in
        let before : p.state.guest.retired ≡ q.state.guest.retired = ap (λ (l : ListsState). l.guest.retired) (sym one) ∙ same ∙ ap (λ (l : ListsState). l.guest.retired) two in
        let alike = passed_alike (n + m) n m (omega arith) p q h k before in
        subst (λ (l : ListsState). AlikeLists l (lists_of d.state)) (sym one) (subst (λ (l : ListsState). AlikeLists (lists_of p.state) l) (sym two) alike.lists)

-- two runs from one state under different words have the same counts and lists
pub machine_counts_are_alike : CountsAreAlike
machine_counts_are_alike old word end new other s t bytes placed one two h k no_space same =
    let sizing = sizing_of (store_of old.memory) in
    let begin = record old { beats = word } in
    let lines : Contents → List (List ℕ) = λ c. c.lines in
    let starts : AlikePoints sizing old.budget (point old (at_first s)) (point begin (at_first t)) = record {
      lists = record {
        memory = record { below = alike_same lines (lists_of old).memory.below placed; sets = refl; held = refl; counts = refl; span = refl };
        guest = refl;
      };
      left = bytes;
      first = one;
      second = two;
    } in
    let all = ends_alike sizing old.budget old.beats word (point old (at_first s)) (point begin (at_first t)) starts h.beats.count k.beats.count h.beats.before k.beats.before end (point new s) (point other t)
    (answered_is end no_space) h.beats.passed k.beats.passed h.beats.ends k.beats.ends same in
    record { first_counts = sym all.memory.counts; second_counts = sym all.memory.below.counts; first_sets = sym all.memory.sets; second_sets = sym all.memory.below.sets }
