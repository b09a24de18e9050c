-- A program over a port of its own carries its guest.
use Rattle.std.proofs.Common.{◌≡◌, ◌≤◌, ◌∙◌, ℕ, List, Option, Some, None, refl, sym, ap, subst, arith, inl, inr}
use Rattle.hier_types.specs.declared.beats.Beat.{Beat}
use Rattle.hier_types.specs.declared.beats.Beat.TheVariants.{Hart, Mover, Cleaner}
use Rattle.hier_types.specs.declared.faults.NoSpace.{NoSpace}
use Rattle.hier_types.specs.Span.{Span}
use Rattle.hier_types.specs.Streams.{Streams, at_first}
use Rattle.hier_types.proofs.CauseLemmas.{rose_since}
use Rattle.beat_runs.specs.Points.{Runs, point}
use Rattle.beat_runs.proofs.PointLemmas.{passed_holds, run_holds}
use Rattle.beat_runs.proofs.StandLemmas.{free_lt, used_le}
use Rattle.rv_core.specs.Code.{Code}
use Rattle.rv_guest.specs.declared.ends.MachineEnd.{MachineEnd}
use Rattle.rv_guest.specs.declared.ends.MachineEnd.TheVariants.{Exit, Trap, Budget, Space, InFault, OutFault}
use Rattle.rv_guest.specs.declared.program.Program.{Program}
use Rattle.rv_guest.specs.Beside.{guest_beside}
use Rattle.rv_guest.specs.FollowsFlat.{DoesGuest}
use Rattle.rv_guest.specs.Programs.{ProgramDoes, guest_of, stands_at}
use Rattle.rv_guest.specs.State.{code_at}
use Rattle.rv_guest.specs.Steps.{DoesBeat, IsJustified}
use Rattle.rv_guest.proofs.FollowsLemmas.{Carries}

-- a cause holds since an earlier moment
justified_since : (old mid now : ℕ) (crowded : NoSpace → Type 0) (result : Option MachineEnd) → old ≤ mid → IsJustified mid now crowded result → IsJustified old now crowded result
justified_since old mid now crowded (Some (Space refusal)) le h = (rose_since old mid now le h.0, h.1)
justified_since old mid now crowded None le h = tt
justified_since old mid now crowded (Some (Exit status)) le h = tt
justified_since old mid now crowded (Some (Trap trap)) le h = tt
justified_since old mid now crowded (Some Budget) le h = tt
justified_since old mid now crowded (Some InFault) le h = tt
justified_since old mid now crowded (Some OutFault) le h = tt

module _ {P : Type 0} (span : P → Span) (bytes : P → List ℕ) (stops : P → ℕ) (crowded : P → NoSpace → Type 0) where
  -- the span stays, and no count of refusals falls
  pub record Keeps (old now : Program P) : Type 0 where
    pub stays : span now.port ≡ span old.port
    pub later : stops old.port ≤ stops now.port

  keeps : (old : Program P) (beat : Beat) (a b : Program P) (result : Option MachineEnd) (s : Streams) → Keeps old a → ProgramDoes span bytes stops crowded beat a result b s → Keeps old b
  keeps old Hart a b result s so h = record { stays = h.stays ∙ so.stays; later = omega (arith, so.later, h.later) }
  keeps old Mover a b result s so h = subst (Keeps old) (sym h.same) so
  keeps old Cleaner a b result s so h = subst (Keeps old) (sym h.same) so

  -- a run that ends before a beat has used up the budget
  stop_is : (budget : ℕ) (a b : Program P) (end : MachineEnd) → stands_at budget a ≡ Some (end, b) → (end ≡ Budget) × (b ≡ a) × (budget ≤ a.guest.retired)
  stop_is budget a b end stop =
      let so = used_le a.guest.retired budget (Budget, a) (end, b) stop in
      (ap (λ (p : MachineEnd × Program P). p.0) so.0, ap (λ (p : MachineEnd × Program P). p.1) so.0, so.1)

  keeps_code : (code : Code) (beat : Beat) (a b : Program P) (s : Streams) → code_at (span a.port) (guest_of bytes a) ≡ code → ProgramDoes span bytes stops crowded beat a None b s → code_at (span b.port) (guest_of bytes b) ≡ code
  keeps_code code Hart a b s is h = h.code ∙ is
  keeps_code code Mover a b s is h = ap (λ (p : Program P). code_at (span p.port) (guest_of bytes p)) h.same ∙ is
  keeps_code code Cleaner a b s is h = ap (λ (p : Program P). code_at (span p.port) (guest_of bytes p)) h.same ∙ is

  does_guest : (code : Code) (beat : Beat) (a b : Program P) (result : Option MachineEnd) (s : Streams) → code_at (span a.port) (guest_of bytes a) ≡ code → ProgramDoes span bytes stops crowded beat a result b s
      → DoesGuest (guest_beside code) beat (guest_of bytes a) result (guest_of bytes b) s
  does_guest code Hart a b result s is h = subst (λ (c : Code). DoesBeat (guest_beside c) (guest_of bytes a) result (guest_of bytes b) s) is h.does
  does_guest code Mover a b result s is h = record { none = h.none; same = ap (guest_of bytes) h.same; quiet = h.quiet }
  does_guest code Cleaner a b result s is h = record { none = h.none; same = ap (guest_of bytes) h.same; quiet = h.quiet }

  pub carries : (code : Code) → Carries (guest_beside code) (guest_of bytes) (λ (p : Program P). code_at (span p.port) (guest_of bytes p) ≡ code) stands_at (ProgramDoes span bytes stops crowded)
  carries code = record {
    holds = keeps_code code;
    does = does_guest code;
    free = λ budget a free. free_lt a.guest.retired budget (Budget, a) free;
    used = λ budget a b end stop. let so = stop_is budget a b end stop in (so.0, ap (guest_of bytes) so.1, so.2);
  }

  module _ (word : List Beat) (budget : ℕ) (old : Program P) (end : MachineEnd) (new : Program P) (streams : Streams) (r : Runs stands_at (ProgramDoes span bytes stops crowded) word budget old end new streams) where
    pub run_keeps : Keeps old new
    run_keeps = run_holds stands_at (ProgramDoes span bytes stops crowded) word budget (Keeps old) (keeps old)
        (λ a b end' so stop. let same = (stop_is budget a b end' stop).1 in rw same so) (point old (at_first streams)) end (point new streams) (record { stays = refl; later = omega arith }) r

    -- a refusal at the end has its cause
    pub run_cause : IsJustified (stops old.port) (stops new.port) (crowded new.port) (Some end)
    run_cause =
        let before = passed_holds stands_at (ProgramDoes span bytes stops crowded) word budget (Keeps old) (λ beat a b s. keeps old beat a b None s) (point old (at_first streams)) r.count r.before (record { stays = refl; later = omega arith }) r.passed in
        elim r.ends [
          | inl by ↦ at_beat by.beat r.before.state before by.streams by.does
          | inr by ↦ (let same = (stop_is budget r.before.state new end by.stands_so).0 in rw same tt)
        ]
      where
        at_beat : (beat : Beat) (a : Program P) → Keeps old a → (s : Streams) → ProgramDoes span bytes stops crowded beat a (Some end) new s → IsJustified (stops old.port) (stops new.port) (crowded new.port) (Some end)
        at_beat Hart a so s h = justified_since (stops old.port) (stops a.port) (stops new.port) (crowded new.port) (Some end) so.later h.cause
        at_beat Mover a so s h = absurd (let no = h.none in cc)
        at_beat Cleaner a so s h = absurd (let no = h.none in cc)
