-- A run of the machine, beat by beat.
use Rattle.std.proofs.Common.{◌≡◌, ◌≤◌, ◌∙◌, ℕ, true, cond, List, Option, Some, None, refl, ap, subst, sym, inl, inr}
use Rattle.hier_types.specs.declared.beats.Beat.{Beat}
use Rattle.hier_types.specs.declared.beats.Beat.TheVariants.{Hart, Mover, Cleaner}
use Rattle.hier_types.specs.Beats.{is_cleaner, is_mover}
use Rattle.std.proofs.lemmas.Option.{none-some, same_Some}
use Rattle.hier_types.specs.Causes.{raised}
use Rattle.hier_types.specs.Span.{Span}
use Rattle.hier_types.specs.Streams.{FaultsStay, Streams, at_first}
use Rattle.hier_types.proofs.StreamLemmas.{faults_first}
use Rattle.beat_runs.specs.Points.{Runs, point}
use Rattle.beat_runs.proofs.PointLemmas.{run_as, run_faults, run_holds, run_turns}
use Rattle.beat_runs.proofs.StandLemmas.{free_lt, used_le}
use Rattle.page_store.specs.Calls.{StoreRead, StoreWrite}
use Rattle.page_store.specs.Store.{Sizing, Store, sizing_of}
use Rattle.rv_core.specs.Code.{Code}
use Rattle.rv_guest.specs.declared.ends.MachineEnd.{MachineEnd}
use Rattle.rv_guest.specs.declared.ends.MachineEnd.TheVariants.{Exit, Trap, Budget, InFault, OutFault, Space}
use Rattle.rv_guest.specs.Beside.{guest_beside}
use Rattle.rv_guest.specs.FollowsFlat.{DoesGuest, FollowsFlat}
use Rattle.rv_guest.specs.Steps.{DoesBeat}
use Rattle.rv_guest.proofs.FollowsLemmas.{Carries, follows}
use Rattle.run_report.specs.declared.end.End.{End}
use Rattle.hier_machine.specs.Spaces.{HasNoneIfSpace, IsCrowdedIfSpace, IsEndOf}
use Rattle.hier_machine.specs.Beats.{Beats, KeepsSettings, MovesPages, TurnBeats, TurnsStay}
use Rattle.hier_machine.specs.Levels.{CleanerBelow, MoverBelow}
use Rattle.hier_machine.specs.Lists.{ShowsBytes, lists_of}
use Rattle.hier_machine.specs.Memory.{Below, store_of}
use Rattle.hier_machine.specs.Runs.{CountsTurns, MakesBeat, RunsBeatByBeat, RunsMachine, stands_at}
use Rattle.hier_machine.specs.State.{MachineState, code_of_machine, mover_turns_of}
use Rattle.hier_machine.proofs.ListsLemmas.{cleaned_sizing, cleaned_turns, moved_sizing, moved_turns}

-- what stays over two stretches stays over both
pub settings_join : (a b c : MachineState) → KeepsSettings a b → KeepsSettings b c → KeepsSettings a c
settings_join a b c h k = record { span = k.span ∙ h.span; code = k.code ∙ h.code; sizing = k.sizing ∙ h.sizing; budget = k.budget ∙ h.budget; beats = k.beats ∙ h.beats }

pub settings_same : (a : MachineState) → KeepsSettings a a
settings_same a = record { span = refl; code = refl; sizing = refl; budget = refl; beats = refl }

-- a turn of the mover or the cleaner that leaves the store's size leaves the settings
turn_settings : (Turn : Below → Below → Type 0) (cleaner : ℕ) (old new : MachineState) (result : Option MachineEnd) (streams : Streams) → TurnBeats Turn cleaner old result new streams
    → sizing_of (store_of new.memory) ≡ sizing_of (store_of old.memory) → KeepsSettings old new
turn_settings Turn cleaner old new result streams h sizing = record {
  span = ap (λ (t : MachineState). t.memory.span) h.rest;
  code = ap code_of_machine h.rest;
  sizing = sizing;
  budget = ap (λ (t : MachineState). t.budget) h.rest;
  beats = ap (λ (t : MachineState). t.beats) h.rest;
}

-- no beat changes the settings
pub keeps_settings : (beat : Beat) (old new : MachineState) (result : Option MachineEnd) (streams : Streams) → Beats beat old result new streams → KeepsSettings old new
keeps_settings Hart old new result streams h = h.stays
keeps_settings Mover old new result streams h = turn_settings (MoverBelow MovesPages) old.cleaner_turns old new result streams h (moved_sizing old.memory.below new.memory.below h.turn)
keeps_settings Cleaner old new result streams h = turn_settings (CleanerBelow StoreRead StoreWrite) (raised old.cleaner_turns) old new result streams h (cleaned_sizing old.memory.below new.memory.below h.turn)

-- a run that ends before a beat has used up the budget, and ends the machine
pub stop_is : (budget : ℕ) (a b : MachineState) (end : MachineEnd) → stands_at budget a ≡ Some (end, b) → (end ≡ Budget) × (b ≡ record a { ended = true }) × (budget ≤ a.guest.retired)
stop_is budget a b end stop =
    let so = used_le a.guest.retired budget (Budget, record a { ended = true }) (end, b) stop in
    (ap (λ (p : MachineEnd × MachineState). p.0) so.0, ap (λ (p : MachineEnd × MachineState). p.1) so.0, so.1)

-- the turns of a beat
pub mover_on : (beat : Beat) (a b : MachineState) (s : Streams) → Beats beat a None b s → mover_turns_of b ≡ cond (is_mover beat) (raised (mover_turns_of a)) (mover_turns_of a)
mover_on Hart a b s h = h.turns.mover
mover_on Mover a b s h = moved_turns a.memory.below b.memory.below h.turn
mover_on Cleaner a b s h = cleaned_turns a.memory.below b.memory.below h.turn

pub cleaner_on : (beat : Beat) (a b : MachineState) (s : Streams) → Beats beat a None b s → b.cleaner_turns ≡ cond (is_cleaner beat) (raised a.cleaner_turns) a.cleaner_turns
cleaner_on Hart a b s h = h.turns.cleaner
cleaner_on Mover a b s h = ap (λ (t : MachineState). t.cleaner_turns) h.rest
cleaner_on Cleaner a b s h = ap (λ (t : MachineState). t.cleaner_turns) h.rest

-- a beat that ends a run is the hart's
turns_end : (beat : Beat) (a b : MachineState) (end : MachineEnd) (s : Streams) → Beats beat a (Some end) b s → TurnsStay a b
turns_end Hart a b end s h = h.turns
turns_end Mover a b end s h = absurd (let no = h.none in cc)
turns_end Cleaner a b end s h = absurd (let no = h.none in cc)

turns_stop : (budget : ℕ) (a b : MachineState) (end : MachineEnd) → stands_at budget a ≡ Some (end, b) → TurnsStay a b
turns_stop budget a b end stop =
    let so = (stop_is budget a b end stop).1 in
    record { mover = ap mover_turns_of so; cleaner = ap (λ (s : MachineState). s.cleaner_turns) so }

module _ (sizing : Sizing) where
  -- the machine carries its guest
  holds : (code : Code) (beat : Beat) (a b : MachineState) (s : Streams) → code_of_machine a ≡ code → MakesBeat sizing beat a None b s → code_of_machine b ≡ code
  holds code beat a b s is h = (keeps_settings beat a b None s h.machine).code ∙ is

  does_guest : (code : Code) (beat : Beat) (a b : MachineState) (result : Option MachineEnd) (s : Streams) → code_of_machine a ≡ code → MakesBeat sizing beat a result b s → DoesGuest (guest_beside code) beat a.guest result b.guest s
  does_guest code Hart a b result s is h = subst (λ (c : Code). DoesBeat (guest_beside c) a.guest result b.guest s) is h.machine.does
  does_guest code Mover a b result s is h = record { none = h.machine.none; same = ap (λ (t : MachineState). t.guest) h.machine.rest; quiet = h.machine.quiet }
  does_guest code Cleaner a b result s is h = record { none = h.machine.none; same = ap (λ (t : MachineState). t.guest) h.machine.rest; quiet = h.machine.quiet }

  pub carries : (code : Code) → Carries (guest_beside code) (λ (s : MachineState). s.guest) (λ (s : MachineState). code_of_machine s ≡ code) stands_at (MakesBeat sizing)
  carries code = record {
    holds = holds code;
    does = does_guest code;
    free = λ budget a free. free_lt a.guest.retired budget (Budget, record a { ended = true }) free;
    used = λ budget a b end stop. let so = stop_is budget a b end stop in (so.0, ap (λ (s : MachineState). s.guest) so.1, so.2);
  }

  -- at the end of a run
  module _ (old : MachineState) (end : MachineEnd) (new : MachineState) (streams : Streams) (r : Runs stands_at (MakesBeat sizing) old.beats old.budget old end new streams) where
    pub run_counts : CountsTurns old.beats old r.count new
    run_counts = record {
      mover = run_turns stands_at (MakesBeat sizing) old.beats old.budget is_mover mover_turns_of (λ beat a b s h. mover_on beat a b s h.machine) (λ beat a b end' s h. (turns_end beat a b end' s h.machine).mover)
          (λ a b end' stop. (turns_stop old.budget a b end' stop).mover) (point old (at_first streams)) end (point new streams) r;
      cleaner = run_turns stands_at (MakesBeat sizing) old.beats old.budget is_cleaner (λ (t : MachineState). t.cleaner_turns) (λ beat a b s h. cleaner_on beat a b s h.machine) (λ beat a b end' s h. (turns_end beat a b end' s h.machine).cleaner)
          (λ a b end' stop. (turns_stop old.budget a b end' stop).cleaner) (point old (at_first streams)) end (point new streams) r;
    }

    pub run_stays : KeepsSettings old new
    run_stays = run_holds stands_at (MakesBeat sizing) old.beats old.budget (KeepsSettings old) (λ beat a b result s so h. settings_join old a b so (keeps_settings beat a b result s h.machine))
        (λ a b end' so stop. subst (KeepsSettings old) (sym (stop_is old.budget a b end' stop).1) (record { span = so.span; code = so.code; sizing = so.sizing; budget = so.budget; beats = so.beats }))
        (point old (at_first streams)) end (point new streams) (settings_same old) r

    pub run_over : new.ended ≡ true
    run_over = elim r.ends [
      | inl by ↦ over_beat by.beat r.before.state by.streams by.does
      | inr by ↦ ap (λ (s : MachineState). s.ended) (stop_is old.budget r.before.state new end by.stands_so).1
    ]
      where
        over_beat : (beat : Beat) (a : MachineState) (s : Streams) → MakesBeat sizing beat a (Some end) new s → new.ended ≡ true
        over_beat Hart a s h = h.machine.ended
        over_beat Mover a s h = absurd (let no = h.machine.none in cc)
        over_beat Cleaner a s h = absurd (let no = h.machine.none in cc)

-- what each beat says of its own store's size, it says of the first one's
pub sized_run : (old : MachineState) (end : MachineEnd) (new : MachineState) (streams : Streams)
    → Runs stands_at (λ beat a result b s. MakesBeat (sizing_of (store_of a.memory)) beat a result b s) old.beats old.budget old end new streams → RunsBeatByBeat old end new streams
sized_run old end new streams r =
    let sizing = sizing_of (store_of old.memory) in
    run_as stands_at (λ beat a result b s. MakesBeat (sizing_of (store_of a.memory)) beat a result b s) (MakesBeat sizing) old.beats old.budget (λ (s : MachineState). sizing_of (store_of s.memory) ≡ sizing)
    (λ beat a b s is h. (keeps_settings beat a b None s h.machine).sizing ∙ is)
    (λ beat a b result s is h. subst (λ (k : Sizing). MakesBeat k beat a result b s) is h) (point old (at_first streams)) end (point new streams) refl r

-- the whole of it, of a copy of the word and of the budget
pub machine_run : (old : MachineState) (end : MachineEnd) (new : MachineState) (streams : Streams) (word : List Beat) (budget : ℕ) → ShowsBytes (lists_of old) → word ≡ old.beats → budget ≡ old.budget
    → Runs stands_at (λ beat a result b s. MakesBeat (sizing_of (store_of a.memory)) beat a result b s) word budget old end new streams → RunsMachine old end new streams
machine_run old end new streams word budget shows same_word same_budget own =
    let sizing = sizing_of (store_of old.memory) in
    let sized = λ (beat : Beat) (a : MachineState) (result : Option MachineEnd) (b : MachineState) (s : Streams). MakesBeat (sizing_of (store_of a.memory)) beat a result b s in
    let r = sized_run old end new streams (subst (λ w. Runs stands_at sized w old.budget old end new streams) same_word (subst (λ n. Runs stands_at sized word n old end new streams) same_budget own)) in
    record { shows = shows; beats = r; turns = run_counts sizing old end new streams r; stays = run_stays sizing old end new streams r; over = run_over sizing old end new streams r }

-- no count of faults falls in it
pub machine_faults : (old : MachineState) (end : MachineEnd) (new : MachineState) (streams : Streams) → RunsMachine old end new streams → FaultsStay streams
machine_faults old end new streams h =
    run_faults stands_at (MakesBeat (sizing_of (store_of old.memory))) old.beats old.budget (point old (at_first streams)) end (point new streams) (faults_first streams) h.beats

-- and beside the flat run
pub machine_follows : (old : MachineState) (end : MachineEnd) (new : MachineState) (streams : Streams) → old.guest.retired ≤ old.budget → RunsMachine old end new streams
    → FollowsFlat (guest_beside (code_of_machine old)) old.budget old.guest end new.guest streams
machine_follows old end new streams within h =
    let code = code_of_machine old in
    let sizing = sizing_of (store_of old.memory) in
    follows (guest_beside code) (λ (s : MachineState). s.guest) (λ (s : MachineState). code_of_machine s ≡ code) stands_at (MakesBeat sizing) (carries sizing code) old.beats old.budget old end new streams refl within h.beats

-- where a run ends with a refusal, the store is crowded for it
beat_crowded : (beat : Beat) (old new : MachineState) (end : MachineEnd) (streams : Streams) → Beats beat old (Some end) new streams → IsCrowdedIfSpace (store_of new.memory) end
beat_crowded Hart old new (Space refusal) streams h = h.cause.1
beat_crowded Hart old new (Exit status) streams h = tt
beat_crowded Hart old new (Trap trap) streams h = tt
beat_crowded Hart old new Budget streams h = tt
beat_crowded Hart old new InFault streams h = tt
beat_crowded Hart old new OutFault streams h = tt
beat_crowded Mover old new end streams h = absurd (none-some end (sym h.none))
beat_crowded Cleaner old new end streams h = absurd (none-some end (sym h.none))

pub ends_crowded : (old new : MachineState) (end : MachineEnd) (streams : Streams) → RunsMachine old end new streams → IsCrowdedIfSpace (store_of new.memory) end
ends_crowded old new end streams h = elim h.beats.ends [
  | inl at ↦ beat_crowded at.beat h.beats.before.state new end at.streams at.does.machine
  | inr before ↦
      let stop = stop_is old.budget h.beats.before.state new end before.stands_so in
      subst (IsCrowdedIfSpace (store_of new.memory)) (sym stop.0) tt
]

-- and its end tells of no free block from the refused order on
pub none_free_told : (span : Span) (store : Store) (end : MachineEnd) (own : End) → IsEndOf span store end own → IsCrowdedIfSpace store end → HasNoneIfSpace own
none_free_told span store (Space refusal) own told crowded = subst HasNoneIfSpace (sym told.told) (told.none_free crowded)
none_free_told span store (Exit status) own told crowded = subst HasNoneIfSpace (same_Some _ own told) tt
none_free_told span store (Trap trap) own told crowded = subst HasNoneIfSpace (same_Some _ own told) tt
none_free_told span store Budget own told crowded = subst HasNoneIfSpace (same_Some _ own told) tt
none_free_told span store InFault own told crowded = subst HasNoneIfSpace (same_Some _ own told) tt
none_free_told span store OutFault own told crowded = subst HasNoneIfSpace (same_Some _ own told) tt
