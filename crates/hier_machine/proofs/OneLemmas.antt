-- A run of the machine over told input is one run.
use Rattle.std.proofs.Common.{◌≡◌, ◌<◌, ◌≤◌, ◌∙◌, ℕ, List, [], ◌∷◌, Option, Some, None, Ok, Err, sym, ap, subst, arith}
use Rattle.hier_types.specs.declared.beats.Beat.{Beat}
use Rattle.hier_types.specs.declared.beats.Beat.TheVariants.{Hart, Mover, Cleaner}
use Rattle.hier_types.specs.declared.faults.NoSpace.{NoSpace}
use Rattle.hier_types.specs.Calls.{Answer}
use Rattle.hier_types.specs.Causes.{raised}
use Rattle.hier_types.specs.PortCalls.{PortCall, Touch, Poke, PortMade, InOrder, MadeInOrder, poke_calls}
use Rattle.hier_types.specs.Streams.{Streams}
use Rattle.beat_runs.proofs.OneRun.{IsDetermined, TellBoth, one_run}
use Rattle.l1_cache.specs.FirstCalls.{FirstPoke}
use Rattle.l1_cache.proofs.OneLemmas.{poke_one, touch_one}
use Rattle.l2_cache.specs.SecondCalls.{SecondRead, SecondWrite}
use Rattle.l2_cache.proofs.OneLemmas.{cleans_one, second_one}
use Rattle.page_store.specs.Calls.{StoreRead, StoreWrite}
use Rattle.page_store.specs.Store.{Sizing, Store, sizing_of}
use Rattle.page_store.proofs.OneLemmas.{store_read_one, store_write_one}
use Rattle.recency.proofs.OneLemmas.{IsOne}
use Rattle.rv_core.specs.Code.{Code}
use Rattle.rv_guest.specs.declared.ends.MachineEnd.{MachineEnd}
use Rattle.rv_guest.specs.Beside.{guest_beside}
use Rattle.rv_guest.specs.Flat.{Flat}
use Rattle.rv_guest.specs.Lines.{lines_at, pokes_at, stop_of_beat}
use Rattle.rv_guest.specs.State.{GuestState}
use Rattle.rv_guest.proofs.OneBeatLemmas.{IsTold, ends_apart, ends_rise, ends_same, steps_same}
use Rattle.hier_machine.specs.Beats.{HartBeats, MovesPages, TurnBeats}
use Rattle.hier_machine.specs.Levels.{CleanerBelow, MoverBelow}
use Rattle.hier_machine.specs.Memory.{Below, Memory, TouchMemory, store_of, with_second}
use Rattle.hier_machine.specs.Runs.{MakesBeat, RunsAreOne, stands_at}
use Rattle.hier_machine.specs.State.{MachineState, code_of_machine, guest_of_machine}
use Rattle.hier_machine.proofs.MoveLemmas.{moves_one}
use Rattle.hier_machine.proofs.RunLemmas.{stop_is}

-- the store, the second level over it, and a touch of the first have one answer
store_one : IsOne StoreRead StoreWrite
store_one = record { reads = store_read_one; writes = store_write_one }

touch_memory_one : (s : Memory) (line : ℕ) (a c : Answer) (t u : Memory) → TouchMemory s line a t → TouchMemory s line c u → (a ≡ c) × (t ≡ u)
touch_memory_one s line a c t u h k = touch_one (SecondRead StoreRead StoreWrite) (SecondWrite StoreRead StoreWrite) (second_one StoreRead StoreWrite store_one) s line a c t u h k

pokes_one : (pokes : List (ℕ × ℕ)) (s t u : Memory) → PortMade TouchMemory FirstPoke s (poke_calls pokes) t → PortMade TouchMemory FirstPoke s (poke_calls pokes) u → t ≡ u
pokes_one [] s t u m k = m ∙ sym k
pokes_one (p ∷ pokes) s t u m k =
    let same : m.0 ≡ k.0 = poke_one s p.0 p.1 m.0 k.0 m.1 k.1 in
    pokes_one pokes k.0 t u (subst (λ (x : Memory). PortMade TouchMemory FirstPoke x (poke_calls pokes) t) same m.2) k.2

-- touches in order, and the pokes after them, lead to one state
in_order_one : (lines : List ℕ) (pokes : List (ℕ × ℕ)) (stop : Option NoSpace) (calls made : List PortCall) (s t u : Memory) → InOrder lines pokes stop calls → InOrder lines pokes stop made
    → PortMade TouchMemory FirstPoke s calls t → PortMade TouchMemory FirstPoke s made u → t ≡ u
in_order_one [] pokes None calls made s t u o p m k =
    pokes_one pokes s t u (subst (λ (x : List PortCall). PortMade TouchMemory FirstPoke s x t) o m) (subst (λ (x : List PortCall). PortMade TouchMemory FirstPoke s x u) p k)
in_order_one [] pokes (Some refusal) calls made s t u o p m k = absurd o
in_order_one (line ∷ lines) pokes stop [] made s t u o p m k = absurd o
in_order_one (line ∷ lines) pokes stop (Poke at byte ∷ calls) made s t u o p m k = absurd o
in_order_one (line ∷ lines) pokes stop (Touch l (Ok x) ∷ calls) [] s t u o p m k = absurd p
in_order_one (line ∷ lines) pokes stop (Touch l (Ok x) ∷ calls) (Poke at byte ∷ made) s t u o p m k = absurd p
in_order_one (line ∷ lines) pokes stop (Touch l (Ok x) ∷ calls) (Touch l' (Ok y) ∷ made) s t u o p m k =
    let both = touch_memory_one s line (Ok x) (Ok y) m.0 k.0 (subst (λ n. TouchMemory s n (Ok x) m.0) o.0 m.1) (subst (λ n. TouchMemory s n (Ok y) k.0) p.0 k.1) in
    in_order_one lines pokes stop calls made k.0 t u o.1 p.1 (subst (λ (z : Memory). PortMade TouchMemory FirstPoke z calls t) both.1 m.2) k.2
in_order_one (line ∷ lines) pokes stop (Touch l (Ok x) ∷ calls) (Touch l' (Err refusal) ∷ made) s t u o p m k =
    let both = touch_memory_one s line (Ok x) (Err refusal) m.0 k.0 (subst (λ n. TouchMemory s n (Ok x) m.0) o.0 m.1) (subst (λ n. TouchMemory s n (Err refusal) k.0) p.0 k.1) in
    absurd (let no = both.0 in cc)
in_order_one (line ∷ lines) pokes stop (Touch l (Err refusal) ∷ calls) [] s t u o p m k = absurd p
in_order_one (line ∷ lines) pokes stop (Touch l (Err refusal) ∷ calls) (Poke at byte ∷ made) s t u o p m k = absurd p
in_order_one (line ∷ lines) pokes stop (Touch l (Err refusal) ∷ calls) (Touch l' (Ok y) ∷ made) s t u o p m k =
    let both = touch_memory_one s line (Err refusal) (Ok y) m.0 k.0 (subst (λ n. TouchMemory s n (Err refusal) m.0) o.0 m.1) (subst (λ n. TouchMemory s n (Ok y) k.0) p.0 k.1) in
    absurd (let no = both.0 in cc)
in_order_one (line ∷ lines) pokes stop (Touch l (Err refusal) ∷ calls) (Touch l' (Err other) ∷ made) s t u o p m k =
    let both = touch_memory_one s line (Err refusal) (Err other) m.0 k.0 (subst (λ n. TouchMemory s n (Err refusal) m.0) o.0 m.1) (subst (λ n. TouchMemory s n (Err other) k.0) p.0 k.1) in
    let first : t ≡ m.0 = subst (λ (x : List PortCall). PortMade TouchMemory FirstPoke m.0 x t) o.2 m.2 in
    let second : u ≡ k.0 = subst (λ (x : List PortCall). PortMade TouchMemory FirstPoke k.0 x u) p.2 k.2 in
    first ∙ both.1 ∙ sym second

made_one : (lines : List ℕ) (pokes : List (ℕ × ℕ)) (stop : Option NoSpace) (s t u : Memory) → MadeInOrder TouchMemory FirstPoke s lines pokes stop t → MadeInOrder TouchMemory FirstPoke s lines pokes stop u → t ≡ u
made_one lines pokes stop s t u h k = in_order_one lines pokes stop h.calls k.calls s t u h.order k.order h.made k.made

-- a flat state tells the guest's
told : (code : Code) → IsTold (guest_beside code)
unfolding IsTold
told code g h input left output more same =
    let hart : g.hart ≡ h.hart = ap (λ (f : Flat). f.hart) same in
    let brk : g.brk ≡ h.brk = ap (λ (f : Flat). f.brk) same in
    let retired : g.retired ≡ h.retired = ap (λ (f : Flat). f.retired) same in
    let one : GuestState = record { hart = g.hart; brk = g.brk; retired = g.retired } in
    let other : GuestState = record { hart = h.hart; brk = h.brk; retired = h.retired } in
    let guests : one ≡ other = cc in
    (guests, ap (λ (f : Flat). f.input) same)

-- two beats of the hart that leave one guest leave one machine
hart_one : (a b c : MachineState) (result : Option MachineEnd) (s t : Streams) → HartBeats a result b s → HartBeats a result c t → c.guest ≡ b.guest → c ≡ b
hart_one a b c result s t h k guest =
    let code = code_of_machine a in
    let made : MadeInOrder TouchMemory FirstPoke a.memory (lines_at code a.guest) (pokes_at code a.guest result b.guest.hart) (stop_of_beat result) c.memory =
    subst (λ (g : GuestState). MadeInOrder TouchMemory FirstPoke a.memory (lines_at code a.guest) (pokes_at code a.guest result g.hart) (stop_of_beat result) c.memory) guest k.made in
    let memory : c.memory ≡ b.memory = made_one (lines_at code a.guest) (pokes_at code a.guest result b.guest.hart) (stop_of_beat result) a.memory c.memory b.memory made h.made in
    let budget : c.budget ≡ b.budget = k.stays.budget ∙ sym h.stays.budget in
    let beats : c.beats ≡ b.beats = k.stays.beats ∙ sym h.stays.beats in
    let cleaner : c.cleaner_turns ≡ b.cleaner_turns = k.turns.cleaner ∙ sym h.turns.cleaner in
    let ended : c.ended ≡ b.ended = k.ended ∙ sym h.ended in
    let one : MachineState = record { memory = c.memory; guest = c.guest; budget = c.budget; beats = c.beats; cleaner_turns = c.cleaner_turns; ended = c.ended } in
    let other : MachineState = record { memory = b.memory; guest = b.guest; budget = b.budget; beats = b.beats; cleaner_turns = b.cleaner_turns; ended = b.ended } in
    let same : one ≡ other = cc in
    same

-- two turns of the mover from one state leave one, and two of the cleaner
mover_one : (s t u : Below) → MoverBelow MovesPages s t → MoverBelow MovesPages s u → t ≡ u
mover_one s t u h k = h.rest ∙ ap (λ (p : Store). record s { below = p }) (moves_one s.below t.below u.below h.moves k.moves) ∙ sym k.rest

cleaner_one : (s t u : Below) → CleanerBelow StoreRead StoreWrite s t → CleanerBelow StoreRead StoreWrite s u → t ≡ u
cleaner_one s t u h k = (cleans_one StoreRead StoreWrite store_one s h.answer k.answer t u h.cleans k.cleans).1

-- so do two beats with such turns
turn_one : (Turn : Below → Below → Type 0) → ((s t u : Below) → Turn s t → Turn s u → t ≡ u) → (cleaner : ℕ) (a b c : MachineState) (result : Option MachineEnd) (s t : Streams)
    → TurnBeats Turn cleaner a result b s → TurnBeats Turn cleaner a result c t → c ≡ b
turn_one Turn one cleaner a b c result s t h k =
    k.rest ∙ ap (λ (below : Below). record a { memory = with_second a.memory below; cleaner_turns = cleaner }) (one a.memory.below c.memory.below b.memory.below k.turn h.turn) ∙ sym h.rest

module _ (sizing : Sizing) where
  on : (beat : Beat) (a b c : MachineState) (s t : Streams) (bytes : List ℕ) → TellBoth s t bytes → MakesBeat sizing beat a None b s → MakesBeat sizing beat a None c t
      → (c ≡ b) × (left : List ℕ) × (s.input.after ≡ Some left) × (t.input.after ≡ Some left)
  on Hart a b c s t bytes tell h k =
      let steps = steps_same (guest_of_machine a) (told (code_of_machine a)) a.guest b.guest c.guest s t bytes tell h.machine.does k.machine.does in
      (hart_one a b c None s t h.machine k.machine steps.0, steps.1, steps.2, steps.3)
  on Mover a b c s t bytes tell h k = (turn_one (MoverBelow MovesPages) mover_one a.cleaner_turns a b c None s t h.machine k.machine, bytes, h.machine.quiet.0 ∙ tell.first, k.machine.quiet.0 ∙ tell.second)
  on Cleaner a b c s t bytes tell h k = (turn_one (CleanerBelow StoreRead StoreWrite) cleaner_one (raised a.cleaner_turns) a b c None s t h.machine k.machine, bytes, h.machine.quiet.0 ∙ tell.first, k.machine.quiet.0 ∙ tell.second)

  ends : (beat : Beat) (a b c : MachineState) (end : MachineEnd) (s t : Streams) (bytes : List ℕ) → TellBoth s t bytes → MakesBeat sizing beat a (Some end) b s → MakesBeat sizing beat a (Some end) c t → c ≡ b
  ends Hart a b c end s t bytes tell h k =
      hart_one a b c (Some end) s t h.machine k.machine (ends_same (guest_of_machine a) (told (code_of_machine a)) a.guest b.guest c.guest end s t h.machine.does k.machine.does)
  ends Mover a b c end s t bytes tell h k = absurd (let no = h.machine.none in cc)
  ends Cleaner a b c end s t bytes tell h k = absurd (let no = h.machine.none in cc)

  apart : (beat : Beat) (a b c : MachineState) (end : MachineEnd) (s t : Streams) (bytes : List ℕ) → TellBoth s t bytes → MakesBeat sizing beat a (Some end) b s → MakesBeat sizing beat a None c t → b.guest.retired < c.guest.retired
  apart Hart a b c end s t bytes tell h k = ends_apart (guest_of_machine a) a.guest b.guest c.guest end s t bytes tell h.machine.does k.machine.does
  apart Mover a b c end s t bytes tell h k = absurd (let no = h.machine.none in cc)
  apart Cleaner a b c end s t bytes tell h k = absurd (let no = h.machine.none in cc)

  rises : (beat : Beat) (a b : MachineState) (result : Option MachineEnd) (s : Streams) → MakesBeat sizing beat a result b s → a.guest.retired ≤ b.guest.retired
  rises Hart a b None s h = omega (arith, h.machine.does.retired)
  rises Hart a b (Some end) s h = ends_rise (guest_of_machine a) a.guest b.guest end s h.machine.does
  rises Mover a b result s h = omega (arith, ap (λ (t : MachineState). t.guest.retired) h.machine.rest)
  rises Cleaner a b result s h = omega (arith, ap (λ (t : MachineState). t.guest.retired) h.machine.rest)

  stops : (budget : ℕ) (a b : MachineState) (end : MachineEnd) → stands_at budget a ≡ Some (end, b) → a.guest.retired ≤ b.guest.retired
  stops budget a b end stop =
      let so = (stop_is budget a b end stop).1 in
      omega (arith, ap (λ (s : MachineState). s.guest.retired) so)

  is_determined : IsDetermined (λ (s : MachineState). s.guest.retired) stands_at (MakesBeat sizing)
  is_determined = record { on = on; ends = ends; apart = apart; rises = rises; stops = stops }

pub machine_runs_are_one : RunsAreOne
machine_runs_are_one old end new other s t bytes one two h k same =
    let sizing = sizing_of (store_of old.memory) in
    one_run (λ (m : MachineState). m.guest.retired) stands_at (MakesBeat sizing) (is_determined sizing) old.beats old.budget old s t bytes (record { first = one; second = two }) end new other h.beats k.beats same
