-- A beat of the machine is one of the lists of both levels above the contents.
use Rattle.std.proofs.Common.{◌≡◌, ◌∙◌, ℕ, List, [], ◌∷◌, Option, Result, Ok, Err, refl, ap, subst, sym}
use Rattle.hier_types.specs.declared.access.Access.{Access}
use Rattle.hier_types.specs.declared.faults.NoSpace.{NoSpace}
use Rattle.hier_types.specs.Calls.{Answer, Call, Makes}
use Rattle.hier_types.specs.Causes.{Refuses, raised, refusal_of}
use Rattle.hier_types.specs.PortCalls.{MadeInOrder}
use Rattle.hier_types.specs.Span.{line_at}
use Rattle.hier_types.specs.Streams.{Streams}
use Rattle.l1_cache.specs.FirstCalls.{FirstPoke}
use Rattle.l1_cache.specs.Touches.{Touches}
use Rattle.l2_cache.specs.declared.clean.Clean.{Clean}
use Rattle.l2_cache.specs.SecondCalls.{SecondCleans, SecondRead, SecondWrite}
use Rattle.l2_cache.specs.Turns.{Cleans, ReadsSecond, WritesSecond}
use Rattle.line_codec.specs.Slots.{size_under}
use Rattle.page_store.specs.Calls.{StoreRead, StoreWrite, Tidies}
use Rattle.page_store.specs.Crowds.{Crowded}
use Rattle.page_store.specs.Contents.{Contents, ContentsRead, ContentsWrite, contents_of}
use Rattle.page_store.specs.Store.{Sizing, Store, sizing_of}
use Rattle.page_store.proofs.ContentLemmas.{store_reads, store_writes}
use Rattle.rv_core.specs.Accesses.{address_of, pokes_of_access}
use Rattle.rv_guest.specs.declared.ends.MachineEnd.{MachineEnd}
use Rattle.rv_guest.specs.FollowsFlat.{Idles}
use Rattle.rv_guest.specs.Lines.{lines_at, pokes_at, stop_of_beat}
use Rattle.rv_guest.specs.Steps.{DoesBeat}
use Rattle.hier_machine.specs.Accesses.{AccessBeats, DoesAccess}
use Rattle.hier_machine.specs.Beats.{MovesPages, TurnBeats}
use Rattle.hier_machine.specs.Levels.{CleanerBelow, MoverBelow, TouchLevels, levels_above, second_above}
use Rattle.hier_machine.specs.Lists.{ListsAccess, ListsClean, ListsHart, ListsMade, ListsState, lists_of}
use Rattle.hier_machine.specs.Memory.{Below, Memory, TouchMemory, guest_bytes, store_of, with_second}
use Rattle.hier_machine.specs.State.{MachineState, code_of_machine, guest_of_machine}
use Rattle.hier_machine.proofs.KeepingLemmas.{Makes-keeping, MadeInOrder-keeping}
use Rattle.hier_machine.proofs.MoveLemmas.{moves_contents, moves_sizing, moves_turns}

-- What no read and no write of a store changes: its size, and how often the mover had a turn.
pub record Lasting : Type 0 where
  pub sizing : Sizing
  pub turns : ℕ

abbrev pub lasting_of : Store → Lasting
lasting_of s = record { sizing = sizing_of s; turns = s.counts.mover_turns }

module _ (lasting : Lasting) where
  abbrev pub size : Sizing
  size = lasting.sizing

  -- it stays in the store, below the second level, and below both
  abbrev pub Lasts : Store → Type 0
  Lasts s = lasting_of s ≡ lasting

  abbrev pub LastsBelow : Below → Type 0
  LastsBelow s = Lasts s.below

  abbrev pub LastsUnder : Memory → Type 0
  LastsUnder m = Lasts (store_of m)

  lasts_by : (s : Store) → sizing_of s ≡ lasting.sizing → s.counts.mover_turns ≡ lasting.turns → Lasts s
  lasts_by s sizing turns =
      let one : Lasting = record { sizing = sizing_of s; turns = s.counts.mover_turns } in
      let other : Lasting = record { sizing = lasting.sizing; turns = lasting.turns } in
      let same : one ≡ other = cc in
      same

  pub lasting_reads : (s : Store) (line : ℕ) (answer : Result (List ℕ) NoSpace) (t : Store) → Lasts s → StoreRead s line answer t → Lasts t × ContentsRead (contents_of s) line answer (contents_of t)
  lasting_reads s line (Ok bytes) t lasts did =
      let all = store_reads size s line (Ok bytes) t (ap (λ (k : Lasting). k.sizing) lasts) did in
      (lasts_by t all.0 (did.outline.turns_stay ∙ ap (λ (k : Lasting). k.turns) lasts), all.1)
  lasting_reads s line (Err refusal) t lasts did = absurd did

  pub lasting_writes : (s : Store) (line : ℕ) (bytes : List ℕ) (answer : Answer) (t : Store) → Lasts s → StoreWrite s line bytes answer t
      → Lasts t × ContentsWrite size (contents_of s) line bytes answer (contents_of t)
  lasting_writes s line bytes (Ok u) t lasts did =
      let all = store_writes size s line bytes (Ok u) t (ap (λ (k : Lasting). k.sizing) lasts) did in
      (lasts_by t all.0 (did.outline.turns_stay ∙ ap (λ (k : Lasting). k.turns) lasts), all.1)
  lasting_writes s line bytes (Err refusal) t lasts did =
      let all = store_writes size s line bytes (Err refusal) t (ap (λ (k : Lasting). k.sizing) lasts) did in
      (lasts_by t all.0 (did.outline.turns_stay ∙ ap (λ (k : Lasting). k.turns) lasts), all.1)

  -- and tidying leaves it too
  pub lasting_tidies : (s t : Store) → Lasts s → Tidies s t → Lasts t
  lasting_tidies s t lasts h = lasts_by t (h.sizing_is ∙ ap (λ (k : Lasting). k.sizing) lasts) (h.turns_stay ∙ ap (λ (k : Lasting). k.turns) lasts)

  -- calls of the store are calls of its contents
  pub store_made : (Gives : List Call → Type 0) (s t : Store) → Lasts s → Makes StoreRead StoreWrite s Gives t
      → Lasts t × Makes ContentsRead (ContentsWrite size) (contents_of s) Gives (contents_of t)
  store_made Gives s t lasts made = Makes-keeping contents_of Lasts StoreRead StoreWrite ContentsRead (ContentsWrite size) lasting_reads lasting_writes Gives s t lasts made

  pub second_reads : (s : Below) (line : ℕ) (answer : Result (List ℕ) NoSpace) (t : Below) → LastsBelow s → SecondRead StoreRead StoreWrite s line answer t
      → LastsBelow t × SecondRead ContentsRead (ContentsWrite size) (second_above contents_of s) line answer (second_above contents_of t)
  second_reads s line answer t lasts did =
      let all = store_made (ReadsSecond (size_under s.codec) s.sets line answer t.sets) s.below t.below lasts did.made in
      (all.0, record { codec = did.codec; cursor = did.cursor; counts = did.counts; made = all.1 })

  pub second_writes : (s : Below) (line : ℕ) (bytes : List ℕ) (answer : Answer) (t : Below) → LastsBelow s → SecondWrite StoreRead StoreWrite s line bytes answer t
      → LastsBelow t × SecondWrite ContentsRead (ContentsWrite size) (second_above contents_of s) line bytes answer (second_above contents_of t)
  second_writes s line bytes answer t lasts did =
      let all = store_made (WritesSecond (size_under s.codec) s.sets line bytes answer t.sets) s.below t.below lasts did.made in
      (all.0, record { codec = did.codec; cursor = did.cursor; counts = did.counts; made = all.1 })

  -- a turn of the cleaner over the pages is one over the contents
  pub second_cleans : (s : Below) (answer : Clean) (t : Below) → LastsBelow s → SecondCleans StoreRead StoreWrite s answer t
      → LastsBelow t × SecondCleans ContentsRead (ContentsWrite size) (second_above contents_of s) answer (second_above contents_of t)
  second_cleans s answer t lasts did =
      let all = store_made (Cleans s.sets s.cursor answer t.sets) s.below t.below lasts did.made in
      (all.0, record { codec = did.codec; cursor = did.cursor; counts = did.counts; made = all.1 })

  touches : (s : Memory) (line : ℕ) (answer : Answer) (t : Memory) → LastsUnder s → TouchMemory s line answer t
      → LastsUnder t × TouchLevels ContentsRead (ContentsWrite size) (levels_above contents_of s) line answer (levels_above contents_of t)
  touches s line answer t lasts did =
      let all = Makes-keeping (second_above contents_of) LastsBelow (SecondRead StoreRead StoreWrite) (SecondWrite StoreRead StoreWrite) (SecondRead ContentsRead (ContentsWrite size)) (SecondWrite ContentsRead (ContentsWrite size))
      second_reads second_writes (Touches s.sets s.counts line answer t.sets t.counts) s.below t.below lasts did.made in
      (all.0, record { span = did.span; held = did.held; made = all.1 })

  pokes : (s : Memory) (at byte : ℕ) (t : Memory) → LastsUnder s → FirstPoke s at byte t → LastsUnder t × FirstPoke (levels_above contents_of s) at byte (levels_above contents_of t)
  pokes s at byte t lasts did =
      (subst LastsBelow (sym did.below) lasts, record { span = did.span; held = did.held; below = ap (second_above contents_of) did.below; counts = did.counts; sets = did.sets })

  -- touches and pokes of the memory are touches and pokes of the lists above the contents
  pub lists_made : (s : Memory) (lines : List ℕ) (bytes : List (ℕ × ℕ)) (stop : Option NoSpace) (t : Memory) → LastsUnder s → MadeInOrder TouchMemory FirstPoke s lines bytes stop t
      → LastsUnder t × ListsMade size (levels_above contents_of s) lines bytes stop (levels_above contents_of t)
  lists_made s lines bytes stop t lasts made =
      MadeInOrder-keeping (levels_above contents_of) LastsUnder TouchMemory FirstPoke (TouchLevels ContentsRead (ContentsWrite size)) FirstPoke touches pokes s lines bytes stop t lasts made

-- a beat of the hart, by what the guest did and the calls that it made
pub lists_hart : (old new : MachineState) (result : Option MachineEnd) (streams : Streams) → DoesBeat (guest_of_machine old) old.guest result new.guest streams
    → MadeInOrder TouchMemory FirstPoke old.memory (lines_at (code_of_machine old) old.guest) (pokes_at (code_of_machine old) old.guest result new.guest.hart) (stop_of_beat result) new.memory
    → new.guest.hart.bytes ≡ guest_bytes new.memory → ListsHart (sizing_of (store_of old.memory)) (lists_of old) result (lists_of new) streams
lists_hart old new result streams does made shows = record {
  does = does;
  made = (lists_made (lasting_of (store_of old.memory)) old.memory (lines_at (code_of_machine old) old.guest) (pokes_at (code_of_machine old) old.guest result new.guest.hart) (stop_of_beat result) new.memory refl made).1;
  shows = shows;
}

-- an access, in the same way
pub lists_access : (old new : MachineState) (access : Access) (result : Result ℕ NoSpace) → DoesAccess old.memory.span access old.guest result new.guest
    → MadeInOrder TouchMemory FirstPoke old.memory (line_at old.memory.span (address_of access) ∷ []) (pokes_of_access access) (refusal_of result) new.memory
    → new.guest.hart.bytes ≡ guest_bytes new.memory → ListsAccess (sizing_of (store_of old.memory)) (lists_of old) access result (lists_of new)
lists_access old new access result does made shows = record {
  does = does;
  made = (lists_made (lasting_of (store_of old.memory)) old.memory (line_at old.memory.span (address_of access) ∷ []) (pokes_of_access access) (refusal_of result) new.memory refl made).1;
  shows = shows;
}

-- touches and pokes leave the store's size and the turns of the mover
made_lasting : (s t : Memory) (lines : List ℕ) (bytes : List (ℕ × ℕ)) (stop : Option NoSpace) → MadeInOrder TouchMemory FirstPoke s lines bytes stop t → lasting_of (store_of t) ≡ lasting_of (store_of s)
made_lasting s t lines bytes stop made = (lists_made (lasting_of (store_of s)) s lines bytes stop t refl made).0

pub made_sizing : (s t : Memory) (lines : List ℕ) (bytes : List (ℕ × ℕ)) (stop : Option NoSpace) → MadeInOrder TouchMemory FirstPoke s lines bytes stop t → sizing_of (store_of t) ≡ sizing_of (store_of s)
made_sizing s t lines bytes stop made = ap (λ (k : Lasting). k.sizing) (made_lasting s t lines bytes stop made)

pub made_turns : (s t : Memory) (lines : List ℕ) (bytes : List (ℕ × ℕ)) (stop : Option NoSpace) → MadeInOrder TouchMemory FirstPoke s lines bytes stop t → (store_of t).counts.mover_turns ≡ (store_of s).counts.mover_turns
made_turns s t lines bytes stop made = ap (λ (k : Lasting). k.turns) (made_lasting s t lines bytes stop made)

-- an access by what it did and the calls that it made
pub accesses : (old new : MachineState) (access : Access) (result : Result ℕ NoSpace) → DoesAccess old.memory.span access old.guest result new.guest
    → MadeInOrder TouchMemory FirstPoke old.memory (line_at old.memory.span (address_of access) ∷ []) (pokes_of_access access) (refusal_of result) new.memory
    → Refuses (store_of old.memory).stops (store_of new.memory).stops (Crowded (store_of new.memory)) result
    → new.memory.span ≡ old.memory.span → code_of_machine new ≡ code_of_machine old → new.budget ≡ old.budget → new.beats ≡ old.beats → new.cleaner_turns ≡ old.cleaner_turns → new.ended ≡ old.ended → AccessBeats old access result new
accesses old new access result does made cause span code budget beats cleaner ended = record {
  does = does;
  made = made;
  cause = cause;
  stays = record { span = span; code = code; sizing = made_sizing old.memory new.memory (line_at old.memory.span (address_of access) ∷ []) (pokes_of_access access) (refusal_of result) made; budget = budget; beats = beats };
  turns = record { mover = made_turns old.memory new.memory (line_at old.memory.span (address_of access) ∷ []) (pokes_of_access access) (refusal_of result) made; cleaner = cleaner };
  ended = ended;
}

-- a turn of the cleaner is one of the lists above the contents, and leaves the store's size and the turns of the mover
cleaned : (old new : Below) → CleanerBelow StoreRead StoreWrite old new
    → (lasting_of new.below ≡ lasting_of old.below) × CleanerBelow ContentsRead (ContentsWrite (sizing_of old.below)) (second_above contents_of old) (second_above contents_of new)
cleaned old new h =
    let all = second_cleans (lasting_of old.below) old h.answer new refl h.cleans in
    (all.0, record { answer = h.answer; cleans = all.1 })

pub cleaned_sizing : (old new : Below) → CleanerBelow StoreRead StoreWrite old new → sizing_of new.below ≡ sizing_of old.below
cleaned_sizing old new h = ap (λ (k : Lasting). k.sizing) (cleaned old new h).0

pub cleaned_turns : (old new : Below) → CleanerBelow StoreRead StoreWrite old new → new.below.counts.mover_turns ≡ old.below.counts.mover_turns
cleaned_turns old new h = ap (λ (k : Lasting). k.turns) (cleaned old new h).0

-- a beat of the cleaner
pub lists_clean : (cleaner : ℕ) (old new : MachineState) (result : Option MachineEnd) (streams : Streams) → TurnBeats (CleanerBelow StoreRead StoreWrite) cleaner old result new streams
    → new.guest.hart.bytes ≡ guest_bytes new.memory → ListsClean (sizing_of (store_of old.memory)) (lists_of old) result (lists_of new) streams
lists_clean cleaner old new result streams h shows =
    record { none = h.none; cleans = (cleaned old.memory.below new.memory.below h.turn).1; rest = ap lists_of h.rest; shows = shows; quiet = h.quiet }

-- a turn of the mover leaves the store's size and its contents, and is counted
pub moved_sizing : (old new : Below) → MoverBelow MovesPages old new → sizing_of new.below ≡ sizing_of old.below
moved_sizing old new h = moves_sizing old.below new.below h.moves

pub moved_turns : (old new : Below) → MoverBelow MovesPages old new → new.below.counts.mover_turns ≡ raised old.below.counts.mover_turns
moved_turns old new h = moves_turns old.below new.below h.moves

-- a beat of the mover leaves the lists above the contents as they are
pub lists_move : (cleaner : ℕ) (old new : MachineState) (result : Option MachineEnd) (streams : Streams) → TurnBeats (MoverBelow MovesPages) cleaner old result new streams → Idles (lists_of old) result (lists_of new) streams
lists_move cleaner old new result streams h =
    let over : Contents → ListsState = λ contents. record { memory = record (levels_above contents_of old.memory) { below = record (second_above contents_of old.memory.below) { below = contents } }; guest = old.guest } in
    let same : lists_of new ≡ over (contents_of (store_of new.memory)) = ap lists_of h.rest ∙ ap (λ (b : Below). lists_of (record old { memory = with_second old.memory b })) h.turn.rest in
    record { none = h.none; same = same ∙ ap over (moves_contents (store_of old.memory) (store_of new.memory) h.turn.moves); quiet = h.quiet }
