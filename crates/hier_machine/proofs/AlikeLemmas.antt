-- A beat leaves lists of both levels alike.
use Rattle.std.proofs.Common.{◌≡◌, ℕ, List, [], ◌∷◌, Option, Some, None, Result, Ok, Err, set, refl, sym, ap, ◌∙◌, subst}
use Rattle.std.specs.List.{slice_get}
use Rattle.hier_types.specs.declared.faults.NoSpace.{NoSpace}
use Rattle.hier_types.specs.Calls.{Answer}
use Rattle.hier_types.specs.PortCalls.{PortCall, Touch, Poke, PortMade, InOrder, MadeInOrder, poke_calls}
use Rattle.hier_types.specs.Span.{Span}
use Rattle.hier_types.specs.Streams.{Streams}
use Rattle.beat_runs.proofs.OneRun.{TellBoth}
use Rattle.l1_cache.specs.FirstCalls.{FirstPoke}
use Rattle.l1_cache.proofs.AlikeLemmas.{KeepsAlike, SameFirst, poke_same, touch_same}
use Rattle.l2_cache.specs.SecondCalls.{SecondRead, SecondWrite}
use Rattle.l2_cache.specs.SecondLevel.{SecondLevel}
use Rattle.l2_cache.proofs.AlikeLemmas.{AreAlike, HasLines, alike_back, alike_join, cleans_alike, read_alike, write_alike}
use Rattle.page_store.specs.Contents.{Contents, ContentsRead, ContentsWrite}
use Rattle.page_store.specs.Store.{Sizing}
use Rattle.rv_core.specs.Code.{Code}
use Rattle.rv_guest.specs.declared.ends.MachineEnd.{MachineEnd}
use Rattle.rv_guest.specs.Beside.{guest_at, guest_beside}
use Rattle.rv_guest.specs.Flat.{Flat}
use Rattle.rv_guest.specs.FollowsFlat.{Idles}
use Rattle.rv_guest.specs.Lines.{lines_at, pokes_at, stop_of_beat}
use Rattle.rv_guest.specs.State.{GuestState, code_at}
use Rattle.rv_guest.specs.Steps.{DoesBeat}
use Rattle.rv_guest.proofs.OneBeatLemmas.{IsTold, ends_same, steps_same}
use Rattle.hier_machine.specs.Levels.{Levels, TouchLevels}
use Rattle.hier_machine.specs.Lists.{ListsClean, ListsHart, ListsMade, ListsState}

-- the lines of contents
abbrev lines_in : Contents → List (List ℕ)
lines_in c = c.lines

-- second levels that are alike over contents, and the same first levels over them
abbrev pub AlikeBelow : SecondLevel Contents → SecondLevel Contents → Type 0
AlikeBelow s u = AreAlike lines_in s u

abbrev pub AlikeLevels : Levels Contents → Levels Contents → Type 0
AlikeLevels s u = SameFirst AlikeBelow s u

-- The lists of two machines are alike, and their guests are the same.
pub record AlikeLists (s u : ListsState) : Type 0 where
  pub memory : AlikeLevels s.memory u.memory
  pub guest : u.guest ≡ s.guest

module _ (sizing : Sizing) where
  -- contents have lines
  contents_lines : HasLines ContentsRead (ContentsWrite sizing) lines_in
  contents_lines = record {
    reads = λ s line bytes t did. (did.0, ap lines_in did.1);
    writes = λ s line bytes t did. ap lines_in did;
    refuses = λ s line bytes refusal t did. ap lines_in did.1;
  }

  second_keeps : KeepsAlike (SecondRead ContentsRead (ContentsWrite sizing)) (SecondWrite ContentsRead (ContentsWrite sizing)) AlikeBelow
  second_keeps = record {
    reads = λ s u line b c t v alike h k. read_alike ContentsRead (ContentsWrite sizing) lines_in contents_lines s u line b c t v alike h k;
    writes = λ s u line bytes t v alike h k. write_alike ContentsRead (ContentsWrite sizing) lines_in contents_lines s u line bytes t v alike h k;
  }

  abbrev TouchLists : Levels Contents → ℕ → Answer → Levels Contents → Type 0
  TouchLists s line answer t = TouchLevels ContentsRead (ContentsWrite sizing) s line answer t

  touch_alike : (s u : Levels Contents) (line : ℕ) (t v : Levels Contents) → AlikeLevels s u → TouchLists s line (Ok tt) t → TouchLists u line (Ok tt) v → AlikeLevels t v
  touch_alike s u line t v alike h k =
      touch_same (SecondRead ContentsRead (ContentsWrite sizing)) (SecondWrite ContentsRead (ContentsWrite sizing)) AlikeBelow second_keeps s u line t v alike h k

  pokes_alike : (pokes : List (ℕ × ℕ)) (s u t v : Levels Contents) → AlikeLevels s u → PortMade TouchLists FirstPoke s (poke_calls pokes) t → PortMade TouchLists FirstPoke u (poke_calls pokes) v → AlikeLevels t v
  pokes_alike [] s u t v alike m k = subst (λ (z : Levels Contents). AlikeLevels z v) (sym m) (subst (λ (z : Levels Contents). AlikeLevels s z) (sym k) alike)
  pokes_alike (p ∷ pokes) s u t v alike m k = pokes_alike pokes m.0 k.0 t v (poke_same AlikeBelow s u p.0 p.1 m.0 k.0 alike m.1 k.1) m.2 k.2

  -- touches in order that are answered, and the pokes after them
  in_order_alike : (lines : List ℕ) (pokes : List (ℕ × ℕ)) (calls made : List PortCall) (s u t v : Levels Contents) → AlikeLevels s u → InOrder lines pokes None calls → InOrder lines pokes None made
      → PortMade TouchLists FirstPoke s calls t → PortMade TouchLists FirstPoke u made v → AlikeLevels t v
  in_order_alike [] pokes calls made s u t v alike o p m k =
      pokes_alike pokes s u t v alike (subst (λ (x : List PortCall). PortMade TouchLists FirstPoke s x t) o m) (subst (λ (x : List PortCall). PortMade TouchLists FirstPoke u x v) p k)
  in_order_alike (line ∷ lines) pokes [] made s u t v alike o p m k = absurd o
  in_order_alike (line ∷ lines) pokes (Poke at byte ∷ calls) made s u t v alike o p m k = absurd o
  in_order_alike (line ∷ lines) pokes (Touch l (Err refusal) ∷ calls) made s u t v alike o p m k = absurd (let no = o.1 in cc)
  in_order_alike (line ∷ lines) pokes (Touch l (Ok x) ∷ calls) [] s u t v alike o p m k = absurd p
  in_order_alike (line ∷ lines) pokes (Touch l (Ok x) ∷ calls) (Poke at byte ∷ made) s u t v alike o p m k = absurd p
  in_order_alike (line ∷ lines) pokes (Touch l (Ok x) ∷ calls) (Touch l' (Err refusal) ∷ made) s u t v alike o p m k = absurd (let no = p.1 in cc)
  in_order_alike (line ∷ lines) pokes (Touch l (Ok x) ∷ calls) (Touch l' (Ok y) ∷ made) s u t v alike o p m k =
      let mids = touch_alike s u line m.0 k.0 alike (subst (λ n. TouchLists s n (Ok tt) m.0) o.0 m.1) (subst (λ n. TouchLists u n (Ok tt) k.0) p.0 k.1) in
      in_order_alike lines pokes calls made m.0 k.0 t v mids o.1 p.1 m.2 k.2

  made_alike : (lines : List ℕ) (pokes : List (ℕ × ℕ)) (s u t v : Levels Contents) → AlikeLevels s u → ListsMade sizing s lines pokes None t → ListsMade sizing u lines pokes None v → AlikeLevels t v
  made_alike lines pokes s u t v alike h k = in_order_alike lines pokes h.calls k.calls s u t v alike h.order k.order h.made k.made

  told : (code : Code) → IsTold (guest_beside code)
  unfolding IsTold
  told code g h input left output more same =
      let hart : g.hart ≡ h.hart = ap (λ (f : Flat). f.hart) same in
      let brk : g.brk ≡ h.brk = ap (λ (f : Flat). f.brk) same in
      let retired : g.retired ≡ h.retired = ap (λ (f : Flat). f.retired) same in
      let one : GuestState = record { hart = g.hart; brk = g.brk; retired = g.retired } in
      let other : GuestState = record { hart = h.hart; brk = h.brk; retired = h.retired } in
      let guests : one ≡ other = cc in
      (guests, ap (λ (f : Flat). f.input) same)

  -- what the second of two alike lists does, it does from the guest and the span of the first
  does_first : (a c : ListsState) (result : Option MachineEnd) (d : GuestState) (t : Streams) → AlikeLists a c → DoesBeat (guest_at c.memory.span c.guest) c.guest result d t → DoesBeat (guest_at a.memory.span a.guest) a.guest result d t
  does_first a c result d t alike does =
      subst (λ (span : Span). DoesBeat (guest_at span a.guest) a.guest result d t) (sym alike.memory.span) (subst (λ (g : GuestState). DoesBeat (guest_at c.memory.span g) g result d t) alike.guest does)

  hart_made : (a b c d : ListsState) (result : Option MachineEnd) (s t : Streams) → stop_of_beat result ≡ None → AlikeLists a c → ListsHart sizing a result b s → ListsHart sizing c result d t → d.guest ≡ b.guest → AlikeLists b d
  hart_made a b c d result s t answered alike h k guest =
      let Lines : Span → GuestState → List ℕ = λ span g. lines_at (code_at span g) g in
      let Pokes : Span → GuestState → GuestState → List (ℕ × ℕ) = λ span g new. pokes_at (code_at span g) g result new.hart in
      let Stop : Option NoSpace = stop_of_beat result in
      let other : ListsMade sizing c.memory (Lines a.memory.span a.guest) (Pokes a.memory.span a.guest b.guest) Stop d.memory =
      subst (λ (span : Span). ListsMade sizing c.memory (Lines span a.guest) (Pokes span a.guest b.guest) Stop d.memory) (sym alike.memory.span)
      (subst (λ (g : GuestState). ListsMade sizing c.memory (Lines c.memory.span g) (Pokes c.memory.span g b.guest) Stop d.memory) alike.guest
      (subst (λ (g : GuestState). ListsMade sizing c.memory (Lines c.memory.span c.guest) (Pokes c.memory.span c.guest g) Stop d.memory) guest k.made)) in
      let one : ListsMade sizing a.memory (Lines a.memory.span a.guest) (Pokes a.memory.span a.guest b.guest) None b.memory =
      subst (λ (stop : Option NoSpace). ListsMade sizing a.memory (Lines a.memory.span a.guest) (Pokes a.memory.span a.guest b.guest) stop b.memory) answered h.made in
      record {
        memory = made_alike (Lines a.memory.span a.guest) (Pokes a.memory.span a.guest b.guest) a.memory c.memory b.memory d.memory alike.memory one
            (subst (λ (stop : Option NoSpace). ListsMade sizing c.memory (Lines a.memory.span a.guest) (Pokes a.memory.span a.guest b.guest) stop d.memory) answered other);
        guest = guest;
      }

  -- a beat of the hart over told input that ends nothing
  pub hart_alike : (a b c d : ListsState) (s t : Streams) (bytes : List ℕ) → TellBoth s t bytes → AlikeLists a c → ListsHart sizing a None b s → ListsHart sizing c None d t
      → AlikeLists b d × (left : List ℕ) × (s.input.after ≡ Some left) × (t.input.after ≡ Some left)
  hart_alike a b c d s t bytes tell alike h k =
      let code = code_at a.memory.span a.guest in
      let steps = steps_same (guest_beside code) (told code) a.guest b.guest d.guest s t bytes tell h.does (does_first a c None d.guest t alike k.does) in
      (hart_made a b c d None s t refl alike h k steps.0, steps.1, steps.2, steps.3)

  -- and one that ends a run, and not for want of room
  pub hart_ends_alike : (a b c d : ListsState) (end : MachineEnd) (s t : Streams) → stop_of_beat (Some end) ≡ None → AlikeLists a c → ListsHart sizing a (Some end) b s → ListsHart sizing c (Some end) d t → AlikeLists b d
  hart_ends_alike a b c d end s t answered alike h k =
      let code = code_at a.memory.span a.guest in
      hart_made a b c d (Some end) s t answered alike h k
      (ends_same (guest_beside code) (told code) a.guest b.guest d.guest end s t h.does (does_first a c (Some end) d.guest t alike k.does))

  -- a beat of the cleaner leaves the lists alike to what they were
  pub cleaner_alike : (a b c : ListsState) (result : Option MachineEnd) (s : Streams) → AlikeLists a c → ListsClean sizing a result b s → AlikeLists b c
  cleaner_alike a b c result s alike h =
      let below : AlikeBelow b.memory.below a.memory.below =
      cleans_alike ContentsRead (ContentsWrite sizing) lines_in contents_lines a.memory.below h.cleans.answer b.memory.below alike.memory.below.first_placed h.cleans.cleans in
      record {
        memory = record {
          below = alike_join lines_in b.memory.below a.memory.below c.memory.below below alike.memory.below;
          sets = ap (λ (l : ListsState). l.memory.sets) h.rest ∙ alike.memory.sets;
          held = ap (λ (l : ListsState). l.memory.held) h.rest ∙ alike.memory.held;
          counts = ap (λ (l : ListsState). l.memory.counts) h.rest ∙ alike.memory.counts;
          span = ap (λ (l : ListsState). l.memory.span) h.rest ∙ alike.memory.span;
        };
        guest = alike.guest ∙ sym (ap (λ (l : ListsState). l.guest) h.rest);
      }

-- alike both ways
pub lists_back : (a c : ListsState) → AlikeLists a c → AlikeLists c a
lists_back a c h = record {
  memory = record {
    below = alike_back lines_in a.memory.below c.memory.below h.memory.below;
    sets = sym h.memory.sets;
    held = sym h.memory.held;
    counts = sym h.memory.counts;
    span = sym h.memory.span;
  };
  guest = sym h.guest;
}
