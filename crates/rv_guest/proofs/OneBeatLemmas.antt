-- Over told input an instruction has one answer, but for a failure of a stream.
use Rattle.std.proofs.Common.{◌≡◌, ◌<◌, ◌≤◌, ℕ, List, [], ◌++◌, Option, Some, IfSome, sym, ◌∙◌, ap, subst, arith}
use Rattle.hier_types.specs.Streams.{Stream, Streams}
use Rattle.beat_runs.proofs.OneRun.{TellBoth}
use Rattle.rv_guest.specs.declared.ends.MachineEnd.{MachineEnd}
use Rattle.rv_guest.specs.declared.ends.MachineEnd.TheVariants.{Exit, Trap, Budget, Space, InFault, OutFault}
use Rattle.rv_guest.specs.Beside.{Beside}
use Rattle.rv_guest.specs.FlatRun.{Next, Exits, Traps}
use Rattle.rv_guest.specs.Steps.{DoesBeat, MakesStep}

-- what is told tells the state and the input
unfoldable pub IsTold : {G F : Type 0} → Beside G F → Type 0
IsTold {G} m = (g h : G) (input left output more : List ℕ) → m.told g input output ≡ m.told h left more → (g ≡ h) × (input ≡ left)

next_same : {F : Type 0} (x y : F) → Next x ≡ Next y → x ≡ y
next_same x y e = cc

exits_same : {F : Type 0} (status : ℕ) (x y : F) → Exits status x ≡ Exits status y → x ≡ y
exits_same status x y e = cc

module _ {G F : Type 0} (m : Beside G F) where
  -- a step over told input
  record StepsOver (old new : G) (input : Stream) (bytes : List ℕ) : Type 0 where
    left : List ℕ
    after : input.after ≡ Some left
    wrote : List ℕ
    step : (output : List ℕ) → m.step (m.told old bytes output) ≡ Next (m.told new left (output ++ wrote))

  steps_over : (old new : G) (s : Streams) (bytes : List ℕ) → s.input.before ≡ Some bytes → MakesStep m old new s → StepsOver old new s.input bytes
  steps_over old new s bytes told h =
      let Told : List ℕ → Type 0 = λ input. (h.before ≡ input) × (s.input.after ≡ Some h.left) in
      let Tells : Option (List ℕ) → Type 0 = λ o. IfSome o Told in
      let so : Told bytes = subst Tells told h.told in
      record { left = h.left; after = so.1; wrote = h.bytes; step = λ output. subst (λ input. m.step (m.told old input output) ≡ Next (m.told new h.left (output ++ h.bytes))) so.0 (h.step output) }

  pub steps_same : IsTold m → (a b c : G) (s t : Streams) (bytes : List ℕ) → TellBoth s t bytes → MakesStep m a b s → MakesStep m a c t → (c ≡ b) × (left : List ℕ) × (s.input.after ≡ Some left) × (t.input.after ≡ Some left)
  unfolding IsTold
  steps_same is_told a b c s t bytes told h k =
      let one = steps_over a b s bytes told.first h in
      let two = steps_over a c t bytes told.second k in
      let both = next_same (m.told c two.left ([] ++ two.wrote)) (m.told b one.left ([] ++ one.wrote)) (sym (two.step []) ∙ one.step []) in
      let same = is_told c b two.left one.left ([] ++ two.wrote) ([] ++ one.wrote) both in
      (same.0, one.left, one.after, two.after ∙ ap (λ l. Some l) same.1)

  pub ends_same : IsTold m → (a b c : G) (end : MachineEnd) (s t : Streams) → DoesBeat m a (Some end) b s → DoesBeat m a (Some end) c t → c ≡ b
  unfolding IsTold
  ends_same is_told a b c (Exit status) s t h k =
      (is_told c b [] [] [] [] (exits_same status (m.told c [] []) (m.told b [] []) (sym (k.step [] []) ∙ h.step [] []))).0
  ends_same is_told a b c (Trap trap) s t h k = k.same ∙ sym h.same
  ends_same is_told a b c InFault s t h k = k.same ∙ sym h.same
  ends_same is_told a b c OutFault s t h k = k.same ∙ sym h.same
  ends_same is_told a b c (Space refusal) s t h k = k.0 ∙ sym h.0
  ends_same is_told a b c Budget s t h k = absurd h

  -- a beat that ends a run retires fewer instructions than the same one where it ends none
  pub ends_apart : (a b c : G) (end : MachineEnd) (s t : Streams) (bytes : List ℕ) → TellBoth s t bytes → DoesBeat m a (Some end) b s → MakesStep m a c t → m.retired b < m.retired c
  ends_apart a b c (Exit status) s t bytes told h k = absurd (let one = h.step k.before [] in let two = k.step [] in let no : Exits status (m.told b k.before []) ≡ Next (m.told c k.left ([] ++ k.bytes)) = sym one ∙ two in cc)
  ends_apart a b c (Trap trap) s t bytes told h k = absurd (let one = h.step k.before [] in let two = k.step [] in let no : Traps trap.cause trap.value ≡ Next (m.told c k.left ([] ++ k.bytes)) = sym one ∙ two in cc)
  ends_apart a b c InFault s t bytes told h k = omega (arith, ap m.retired h.same, k.retired)
  ends_apart a b c OutFault s t bytes told h k = omega (arith, ap m.retired h.same, k.retired)
  ends_apart a b c (Space refusal) s t bytes told h k = omega (arith, ap m.retired h.0, k.retired)
  ends_apart a b c Budget s t bytes told h k = absurd h

  pub ends_rise : (a b : G) (end : MachineEnd) (s : Streams) → DoesBeat m a (Some end) b s → m.retired a ≤ m.retired b
  ends_rise a b (Exit status) s h = omega (arith, h.retired)
  ends_rise a b (Trap trap) s h = omega (arith, ap m.retired h.same)
  ends_rise a b InFault s h = omega (arith, ap m.retired h.same)
  ends_rise a b OutFault s h = omega (arith, ap m.retired h.same)
  ends_rise a b (Space refusal) s h = omega (arith, ap m.retired h.0)
  ends_rise a b Budget s h = absurd h
