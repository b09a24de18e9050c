-- A run over told input is one run.
use Rattle.std.proofs.Common.{◌≡◌, ◌<◌, ◌≤◌, ◌⊎◌, ℕ, zero, suc, List, Option, Some, None, refl, sym, ◌∙◌, ap, subst, arith, inl, inr}
use Rattle.std.proofs.lemmas.Bool.{cases_lt}
use Rattle.hier_types.specs.declared.beats.Beat.{Beat}
use Rattle.hier_types.specs.Streams.{Streams, at_first}
use Rattle.hier_types.specs.Beats.{IsBeat}
use Rattle.beat_runs.specs.Points.{EndsAtBeat, EndsBefore, Passed, PassesBeat, Point, Runs, point}

-- both streams tell these bytes of the input
pub record TellBoth (s t : Streams) (bytes : List ℕ) : Type 0 where
  pub first : s.input.before ≡ Some bytes
  pub second : t.input.before ≡ Some bytes

-- Over told input a beat has one answer, but for a failure of a stream; and a beat that ends a run retires fewer
-- instructions than the same beat where it ends none.
pub record IsDetermined {S E : Type 0} (retired : S → ℕ) (stands : ℕ → S → Option (E × S)) (Does : Beat → S → Option E → S → Streams → Type 0) : Type 0 where
  pub on : (beat : Beat) (a b c : S) (s t : Streams) (bytes : List ℕ) → TellBoth s t bytes → Does beat a None b s → Does beat a None c t
      → (c ≡ b) × (left : List ℕ) × (s.input.after ≡ Some left) × (t.input.after ≡ Some left)
  pub ends : (beat : Beat) (a b c : S) (end : E) (s t : Streams) (bytes : List ℕ) → TellBoth s t bytes → Does beat a (Some end) b s → Does beat a (Some end) c t → c ≡ b
  pub apart : (beat : Beat) (a b c : S) (end : E) (s t : Streams) (bytes : List ℕ) → TellBoth s t bytes → Does beat a (Some end) b s → Does beat a None c t → retired b < retired c
  pub rises : (beat : Beat) (a b : S) (result : Option E) (s : Streams) → Does beat a result b s → retired a ≤ retired b
  pub stops : (budget : ℕ) (a b : S) (end : E) → stands budget a ≡ Some (end, b) → retired a ≤ retired b

module _ {S E : Type 0} (retired : S → ℕ) (stands : ℕ → S → Option (E × S)) (Does : Beat → S → Option E → S → Streams → Type 0) (is_determined : IsDetermined retired stands Does) (word : List Beat) (budget : ℕ) where
  -- the points of two runs after as many beats
  record AreSame (a b : Point S) : Type 0 where
    state : b.state ≡ a.state
    left : List ℕ
    first : a.streams.input.after ≡ Some left
    second : b.streams.input.after ≡ Some left

  one_beat : (count : ℕ) (one other : Beat) → IsBeat word count one → IsBeat word count other → other ≡ one
  one_beat count one other is is' = let e = is in let f = is' in cc

  same_points : (old : S) (s t : Streams) (bytes : List ℕ) → TellBoth s t bytes → (count : ℕ) (a b : Point S) → Passed (PassesBeat stands Does budget) word (point old (at_first s)) count a
      → Passed (PassesBeat stands Does budget) word (point old (at_first t)) count b → AreSame a b
  same_points old s t bytes told zero a b h k = rw (h, k) (record { state = refl; left = bytes; first = told.first; second = told.second })
  same_points old s t bytes told (suc count) a b (mid, beat, passed, is, by) (mid', beat', passed', is', by') =
      let so = same_points old s t bytes told count mid mid' passed passed' in
      let does : Does beat mid.state None b.state by'.streams = subst (λ (d : Beat). Does d mid.state None b.state by'.streams) (one_beat count beat beat' is is') (subst (λ (m : S). Does beat' m None b.state by'.streams) so.state by'.does) in
      let on = is_determined.on beat mid.state a.state b.state by.streams by'.streams so.left (record { first = by.meets.input ∙ so.first; second = by'.meets.input ∙ so.second }) by.does does in
      record { state = on.0; left = on.1; first = ap (λ (u : Streams). u.input.after) by.joined ∙ on.2; second = ap (λ (u : Streams). u.input.after) by'.joined ∙ on.3 }

  -- the beat of a number among those that were passed
  record WasPassed (start : Point S) (number : ℕ) (now : Point S) : Type 0 where
    a : Point S
    b : Point S
    beat : Beat
    passed : Passed (PassesBeat stands Does budget) word start number a
    is : IsBeat word number beat
    by : PassesBeat stands Does budget beat a b
    later : retired b.state ≤ retired now.state

  was_passed : (start : Point S) (number count : ℕ) (now : Point S) → number < count → Passed (PassesBeat stands Does budget) word start count now → WasPassed start number now
  was_passed start number zero now lt h = absurd (omega arith)
  was_passed start number (suc count) now lt (mid, beat, passed, is, by) = elim (cases_lt number count) [
    | inl less ↦
        (let so = was_passed start number count mid less passed in
        let rises = is_determined.rises beat mid.state now.state None by.streams by.does in
        record { a = so.a; b = so.b; beat = so.beat; passed = so.passed; is = so.is; by = so.by; later = omega (arith, so.later, rises) })
    | inr last ↦
        (let same : number ≡ count = omega arith in
        rw same (record { a = mid; b = now; beat = beat; passed = passed; is = is; by = by; later = omega arith }))
  ]

  -- a run retires no fewer than before its last beat
  last_rises : (count : ℕ) (a b : Point S) (end : E) → EndsAtBeat stands Does word budget count a end b ⊎ EndsBefore stands budget a end b → retired a.state ≤ retired b.state
  last_rises count a b end (inl by) = is_determined.rises by.beat a.state b.state (Some end) by.streams by.does
  last_rises count a b end (inr by) = is_determined.stops budget a.state b.state end by.stands_so

  -- where a run ended, another that passed that beat has retired more
  ended_first : (count : ℕ) (a : Point S) (end : E) (b : Point S) (a' b' : Point S) (beat : Beat) → AreSame a a' → EndsAtBeat stands Does word budget count a end b ⊎ EndsBefore stands budget a end b → IsBeat word count beat
      → PassesBeat stands Does budget beat a' b' → retired b.state < retired b'.state
  ended_first count a end b a' b' beat so (inl by) is by' =
      let does : Does by.beat a.state None b'.state by'.streams = subst (λ (d : Beat). Does d a.state None b'.state by'.streams) (one_beat count by.beat beat by.is is) (subst (λ (m : S). Does beat m None b'.state by'.streams) so.state by'.does) in
      is_determined.apart by.beat a.state b.state b'.state end by.streams by'.streams so.left (record { first = by.meets.input ∙ so.first; second = by'.meets.input ∙ so.second }) by.does does
  ended_first count a end b a' b' beat so (inr by) is by' =
      let free : stands budget a.state ≡ None = subst (λ (m : S). stands budget m ≡ None) so.state by'.allowed in
      absurd (let stop = by.stands_so in cc)

  shorter : (old : S) (s t : Streams) (bytes : List ℕ) → TellBoth s t bytes → (end end' : E) (new new' : S) (h : Runs stands Does word budget old end new s) (k : Runs stands Does word budget old end' new' t) → h.count < k.count → retired new < retired new'
  shorter old s t bytes told end end' new new' h k lt =
      let was = was_passed (point old (at_first t)) h.count k.count k.before lt k.passed in
      let so = same_points old s t bytes told h.count h.before was.a h.passed was.passed in
      let less = ended_first h.count h.before end (point new s) was.a was.b was.beat so h.ends was.is was.by in
      omega (arith, less, was.later, last_rises k.count k.before (point new' t) end' k.ends)

  -- the last states of two runs that end alike after as many beats
  same_ends : (count : ℕ) (a a' b b' : Point S) (end : E) → AreSame a a' → EndsAtBeat stands Does word budget count a end b ⊎ EndsBefore stands budget a end b
      → EndsAtBeat stands Does word budget count a' end b' ⊎ EndsBefore stands budget a' end b' → b'.state ≡ b.state
  same_ends count a a' b b' end so (inl by) (inl by') =
      let does : Does by.beat a.state (Some end) b'.state by'.streams = subst (λ (d : Beat). Does d a.state (Some end) b'.state by'.streams) (one_beat count by.beat by'.beat by.is by'.is) (subst (λ (m : S). Does by'.beat m (Some end) b'.state by'.streams) so.state by'.does) in
      is_determined.ends by.beat a.state b.state b'.state end by.streams by'.streams so.left (record { first = by.meets.input ∙ so.first; second = by'.meets.input ∙ so.second }) by.does does
  same_ends count a a' b b' end so (inl by) (inr by') =
      let stop : stands budget a.state ≡ Some (end, b'.state) = subst (λ (m : S). stands budget m ≡ Some (end, b'.state)) so.state by'.stands_so in
      absurd (let free = by.allowed in cc)
  same_ends count a a' b b' end so (inr by) (inl by') =
      let free : stands budget a.state ≡ None = subst (λ (m : S). stands budget m ≡ None) so.state by'.allowed in
      absurd (let stop = by.stands_so in cc)
  same_ends count a a' b b' end so (inr by) (inr by') =
      let stop : stands budget a.state ≡ Some (end, b'.state) = subst (λ (m : S). stands budget m ≡ Some (end, b'.state)) so.state by'.stands_so in
      let stop' = by.stands_so in
      let left : E × S = (end, b'.state) in
      let right : E × S = (end, b.state) in
      let both : Some left ≡ Some right = sym stop ∙ stop' in
      let pairs : left ≡ right = cc in
      ap (λ (p : E × S). p.1) pairs

  -- two runs from one state over the same told input, which end alike with as many instructions retired, leave one state
  pub one_run : (old : S) (s t : Streams) (bytes : List ℕ) → TellBoth s t bytes → (end : E) (new new' : S) → Runs stands Does word budget old end new s → Runs stands Does word budget old end new' t → retired new ≡ retired new' → new' ≡ new
  one_run old s t bytes told end new new' h k same = elim (cases_lt h.count k.count) [
    | inl lt ↦ absurd (omega (arith, shorter old s t bytes told end end new new' h k lt))
    | inr le ↦ elim (cases_lt k.count h.count) [
      | inl lt ↦ absurd (omega (arith, shorter old t s bytes (record { first = told.second; second = told.first }) end end new' new k h lt))
      | inr le' ↦
          (let count : k.count ≡ h.count = omega arith in
          let passed : Passed (PassesBeat stands Does budget) word (point old (at_first t)) h.count k.before = subst (λ n. Passed (PassesBeat stands Does budget) word (point old (at_first t)) n k.before) count k.passed in
          let ends : EndsAtBeat stands Does word budget h.count k.before end (point new' t) ⊎ EndsBefore stands budget k.before end (point new' t) =
          subst (λ n. EndsAtBeat stands Does word budget n k.before end (point new' t) ⊎ EndsBefore stands budget k.before end (point new' t)) count k.ends in
          same_ends h.count h.before k.before (point new s) (point new' t) end (same_points old s t bytes told h.count h.before k.before h.passed passed) h.ends ends)
    ]
  ]
