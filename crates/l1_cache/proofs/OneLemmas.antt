-- What one call of a first level does is determined where that of the layer below is.
use Rattle.std.proofs.Common.{◌≡◌, ℕ, List, [], ◌∷◌, Option, Some, None, Result, Ok, Err, refl, sym, ap, ◌∙◌, subst}
use Rattle.std.specs.Option.{MatchOption}
use Rattle.std.specs.Prelude.{MatchResult}
use Rattle.hier_types.specs.declared.faults.NoSpace.{NoSpace}
use Rattle.hier_types.specs.Calls.{Answer, Call, Read, Write, Made}
use Rattle.hier_types.specs.PortCalls.{IsHeld}
use Rattle.recency.specs.declared.entry.Entry.{Entry}
use Rattle.recency.specs.Kept.{Kept, with_lines, entry_of, touched, put_in, dirty_victim, clean_last, clean_entry}
use Rattle.recency.specs.Levels.{set_of, with_set}
use Rattle.recency.proofs.OneLemmas.{IsOne, Made-one}
use Rattle.l1_cache.specs.FirstLevel.{FirstLevel}
use Rattle.l1_cache.specs.FirstCalls.{FirstTouch, FirstPoke}
use Rattle.l1_cache.specs.Touches.{Brings, PutsOut, Misses, TouchesSet, counted}

-- first levels whose parts are the same are one
same_first : {B : Type 0} (t u : FirstLevel B) → t.below ≡ u.below → t.sets ≡ u.sets → t.held ≡ u.held → t.counts ≡ u.counts → t.span ≡ u.span → t ≡ u
same_first {B} t u below sets held counts span =
    let a : FirstLevel B = record { below = t.below; sets = t.sets; held = t.held; counts = t.counts; span = t.span } in
    let b : FirstLevel B = record { below = u.below; sets = u.sets; held = u.held; counts = u.counts; span = u.span } in
    let same : a ≡ b = cc in same

-- what is held after an answer
held_one : (a c : Answer) (held other : Option ℕ) (line : ℕ) → a ≡ c → MatchResult a (λ _. IsHeld held line) (λ _. held ≡ None) → MatchResult c (λ _. IsHeld other line) (λ _. other ≡ None) → held ≡ other
held_one (Ok x) (Ok y) held other line same is is_other = is ∙ sym is_other
held_one (Ok x) (Err n) held other line same is is_other = absurd (let h = same in cc)
held_one (Err n) (Ok y) held other line same is is_other = absurd (let h = same in cc)
held_one (Err n) (Err m) held other line same is is_other = is ∙ sym is_other

-- a poke leaves one state
pub poke_one : {B : Type 0} (s : FirstLevel B) (at byte : ℕ) (t u : FirstLevel B) → FirstPoke s at byte t → FirstPoke s at byte u → t ≡ u
poke_one s at byte t u x y = same_first t u (x.below ∙ sym y.below) (x.sets ∙ sym y.sets) (x.held ∙ sym y.held) (x.counts ∙ sym y.counts) (x.span ∙ sym y.span)

module _ {B : Type 0} (did_read : B → ℕ → Result (List ℕ) NoSpace → B → Type 0) (did_write : B → ℕ → List ℕ → Answer → B → Type 0) (one : IsOne did_read did_write) where
  module _ (line : ℕ) where
    -- the answer of a touch, and the lines after it, where its read below was answered so
    abbrev touch_answer : Result (List ℕ) NoSpace → Answer
    touch_answer (Ok bytes) = Ok tt
    touch_answer (Err refusal) = Err refusal

    abbrev lines_after : Kept → Result (List ℕ) NoSpace → List Entry
    lines_after set (Ok bytes) = put_in set (clean_entry line bytes)
    lines_after set (Err refusal) = set.lines

    -- the one read that was made
    record Brought (set : Kept) (calls : List Call) (result : Answer) (after : List Entry) (s t : B) : Type 0 where
      answer : Result (List ℕ) NoSpace
      did : did_read s line answer t
      calls_are : calls ≡ Read line answer ∷ []
      result_is : result ≡ touch_answer answer
      after_is : after ≡ lines_after set answer

    brings_is : (set : Kept) (calls : List Call) (result : Answer) (after : List Entry) (s t : B) → Made did_read did_write s calls t → Brings set line calls result after → Brought set calls result after s t
    brings_is set (Read l (Ok b) ∷ []) (Ok x) after s t made is = record {
      answer = Ok b;
      did = subst (λ (z : B). did_read s line (Ok b) z) (sym made.2) (subst (λ (z : ℕ). did_read s z (Ok b) made.0) is.0 made.1);
      calls_are = ap (λ (z : ℕ). Read z (Ok b) ∷ []) is.0;
      result_is = refl;
      after_is = is.1;
    }
    brings_is set (Read l (Err cause) ∷ []) (Err refusal) after s t made is = record {
      answer = Err cause;
      did = subst (λ (z : B). did_read s line (Err cause) z) (sym made.2) (subst (λ (z : ℕ). did_read s z (Err cause) made.0) is.0 made.1);
      calls_are = ap (λ (z : ℕ). Read z (Err cause) ∷ []) is.0;
      result_is = ap Err is.1;
      after_is = is.2;
    }
    brings_is set calls result after s t made is = absurd is

    brings_one : (set : Kept) (calls made : List Call) (a c : Answer) (after rest : List Entry) (s t u : B) → Made did_read did_write s calls t → Brings set line calls a after
        → Made did_read did_write s made u → Brings set line made c rest → (a ≡ c) × (after ≡ rest) × (calls ≡ made)
    brings_one set calls made a c after rest s t u m is k other =
        let x = brings_is set calls a after s t m is in
        let y = brings_is set made c rest s u k other in
        let same = (one.reads s line x.answer y.answer t u x.did y.did).0 in
        (x.result_is ∙ ap touch_answer same ∙ sym y.result_is, x.after_is ∙ ap (lines_after set) same ∙ sym y.after_is, x.calls_are ∙ ap (λ (r : Result (List ℕ) NoSpace). Read line r ∷ []) same ∙ sym y.calls_are)

    module _ (set : Kept) (victim : Entry) where
      -- what comes after the write of the victim
      abbrev AfterWrite : Answer → B → List Call → Answer → List Entry → B → Type 0
      AfterWrite (Ok x) mid calls result after t =
          (more : List Call) × (calls ≡ Write victim.line victim.bytes (Ok tt) ∷ more) × Made did_read did_write mid more t × Brings (with_lines set (clean_last set.lines)) line more result after
      AfterWrite (Err refusal) mid calls result after t = (calls ≡ Write victim.line victim.bytes (Err refusal) ∷ []) × (result ≡ Err refusal) × (after ≡ set.lines)

      wrote : (s : B) (l : ℕ) (b : List ℕ) (w : Answer) (mid : B) → l ≡ victim.line → b ≡ victim.bytes → did_write s l b w mid → did_write s victim.line victim.bytes w mid
      wrote s l b w mid line bytes did = subst (λ (z : List ℕ). did_write s victim.line z w mid) bytes (subst (λ (z : ℕ). did_write s z b w mid) line did)

      named : (l : ℕ) (b : List ℕ) (w : Answer) (calls : List Call) → l ≡ victim.line → b ≡ victim.bytes → Write l b w ∷ calls ≡ Write victim.line victim.bytes w ∷ calls
      named l b w calls line bytes = cc

      puts_is : (calls : List Call) (result : Answer) (after : List Entry) (s t : B) → Made did_read did_write s calls t → PutsOut set victim line calls result after
          → (w : Answer) × (mid : B) × did_write s victim.line victim.bytes w mid × AfterWrite w mid calls result after t
      puts_is (Write l b (Ok x) ∷ calls) result after s t made is =
          (Ok tt, made.0, wrote s l b (Ok tt) made.0 is.0 is.1 made.1, (calls, named l b (Ok tt) calls is.0 is.1, made.2, is.2))
      puts_is (Write l b (Err cause) ∷ []) (Err refusal) after s t made is =
          (Err cause, made.0, wrote s l b (Err cause) made.0 is.0 is.1 made.1, (named l b (Err cause) [] is.0 is.1, ap Err is.2, is.3))
      puts_is calls result after s t made is = absurd is

      after_one : (w : Answer) (mid : B) (calls made : List Call) (a c : Answer) (after rest : List Entry) (t u : B) → AfterWrite w mid calls a after t → AfterWrite w mid made c rest u → (a ≡ c) × (after ≡ rest) × (calls ≡ made)
      after_one (Ok x) mid calls made a c after rest t u p q =
          let all = brings_one (with_lines set (clean_last set.lines)) p.0 q.0 a c after rest mid t u p.2 p.3 q.2 q.3 in
          (all.0, all.1, p.1 ∙ ap (λ (more : List Call). Write victim.line victim.bytes (Ok tt) ∷ more) all.2 ∙ sym q.1)
      after_one (Err n) mid calls made a c after rest t u p q = (p.1 ∙ sym q.1, p.2 ∙ sym q.2, p.0 ∙ sym q.0)

      puts_one : (calls made : List Call) (a c : Answer) (after rest : List Entry) (s t u : B) → Made did_read did_write s calls t → PutsOut set victim line calls a after
          → Made did_read did_write s made u → PutsOut set victim line made c rest → (a ≡ c) × (after ≡ rest) × (calls ≡ made)
      puts_one calls made a c after rest s t u m is k other =
          let x = puts_is calls a after s t m is in
          let y = puts_is made c rest s u k other in
          let both = one.writes s victim.line victim.bytes x.0 y.0 x.1 y.1 x.2 y.2 in
          after_one y.0 y.1 calls made a c after rest t u (subst (λ (z : B). AfterWrite y.0 z calls a after t) both.1 (subst (λ (w : Answer). AfterWrite w x.1 calls a after t) both.0 x.3)) y.3

    touches_one : (set : Kept) (calls made : List Call) (a c : Answer) (after rest : List Entry) (s t u : B) → Made did_read did_write s calls t → TouchesSet set line calls a after
        → Made did_read did_write s made u → TouchesSet set line made c rest → (a ≡ c) × (after ≡ rest) × (calls ≡ made)
    touches_one set calls made a c after rest s t u m is k other = by_kept (entry_of set.lines line) is other
      where
        by_victim : (victim : Option Entry) → MatchOption victim (Brings set line calls a after) (λ e. PutsOut set e line calls a after) → MatchOption victim (Brings set line made c rest) (λ e. PutsOut set e line made c rest)
            → (a ≡ c) × (after ≡ rest) × (calls ≡ made)
        by_victim None is other = brings_one set calls made a c after rest s t u m is k other
        by_victim (Some e) is other = puts_one set e calls made a c after rest s t u m is k other

        by_kept : (kept : Option Entry) → MatchOption kept (Misses set line calls a after) (λ e. (calls ≡ []) × (a ≡ Ok tt) × (after ≡ touched set.lines line))
            → MatchOption kept (Misses set line made c rest) (λ e. (made ≡ []) × (c ≡ Ok tt) × (rest ≡ touched set.lines line)) → (a ≡ c) × (after ≡ rest) × (calls ≡ made)
        by_kept None is other = by_victim (dirty_victim set) is other
        by_kept (Some e) is other = (is.1 ∙ sym other.1, is.2 ∙ sym other.2, is.0 ∙ sym other.0)

  -- a touch has one answer, and leaves one state
  pub touch_one : (s : FirstLevel B) (line : ℕ) (a c : Answer) (t u : FirstLevel B) → FirstTouch did_read did_write s line a t → FirstTouch did_read did_write s line c u → (a ≡ c) × (t ≡ u)
  touch_one s line a c t u x y =
      let p = x.made.gives in
      let q = y.made.gives in
      let all = touches_one line (set_of s.sets line) x.made.calls y.made.calls a c p.change.after q.change.after s.below t.below u.below x.made.made p.change.step y.made.made q.change.step in
      let below : t.below ≡ u.below = Made-one did_read did_write one y.made.calls s.below t.below u.below (subst (λ (z : List Call). Made did_read did_write s.below z t.below) all.2 x.made.made) y.made.made in
      let sets : t.sets ≡ u.sets = p.change.only ∙ ap (with_set s.sets line) all.1 ∙ sym q.change.only in
      let counts : t.counts ≡ u.counts = p.counts_are ∙ ap (λ (z : List Call). counted s.counts z a) all.2 ∙ ap (counted s.counts y.made.calls) all.0 ∙ sym q.counts_are in
      (all.0, same_first t u below sets (held_one a c t.held u.held line all.0 x.held y.held) counts (x.span ∙ sym y.span))
