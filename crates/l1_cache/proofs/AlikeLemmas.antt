-- First levels that are the same stay so over layers that are alike.
use Rattle.std.proofs.Common.{◌≡◌, ◌-◌, ◌%◌, ℕ, List, [], ◌∷◌, Option, Some, None, Result, Ok, Err, refl, sym, ap, ◌∙◌, subst}
use Rattle.std.specs.Option.{MatchOption}
use Rattle.hier_types.specs.declared.counts.L1Counts.{L1Counts}
use Rattle.hier_types.specs.declared.faults.NoSpace.{NoSpace}
use Rattle.hier_types.specs.Calls.{Answer, Call, Read, Write, Made}
use Rattle.hier_types.specs.Span.{Span, first, line_at}
use Rattle.recency.specs.declared.entry.Entry.{Entry}
use Rattle.recency.specs.Kept.{Kept, with_lines, entry_of, touched, put_in, dirty_victim, clean_last, clean_entry, poked}
use Rattle.recency.specs.Levels.{set_of, with_set}
use Rattle.l1_cache.specs.FirstLevel.{FirstLevel}
use Rattle.l1_cache.specs.FirstCalls.{FirstTouch, FirstPoke}
use Rattle.l1_cache.specs.Touches.{Brings, PutsOut, Misses, TouchesSet, Touches, counted}

-- Calls of two layers that are alike, where they are answered: reads give the same bytes, and all leave them alike.
pub record KeepsAlike {B : Type 0} (did_read : B → ℕ → Result (List ℕ) NoSpace → B → Type 0) (did_write : B → ℕ → List ℕ → Answer → B → Type 0) (Alike : B → B → Type 0) : Type 0 where
  pub reads : (s u : B) (line : ℕ) (b c : List ℕ) (t v : B) → Alike s u → did_read s line (Ok b) t → did_read u line (Ok c) v → (b ≡ c) × Alike t v
  pub writes : (s u : B) (line : ℕ) (bytes : List ℕ) (t v : B) → Alike s u → did_write s line bytes (Ok tt) t → did_write u line bytes (Ok tt) v → Alike t v

-- Two first levels are the same, over layers that are alike.
pub record SameFirst {B : Type 0} (Alike : B → B → Type 0) (s u : FirstLevel B) : Type 0 where
  pub below : Alike s.below u.below
  pub sets : s.sets ≡ u.sets
  pub held : s.held ≡ u.held
  pub counts : s.counts ≡ u.counts
  pub span : s.span ≡ u.span

-- the sets after a poke
abbrev poked_in : ℕ → ℕ → Span → List Kept → List Kept
poked_in at byte span sets = with_set sets (line_at span at) (poked (set_of sets (line_at span at)).lines (line_at span at) ((at - first span) % 64) byte)

-- a poke leaves them the same
pub poke_same : {B : Type 0} (Alike : B → B → Type 0) (s u : FirstLevel B) (at byte : ℕ) (t v : FirstLevel B) → SameFirst Alike s u → FirstPoke s at byte t → FirstPoke u at byte v → SameFirst Alike t v
poke_same {B} Alike s u at byte t v same h k = record {
  below = subst (λ (z : B). Alike z v.below) (sym h.below) (subst (λ (z : B). Alike s.below z) (sym k.below) same.below);
  sets = h.sets ∙ ap (λ (p : Span). poked_in at byte p s.sets) same.span ∙ ap (poked_in at byte u.span) same.sets ∙ sym k.sets;
  held = h.held ∙ same.held ∙ sym k.held;
  counts = h.counts ∙ same.counts ∙ sym k.counts;
  span = h.span ∙ same.span ∙ sym k.span;
}

module _ {B : Type 0} (did_read : B → ℕ → Result (List ℕ) NoSpace → B → Type 0) (did_write : B → ℕ → List ℕ → Answer → B → Type 0) (Alike : B → B → Type 0) (keeps : KeepsAlike did_read did_write Alike) where
  module _ (line : ℕ) where
    -- the one read of a touch that was answered
    record Brought (set : Kept) (calls : List Call) (after : List Entry) (s t : B) : Type 0 where
      bytes : List ℕ
      did : did_read s line (Ok bytes) t
      calls_are : calls ≡ Read line (Ok bytes) ∷ []
      after_is : after ≡ put_in set (clean_entry line bytes)

    brought : (set : Kept) (calls : List Call) (after : List Entry) (s t : B) → Made did_read did_write s calls t → Brings set line calls (Ok tt) after → Brought set calls after s t
    brought set (Read l (Ok b) ∷ []) after s t made is = record {
      bytes = b;
      did = subst (λ (z : B). did_read s line (Ok b) z) (sym made.2) (subst (λ (z : ℕ). did_read s z (Ok b) made.0) is.0 made.1);
      calls_are = ap (λ (z : ℕ). Read z (Ok b) ∷ []) is.0;
      after_is = is.1;
    }
    brought set (Read l (Ok b) ∷ c ∷ calls) after s t made is = absurd is
    brought set (Read l (Err cause) ∷ []) after s t made is = absurd is
    brought set (Read l (Err cause) ∷ c ∷ calls) after s t made is = absurd is
    brought set (Write l b a ∷ calls) after s t made is = absurd is
    brought set [] after s t made is = absurd is

    brings_same : (set : Kept) (calls made : List Call) (after rest : List Entry) (s t u v : B) → Alike s u → Made did_read did_write s calls t → Brings set line calls (Ok tt) after
        → Made did_read did_write u made v → Brings set line made (Ok tt) rest → (after ≡ rest) × (calls ≡ made) × Alike t v
    brings_same set calls made after rest s t u v alike m is k other =
        let x = brought set calls after s t m is in
        let y = brought set made rest u v k other in
        let both = keeps.reads s u line x.bytes y.bytes t v alike x.did y.did in
        (x.after_is ∙ ap (λ (b : List ℕ). put_in set (clean_entry line b)) both.0 ∙ sym y.after_is, x.calls_are ∙ ap (λ (b : List ℕ). Read line (Ok b) ∷ []) both.0 ∙ sym y.calls_are, both.1)

    -- the write of the victim, and the calls after it
    record PutOut (set : Kept) (victim : Entry) (calls : List Call) (after : List Entry) (s t : B) : Type 0 where
      mid : B
      more : List Call
      did : did_write s victim.line victim.bytes (Ok tt) mid
      calls_are : calls ≡ Write victim.line victim.bytes (Ok tt) ∷ more
      made : Made did_read did_write mid more t
      brings : Brings (with_lines set (clean_last set.lines)) line more (Ok tt) after

    put_out : (set : Kept) (victim : Entry) (calls : List Call) (after : List Entry) (s t : B) → Made did_read did_write s calls t → PutsOut set victim line calls (Ok tt) after → PutOut set victim calls after s t
    put_out set victim (Write l b (Ok x) ∷ calls) after s t made is = record {
      mid = made.0;
      more = calls;
      did = subst (λ (z : List ℕ). did_write s victim.line z (Ok tt) made.0) is.1 (subst (λ (z : ℕ). did_write s z b (Ok tt) made.0) is.0 made.1);
      calls_are = ap (λ (z : ℕ). Write z b (Ok tt) ∷ calls) is.0 ∙ ap (λ (z : List ℕ). Write victim.line z (Ok tt) ∷ calls) is.1;
      made = made.2;
      brings = is.2;
    }
    put_out set victim (Write l b (Err cause) ∷ []) after s t made is = absurd is
    put_out set victim (Write l b (Err cause) ∷ c ∷ calls) after s t made is = absurd is
    put_out set victim (Read l a ∷ calls) after s t made is = absurd is
    put_out set victim [] after s t made is = absurd is

    puts_same : (set : Kept) (victim : Entry) (calls made : List Call) (after rest : List Entry) (s t u v : B) → Alike s u → Made did_read did_write s calls t → PutsOut set victim line calls (Ok tt) after
        → Made did_read did_write u made v → PutsOut set victim line made (Ok tt) rest → (after ≡ rest) × (calls ≡ made) × Alike t v
    puts_same set victim calls made after rest s t u v alike m is k other =
        let x = put_out set victim calls after s t m is in
        let y = put_out set victim made rest u v k other in
        let mids = keeps.writes s u victim.line victim.bytes x.mid y.mid alike x.did y.did in
        let all = brings_same (with_lines set (clean_last set.lines)) x.more y.more after rest x.mid t y.mid v mids x.made x.brings y.made y.brings in
        (all.0, x.calls_are ∙ ap (λ (more : List Call). Write victim.line victim.bytes (Ok tt) ∷ more) all.1 ∙ sym y.calls_are, all.2)

    touches_same : (set : Kept) (calls made : List Call) (after rest : List Entry) (s t u v : B) → Alike s u → Made did_read did_write s calls t → TouchesSet set line calls (Ok tt) after
        → Made did_read did_write u made v → TouchesSet set line made (Ok tt) rest → (after ≡ rest) × (calls ≡ made) × Alike t v
    touches_same set calls made after rest s t u v alike m is k other = by_kept (entry_of set.lines line) is other
      where
        by_victim : (victim : Option Entry) → MatchOption victim (Brings set line calls (Ok tt) after) (λ e. PutsOut set e line calls (Ok tt) after)
            → MatchOption victim (Brings set line made (Ok tt) rest) (λ e. PutsOut set e line made (Ok tt) rest) → (after ≡ rest) × (calls ≡ made) × Alike t v
        by_victim None is other = brings_same set calls made after rest s t u v alike m is k other
        by_victim (Some e) is other = puts_same set e calls made after rest s t u v alike m is k other

        by_kept : (kept : Option Entry) → MatchOption kept (Misses set line calls (Ok tt) after) (λ e. (calls ≡ []) × (◌≡◌ {A = Answer} (Ok tt) (Ok tt)) × (after ≡ touched set.lines line))
            → MatchOption kept (Misses set line made (Ok tt) rest) (λ e. (made ≡ []) × (◌≡◌ {A = Answer} (Ok tt) (Ok tt)) × (rest ≡ touched set.lines line)) → (after ≡ rest) × (calls ≡ made) × Alike t v
        by_kept None is other = by_victim (dirty_victim set) is other
        by_kept (Some e) is other =
            let first : t ≡ s = subst (λ (z : List Call). Made did_read did_write s z t) is.0 m in
            let second : v ≡ u = subst (λ (z : List Call). Made did_read did_write u z v) other.0 k in
            (is.2 ∙ sym other.2, is.0 ∙ sym other.0, subst (λ (z : B). Alike z v) (sym first) (subst (λ (z : B). Alike s z) (sym second) alike))

  -- a touch that is answered leaves them the same
  pub touch_same : (s u : FirstLevel B) (line : ℕ) (t v : FirstLevel B) → SameFirst Alike s u → FirstTouch did_read did_write s line (Ok tt) t → FirstTouch did_read did_write u line (Ok tt) v → SameFirst Alike t v
  touch_same s u line t v same x y =
      let p = x.made.gives in
      let gives : Touches s.sets s.counts line (Ok tt) v.sets v.counts y.made.calls =
      subst (λ (z : List Kept). Touches z s.counts line (Ok tt) v.sets v.counts y.made.calls) (sym same.sets) (subst (λ (z : L1Counts). Touches u.sets z line (Ok tt) v.sets v.counts y.made.calls) (sym same.counts) y.made.gives) in
      let all = touches_same line (set_of s.sets line) x.made.calls y.made.calls p.change.after gives.change.after s.below t.below u.below v.below same.below x.made.made p.change.step y.made.made gives.change.step in
      record {
        below = all.2;
        sets = p.change.only ∙ ap (with_set s.sets line) all.0 ∙ sym gives.change.only;
        held = x.held ∙ sym y.held;
        counts = p.counts_are ∙ ap (λ (z : List Call). counted s.counts z (Ok tt)) all.1 ∙ sym gives.counts_are;
        span = x.span ∙ same.span ∙ sym y.span;
      }
