use Rattle.std.proofs.Common.{ℕ, subst, arith, inl, inr}
use Rattle.std.proofs.lemmas.Bool.{cases_eq}
use Rattle.buddy_frames.specs.Units.{place_at, IsFreeBlock}
use Rattle.buddy_frames.proofs.ChoiceLemmas.{no_place}
use Rattle.buddy_frames.proofs.frames.Frames.choose.Goals as goal

pub loop-k-preserved : goal.loop-k-preserved
loop-k-preserved c = λ j u lo hi b.
    elim (cases_eq j c.loop-k.k) [
      | inl e ↦
          let here : IsFreeBlock c.args.self.now (place_at c.loop-k.k u) = subst (λ (k : ℕ). IsFreeBlock c.args.self.now (place_at k u)) e b in
          c.in_default.ensures u here
      | inr ne ↦ c.loop-k.invariant j u lo (omega arith) b
    ]

pub returns : goal.returns
returns c = no_place c.args.self.now c.args.order (λ j u lo hi. c.loop-k.invariant j u lo (omega arith))
