use Rattle.std.proofs.Common.{◌∙◌, sym, refl}
use Rattle.recency.proofs.LevelLemmas.{in_range, touch_same}
use Rattle.l1_cache.proofs.StepLemmas.{held_is, hit_again, touched_none, touch_level}
use Rattle.l1_cache.proofs.l1.L1.hit.Goals as goal

pub returns-then-eq-clause-did : goal.returns-then-eq-clause-did
returns-then-eq-clause-did g c = λ t.
    rw (← c.self.view_is, c.raise.ensures) (hit_again c.self.invariant c.self.inside.counts c.args.line.0 (held_is c.self.inside.held c.args.line.0 (sym c.eq.ensures ∙ c.if-eq.true)))

pub invariant_of-self-then-not-touch : goal.invariant_of-self-then-not-touch
invariant_of-self-then-not-touch g c =
    let inside = in_range (g.B.Layer.content c.self.inside.below) c.self.inside.sets c.args.line.0 c.self.invariant.sound in
    rw (c.touch.ensures.after ∙ touched_none c.self.inside.sets c.args.line.0 inside (sym c.touch.ensures.found ∙ c.if-not-touch.true)) c.self.invariant

pub returns-then-not-touch-clause-content : goal.returns-then-not-touch-clause-content
returns-then-not-touch-clause-content g c =
    let inside = in_range (g.B.Layer.content c.self.inside.below) c.self.inside.sets c.args.line.0 c.self.invariant.sound in
    rw (← c.self.view_is) (rw (c.touch.ensures.after ∙ touched_none c.self.inside.sets c.args.line.0 inside (sym c.touch.ensures.found ∙ c.if-not-touch.true)) refl)

pub returns-then-not-touch-clause-same : goal.returns-then-not-touch-clause-same
returns-then-not-touch-clause-same g c = λ f.
    let inside = in_range (g.B.Layer.content c.self.inside.below) c.self.inside.sets c.args.line.0 c.self.invariant.sound in
    rw (← c.self.view_is) (rw (c.touch.ensures.after ∙ touched_none c.self.inside.sets c.args.line.0 inside (sym c.touch.ensures.found ∙ c.if-not-touch.true)) refl)

pub invariant_of-self-2 : goal.invariant_of-self-2
invariant_of-self-2 g c = rw c.touch.ensures.after (touch_level c.self.invariant c.args.line.0 (sym c.touch.ensures.found ∙ c.if-not-touch.false))

pub returns-clause-content : goal.returns-clause-content
returns-clause-content g c =
    rw (← c.self.view_is) (rw c.touch.ensures.after (touch_same (g.B.Layer.content c.self.inside.below) c.self.inside.sets c.args.line.0 c.self.invariant.sound (sym c.touch.ensures.found ∙ c.if-not-touch.false)))
