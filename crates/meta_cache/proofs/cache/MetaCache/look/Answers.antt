use Rattle.std.proofs.Common.{◌∙◌, sym}
use Rattle.meta_cache.proofs.LookLemmas.{look_hit, look_miss, cache_looked}
use Rattle.meta_cache.proofs.cache.MetaCache.look.Goals as goal

pub invariant_of-self : goal.invariant_of-self
invariant_of-self c =
    rw (c.renew.ensures, c.touch.ensures.after, look_hit c.self.inside.entries c.args.page.0 c.args.chunk.now c.self.invariant (sym c.touch.ensures.found ∙ c.if-touch.true))
    (cache_looked c.self.inside.entries c.args.page.0 c.args.chunk.now c.self.invariant)

pub returns-then-touch-clause-after : goal.returns-then-touch-clause-after
returns-then-touch-clause-after c =
    rw (← c.self.view_is, c.renew.ensures, c.touch.ensures.after) (look_hit c.self.inside.entries c.args.page.0 c.args.chunk.now c.self.invariant (sym c.touch.ensures.found ∙ c.if-touch.true))

pub invariant_of-self-2 : goal.invariant_of-self-2
invariant_of-self-2 c =
    rw (c.put_in.ensures, c.touch.ensures.after, look_miss c.self.inside.entries c.args.page.0 c.args.chunk.now (sym c.touch.ensures.found ∙ c.if-touch.false))
    (cache_looked c.self.inside.entries c.args.page.0 c.args.chunk.now c.self.invariant)

pub returns-clause-after : goal.returns-clause-after
returns-clause-after c =
    rw (← c.self.view_is, c.put_in.ensures, c.touch.ensures.after) (look_miss c.self.inside.entries c.args.page.0 c.args.chunk.now (sym c.touch.ensures.found ∙ c.if-touch.false))
