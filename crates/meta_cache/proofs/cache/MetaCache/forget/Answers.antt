use Rattle.meta_cache.proofs.LookLemmas.{cache_forgotten}
use Rattle.meta_cache.proofs.cache.MetaCache.forget.Goals as goal

pub invariant_of-self : goal.invariant_of-self
invariant_of-self c = rw c.forget.ensures (cache_forgotten c.self.inside.entries c.args.page.0 c.self.invariant)
