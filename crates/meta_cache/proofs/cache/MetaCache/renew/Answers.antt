use Rattle.meta_cache.proofs.LookLemmas.{cache_with_copy}
use Rattle.meta_cache.proofs.cache.MetaCache.renew.Goals as goal

pub invariant_of-self : goal.invariant_of-self
invariant_of-self c = rw c.renew.ensures (cache_with_copy c.self.inside.entries c.args.page.0 c.args.chunk.now c.self.invariant)
