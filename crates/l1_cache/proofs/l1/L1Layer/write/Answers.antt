use Rattle.std.proofs.Common.{◌∙◌, refl}
use Rattle.hier_types.proofs.CallLemmas.{Makes-weaker}
use Rattle.l1_cache.proofs.l1.L1Layer.write.Goals as goal

pub returns-clause-did : goal.returns-clause-did
returns-clause-did g c = record {
  span = c.set_held.ensures.span ∙ c.in_default.ensures.span;
  held = c.set_held.ensures.held ∙ c.in_default.ensures.held;
  made = rw (c.set_held.ensures.below, c.set_held.ensures.sets, c.set_held.ensures.counts) (Makes-weaker c.in_default.ensures.did (λ calls did. (c.touch_line.new.self.sets, did, refl)));
}
