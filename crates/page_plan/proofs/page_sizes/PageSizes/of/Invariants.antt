use Rattle.std.proofs.Common.{◌≡◌, ◌<◌, ℕ, [], length, take, get_or}
use Rattle.page_plan.specs.KeptSizes.{kept_sizes}
use Rattle.page_plan.proofs.page_sizes.PageSizes.of.Given as goal

abbrev pub invariant-loop-index : goal.invariant-loop-index
invariant-loop-index l = record {
  whole : length l.sizes ≡ 64;
  so_far : take l.index l.sizes ≡ kept_sizes l.codec (take l.index l.page);
  lines : (k : ℕ) → k < l.index → length (get_or l.page k []) ≡ 64;
}
