use Rattle.std.proofs.Common.{◌≡◌, ◌≤◌, ◌*◌, take}
use Rattle.std.specs.List.{sum_by}
use Rattle.page_plan.specs.KeptSizes.{sizes_told}
use Rattle.page_plan.specs.Sizes.{bytes_at}
use Rattle.page_plan.proofs.layout.encoded.Given as goal

abbrev pub invariant-loop-index : goal.invariant-loop-index
invariant-loop-index l = record {
  so_far : l.bytes ≡ sum_by (bytes_at l.target) (sizes_told l.zero (take l.index l.sizes));
  most : l.bytes ≤ 255 * l.index;
}
