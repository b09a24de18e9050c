use Rattle.std.proofs.Common.{◌≡◌, ◌≤◌, Some, take}
use Rattle.line_codec.specs.Layout.{exceptions_of}
use Rattle.page_plan.specs.KeptSizes.{sizes_told}
use Rattle.page_plan.proofs.layout.exceptions.Given as goal

abbrev pub invariant-loop-index : goal.invariant-loop-index
invariant-loop-index l = record {
  so_far : l.count ≡ exceptions_of (sizes_told (Some 1) (take l.index l.sizes)) l.target;
  most : l.count ≤ l.index;
}
