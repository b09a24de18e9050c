use Rattle.page_store.specs.Store.{sizing_of}
use Rattle.hier_machine.specs.Placed.{PlacedUpTo}
use Rattle.hier_machine.proofs.opening.place_image.Given as goal

abbrev pub invariant-loop-number : goal.invariant-loop-number
invariant-loop-number l = record {
  placed : PlacedUpTo l.image (sizing_of l.fn.store) l.number l.store;
}
