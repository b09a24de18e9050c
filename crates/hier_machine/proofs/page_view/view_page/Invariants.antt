use Rattle.std.proofs.Common.{◌≡◌, ◌*◌, length, take, drop}
use Rattle.hier_types.specs.Lines.{flatten}
use Rattle.hier_machine.proofs.page_view.view_page.Given as goal

abbrev pub invariant-loop-index : goal.invariant-loop-index
invariant-loop-index g l = record {
  len : length l.into ≡ 4096;
  front : take (64 * l.index) l.into ≡ take (64 * l.index) (drop (4096 * l.page.0) (flatten (g.B.Layer.content l.layer)));
}
