use Rattle.std.proofs.Common.{◌≡◌, ◌+◌, true, take}
use Rattle.std.specs.List.{list_all}
use Rattle.bdi_codec.specs.Deltas.{is_near}
use Rattle.bdi_codec.proofs.row.are_near.Given as goal

abbrev pub invariant-loop-n : goal.invariant-loop-n
invariant-loop-n l = list_all (is_near (l.shape.top + 1) l.shape.half l.base) (take l.n-index l.elements) ≡ true
