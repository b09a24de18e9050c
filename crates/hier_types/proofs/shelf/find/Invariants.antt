use Rattle.std.proofs.Common.{◌≡◌, drop}
use Rattle.hier_types.specs.Outside.{file_of}
use Rattle.hier_types.specs.Shelves.{entries}
use Rattle.hier_types.proofs.shelf.find.Given as goal

abbrev pub invariant-loop-own : goal.invariant-loop-own
invariant-loop-own l = file_of (entries (drop l.own-index l.files)) l.name ≡ file_of (entries l.files) l.name
