use Rattle.std.proofs.Common.{◌≡◌, length}
use Rattle.page_store.proofs.tests.an_emptied_page_makes_room.Given as goal

abbrev pub invariant-loop-page : goal.invariant-loop-page
invariant-loop-page g l = length l.pages.lines ≡ 576
