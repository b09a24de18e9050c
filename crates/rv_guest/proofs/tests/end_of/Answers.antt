use Rattle.std.proofs.Common.{◌≡◌, [], ap, arith}
use Rattle.rv_guest.specs.State.{GuestState}
use Rattle.rv_guest.proofs.tests.end_of.Goals as goal

pub run-requires : goal.run-requires
run-requires c =
    let none : c.start.result.retired ≡ 0 = ap (λ (s : GuestState). s.retired) (c.start.ensures []) in
    omega arith
