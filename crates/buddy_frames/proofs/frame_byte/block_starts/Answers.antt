use Rattle.std.proofs.Common.{◌≡◌, ◌<◌, arith}
use Rattle.buddy_frames.proofs.TableLemmas.{starts0, starts1, starts2, starts3, starts0_are, starts1_are, starts2_are, starts3_are}
use Rattle.buddy_frames.proofs.frame_byte.block_starts.Goals as goal

pub returns-in-0 : goal.returns-in-0
unfolding starts0
returns-in-0 c =
    let small : c.args.byte < 256 = omega arith in
    rw c.in-0.is (starts0_are c.args.byte small)

pub returns-in-1 : goal.returns-in-1
unfolding starts1
returns-in-1 c =
    let small : c.args.byte < 256 = omega arith in
    rw c.in-1.is (starts1_are c.args.byte small)

pub returns-in-2 : goal.returns-in-2
unfolding starts2
returns-in-2 c =
    let small : c.args.byte < 256 = omega arith in
    rw c.in-2.is (starts2_are c.args.byte small)

pub returns-in_default : goal.returns-in_default
unfolding starts3
returns-in_default c =
    let small : c.args.byte < 256 = omega arith in
    let three : c.args.order ≡ 3 = omega arith in
    rw three (starts3_are c.args.byte small)
